-- The reports of the tool.
use Rattle.std.specs.Prelude.{List, [], ◌∷◌, codes}
use Rattle.cut_reports.specs.inner.Orders.{orders_text}
use Rattle.cut_reports.specs.inner.Singles.{singles_text}
use Rattle.cut_reports.specs.inner.Uses.{uses_text}
use Rattle.system_answers.specs.Voices.{Voice}

-- how many sets of each order there are, in how many sets each event is, and which events are sets by themselves
abbrev pub own_voices : List Voice
own_voices =
    record { label = codes "orders"; text = λ sets names. orders_text sets names }
    ∷ record { label = codes "uses"; text = λ sets names. uses_text sets names }
    ∷ record { label = codes "singles"; text = λ sets names. singles_text sets names } ∷ []
