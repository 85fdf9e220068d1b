-- The report `verdict`, beside those of the tool.
use Rattle.std.specs.Prelude.{ℕ, List, [], ◌∷◌, ◌++◌, ◌==◌, codes, if◌then◌else◌, length}
use Rattle.std.specs.List.{list_any}
use Rattle.system_answers.specs.Voices.{Voice}
use Rattle.fta_start.specs.inner.Own.{own_voices}

-- its text: whether some set has one event
abbrev pub verdict_text : List (List ℕ) → List (List ℕ) → List ℕ
verdict_text sets names = if list_any (λ set. length set == 1) sets then codes "single failure\n" else codes "no single failure\n"

-- the reports of the tool, and this one behind them
abbrev pub all_voices : List Voice
all_voices = own_voices ++ record { label = codes "verdict"; text = λ sets names. verdict_text sets names } ∷ []
