-- Beside specs/Named.antt: what no clause of `run` reaches.
use Rattle.std.specs.Prelude.{ℕ, Bool, List}
use denote.Ref.{Bor}
use Rattle.event_origins.specs.Named.{Declaration, has_name}

-- the same of a name that is lent
abbrev pub has_text : Bor (List ℕ) → Declaration → Bool
has_text name declaration = has_name name.now declaration
