-- Beside specs/Places.antt: what no clause of `run` reaches.
use Rattle.std.specs.Prelude.{Option, Some, None}

-- where the item is there, it is so
abbrev pub IfThere : {R : Type 0} → Option R → (R → Type 0) → Type 0
IfThere None P = Unit {0}
IfThere (Some item) P = P item
