-- With what the reading of a requirement stops.
use Rattle.std.specs.Prelude.{◌≡◌, ℕ, ⊤, Result, Err}
use Rattle.requirements.specs.declared.reading.Fault.{Fault}
use Rattle.requirements.specs.declared.reading.Fault.TheVariants.{Memory, Wrong}

-- For want of memory, or at the place that the definition says.
abbrev pub IsFault : {A : Type 0} → Result A ℕ → Fault → Type 0
IsFault result Memory = ⊤
IsFault result (Wrong at) = result ≡ Err at
