-- Beside specs/Chain.antt: what no clause of `run` reaches.
use Rattle.std.specs.Prelude.{◌≡◌, ⊤, Result, Ok, Err}
use Rattle.plain_values.specs.declared.refusal.Refusal.{Refusal}
use Rattle.plain_values.specs.declared.refusal.Stop.{Stop}
use Rattle.plain_values.specs.declared.refusal.Stop.TheVariants.{Memory, Refused}
use Rattle.plain_values.specs.Refusal.{refusal}

-- ---- tests, one after the other

-- The answer of a call whose tests these are: their value or their refusal, or else want of memory.
abbrev pub Answers : {A : Type 0} → Result A Refusal → Result A Stop → Type 0
Answers tests (Ok value) = tests ≡ Ok value
Answers tests (Err (Refused refusal)) = tests ≡ Err refusal
Answers tests (Err Memory) = ⊤
