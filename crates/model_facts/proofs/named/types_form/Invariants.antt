use Rattle.std.proofs.Common.{◌≡◌, ◌<◌, ℕ, Some}
use Rattle.error_libraries.specs.Printed.{TypeName, name_of}
use Rattle.error_libraries.specs.inner.Printed.{AreIdentifiers}
use Rattle.model_facts.proofs.named.types_form.Given as goal

abbrev pub invariant-loop-number : goal.invariant-loop-number
invariant-loop-number l = (number : ℕ) (name : TypeName) → number < l.number → name_of l.types number ≡ Some name → AreIdentifiers name
