use Rattle.std.proofs.Common.{ℕ, ◌≡◌, Some, length, slice_get}
use Rattle.round_gates.specs.declared.tree.Input.{Input}
use Rattle.round_gates.specs.declared.tree.Input.TheVariants as inputs
use Rattle.merged_gates.proofs.gates.themselves.Given as goal

abbrev pub invariant-loop-n : goal.invariant-loop-n
invariant-loop-n l = record {
  long : length l.stands.items ≡ l.n;
  stands : (k : ℕ) (input : Input) → slice_get l.stands.items k ≡ Some input → input ≡ inputs.Gate k;
}
