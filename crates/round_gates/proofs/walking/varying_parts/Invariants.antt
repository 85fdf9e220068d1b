use Rattle.std.proofs.Common.{◌≡◌, ◌++◌, drop}
use Rattle.round_gates.specs.Walks.{varying_parts}
use Rattle.round_gates.proofs.walking.varying_parts.Given as goal

abbrev pub invariant-loop-part : goal.invariant-loop-part
invariant-loop-part l = l.left ++ varying_parts (drop l.part-index l.parts) ≡ varying_parts l.parts
