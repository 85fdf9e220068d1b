use Rattle.std.proofs.Common.{◌≡◌, take}
use Rattle.round_gates.specs.Walks.{nodes_of}
use Rattle.round_gates.proofs.walking.nodes_of.Given as goal

abbrev pub invariant-loop-part : goal.invariant-loop-part
invariant-loop-part l = l.nodes.items ≡ nodes_of (take l.part-index l.parts)
