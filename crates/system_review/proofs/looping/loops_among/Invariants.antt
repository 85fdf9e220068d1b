use Rattle.std.proofs.Common.{nat_eq}
use Rattle.std.specs.HashSet.{contains}
use Rattle.fault_system.specs.Systems.{IsSystem}
use Rattle.dependency_blocks.specs.inner.Blocks.{AreAllBlocks}
use Rattle.system_review.proofs.LoopLaws.{Gathered}
use Rattle.system_review.proofs.looping.loops_among.Given as goal

abbrev pub invariant-loop-number : goal.invariant-loop-number
invariant-loop-number l = (is : IsSystem l.system) × (blocks : AreAllBlocks l.system l.blocks) × Gathered l.system is l.blocks blocks (contains nat_eq l.seen) l.loops l.number
