use Rattle.std.proofs.Common.{◌≤◌, ◌-◌, length}
use Rattle.model_facts.proofs.universe.count_types.Given as goal

abbrev pub invariant-loop-count : goal.invariant-loop-count
invariant-loop-count l = l.count ≤ length l.types.types

abbrev pub decreases-loop-count : goal.decreases-loop-count
decreases-loop-count l = length l.types.types - l.count
