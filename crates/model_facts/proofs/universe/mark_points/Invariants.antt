use Rattle.std.proofs.Common.{flat_map, take}
use Rattle.model_facts.specs.Assembly.{point_numbers}
use Rattle.model_facts.specs.inner.Steps.{Marks}
use Rattle.model_facts.proofs.universe.mark_points.Given as goal

abbrev pub invariant-loop-point : goal.invariant-loop-point
invariant-loop-point l = Marks l.fn.marks (flat_map point_numbers (take l.point-index l.points)) l.marks
