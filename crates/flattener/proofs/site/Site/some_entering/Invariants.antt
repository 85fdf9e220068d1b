use Rattle.std.proofs.Common.{◌≡◌, map, filter, take}
use Rattle.propagation_points.specs.Uses.{covers}
use Rattle.fact_formulas.specs.Numbered.{entering}
use Rattle.flattener.proofs.site.Site.some_entering.Given as goal

abbrev pub invariant-loop-number : goal.invariant-loop-number
invariant-loop-number l = l.parts ≡ map (entering l.self l.reached.point) (filter (covers l.reached.types) (take l.number-index l.number-items))
