use Rattle.std.proofs.Common.{◌≡◌, take}
use Rattle.std.specs.Prelude.{flat_map}
use Rattle.event_origins.specs.Declarations.{outward_declaration}
use Rattle.event_origins.proofs.kinds.outward_of.Given as goal

abbrev pub invariant-loop-point : goal.invariant-loop-point
invariant-loop-point l = l.list ≡ flat_map (λ scoped. outward_declaration scoped.item) (take l.point-index l.points)
