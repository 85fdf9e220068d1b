use Rattle.std.proofs.Common.{◌≡◌, ◌++◌, map, take}
use Rattle.event_origins.specs.Declarations.{feature_declaration, user_point_declaration}
use Rattle.event_origins.proofs.kinds.features_of.Given as goal

abbrev pub invariant-loop-point : goal.invariant-loop-point
invariant-loop-point l = l.list ≡ map feature_declaration l.features ++ map (λ scoped. user_point_declaration scoped.item) (take l.point-index l.user_points)
