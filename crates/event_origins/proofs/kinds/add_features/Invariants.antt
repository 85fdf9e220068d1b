use Rattle.std.proofs.Common.{◌≡◌, ◌++◌, map, take}
use Rattle.event_origins.specs.Declarations.{feature_declaration}
use Rattle.event_origins.proofs.kinds.add_features.Given as goal

abbrev pub invariant-loop-feature : goal.invariant-loop-feature
invariant-loop-feature l = l.list ≡ l.fn.list ++ map feature_declaration (take l.feature-index l.features)
