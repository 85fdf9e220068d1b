use Rattle.std.proofs.Common.{◌≡◌, map, take}
use Rattle.event_origins.specs.Declarations.{flow_declaration}
use Rattle.event_origins.proofs.kinds.flows_of.Given as goal

abbrev pub invariant-loop-flow : goal.invariant-loop-flow
invariant-loop-flow l = l.list ≡ map (λ scoped. flow_declaration scoped.item) (take l.flow-index l.flows)
