use Rattle.std.proofs.Common.{◌≡◌, map, take}
use Rattle.event_rates.specs.inner.Listed.{listed}
use Rattle.event_rates.proofs.kinds.in_package.Given as goal

abbrev pub invariant-loop-decl : goal.invariant-loop-decl
invariant-loop-decl l = l.machines ≡ map (λ machine. listed l.profile machine.associations) (take l.decl-index l.decls)
