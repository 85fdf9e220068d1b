use Rattle.std.proofs.Common.{◌≡◌, ◌++◌, map, take}
use Rattle.rate_keys.proofs.texts.add_declared.Given as goal

abbrev pub invariant-loop-event : goal.invariant-loop-event
invariant-loop-event l = map (λ name. name.now) l.names ≡ map (λ name. name.now) l.fn.names ++ map (λ event. event.name) (take l.event-index l.events)
