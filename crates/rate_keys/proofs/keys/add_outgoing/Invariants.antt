use Rattle.std.proofs.Common.{◌≡◌, ◌++◌, flat_map, map, take}
use Rattle.rate_keys.specs.Keys.{lone_event, outgoing_keys}
use Rattle.rate_keys.proofs.keys.add_outgoing.Given as goal

abbrev pub invariant-loop-scoped : goal.invariant-loop-scoped
invariant-loop-scoped l = l.keys ≡ l.fn.keys ++ flat_map (outgoing_keys (lone_event l.lone.events l.lone.transitions)) (map (λ scoped. scoped.item) (take l.scoped-index l.outgoing))
