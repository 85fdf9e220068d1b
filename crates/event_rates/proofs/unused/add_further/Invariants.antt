use Rattle.std.proofs.Common.{◌≡◌, ◌++◌, filter, map, take}
use Rattle.event_rates.specs.Associations.{is_of_event}
use Rattle.event_rates.proofs.unused.add_further.Given as goal

abbrev pub invariant-loop-key : goal.invariant-loop-key
invariant-loop-key l = l.names ≡ l.fn.names ++ map (λ key. map (λ name. name.now) l.path ++ key.names) (filter (is_of_event l.own) (take l.key-index l.keys))
