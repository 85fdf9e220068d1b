use Rattle.std.proofs.Common.{◌≡◌, map, take}
use Rattle.event_rates.specs.Associations.{is_rated_in}
use Rattle.event_rates.proofs.rates.rated_of.Given as goal

abbrev pub invariant-loop-event : goal.invariant-loop-event
invariant-loop-event l = l.rated ≡ map (is_rated_in l.fn.profile l.fn.instance) (take l.event-index l.events)
