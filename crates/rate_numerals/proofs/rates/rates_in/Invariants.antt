use Rattle.std.proofs.Common.{◌≡◌, map, take}
use Rattle.rate_numerals.specs.Rates.{in_numerals}
use Rattle.rate_numerals.proofs.rates.rates_in.Given as goal

abbrev pub invariant-loop-event : goal.invariant-loop-event
invariant-loop-event l = l.rates ≡ map (λ event. in_numerals event.rate) (take l.event-index l.events)
