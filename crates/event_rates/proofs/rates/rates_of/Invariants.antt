use Rattle.std.proofs.Common.{◌≡◌, All, map, take}
use Rattle.aadl_syntax.specs.Form.{IsNumber}
use Rattle.event_rates.specs.Associations.{rate_in}
use Rattle.event_rates.proofs.rates.rates_of.Given as goal

abbrev pub invariant-loop-event : goal.invariant-loop-event
invariant-loop-event l = record {
  rates : l.rates ≡ map (rate_in l.fn.profile l.fn.instance) (take l.event-index l.events);
  numbers : All (λ rate. IsNumber rate.text) l.rates;
}
