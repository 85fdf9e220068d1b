use Rattle.std.proofs.Common.{[], ◌∷◌, ◌++◌, map, take, ap, sym, ◌∙◌}
use Rattle.std.proofs.lemmas.List.{map-append}
use Rattle.std.proofs.lemmas.List.Elements.{All-push, All-same}
use Rattle.aadl_syntax.specs.Form.{IsNumber}
use Rattle.property_reader.specs.declared.rate.Rate.{Rate}
use Rattle.event_rates.specs.Associations.{rate_in}
use Rattle.event_rates.specs.inner.Rated.{Rated}
use Rattle.event_rates.proofs.FittingLaws.{front-more}
use Rattle.event_rates.proofs.rates.rates_of.Goals as goal

pub loop-event-preserved : goal.loop-event-preserved
loop-event-preserved c =
    let events = c.args.events.now in
    let profile = c.args.profile in
    let instance = c.args.instance.now in
    let k = c.loop-event.event-index in
    let one = c.event-item.result in
    let number : Rate → Type 0 = λ one. IsNumber one.text in
    let rate = c.in_ok-rate.ensures.rate ∙ ap (λ (its : Rated). rate_in its.profile its.instance one) c.in_ok-tables.ensures in
    record {
      rates = c.in_ok-push.ensures.ok ∙ (λ i. c.loop-event.invariant.rates i ++ rate i ∷ [])
          ∙ sym (ap (map (rate_in profile instance)) (front-more events k one c.loop-event-test.true c.event-item.is) ∙ map-append (rate_in profile instance) (take k events) (one ∷ []));
      numbers = All-same number c.push.new.self (c.loop-event.rates ++ c.in_ok-rate.rate ∷ []) c.in_ok-push.ensures.ok (All-push number c.loop-event.rates c.in_ok-rate.rate c.loop-event.invariant.numbers c.in_ok-rate.ensures.number);
    }
