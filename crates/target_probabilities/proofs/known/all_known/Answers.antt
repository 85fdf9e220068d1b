use Rattle.std.proofs.Common.{subst, sym}
use Rattle.galileo_writer.specs.TreeText.{rate_of}
use Rattle.target_probabilities.specs.Probability.{AreEach}
use Rattle.target_probabilities.specs.inner.Probable.{IsKnownSo}
use Rattle.target_probabilities.proofs.Probable.{each_none, each_pushed}
use Rattle.target_probabilities.proofs.known.all_known.Goals as goal

pub loop-event-init : goal.loop-event-init
loop-event-init c =
    subst (AreEach (λ event its. IsKnownSo c.args.whole (rate_of c.args.rates.now event) c.args.hours its) 0) (sym c.new-known.ensures.items)
    (each_none (λ event its. IsKnownSo c.args.whole (rate_of c.args.rates.now event) c.args.hours its))

pub loop-event-preserved : goal.loop-event-preserved
loop-event-preserved c =
    subst (AreEach (λ event its. IsKnownSo c.args.whole (rate_of c.args.rates.now event) c.args.hours its) _) (sym c.in_ok-push.ensures.items)
    (each_pushed (λ event its. IsKnownSo c.args.whole (rate_of c.args.rates.now event) c.args.hours its) c.loop-event.event c.loop-event.known.items c.event_known.result c.loop-event.invariant
    (record { fits = c.event_known.ensures.fits; known = c.event_known.ensures.known }))
