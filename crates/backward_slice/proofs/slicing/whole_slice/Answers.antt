use Rattle.std.proofs.Common.{ℕ, refl, subst}
use Rattle.plain_values.specs.Rising.{RisesWithin}
use Rattle.backward_slice.proofs.Reached.{reach-fact, reach-event}
use Rattle.backward_slice.proofs.slicing.whole_slice.Goals as goal

pub returns : goal.returns
returns c =
    let found = c.in_ok-found.ensures in
    let facts = c.in_ok-facts.ensures in
    let events = c.in_ok-events.ensures in
    record {
      target_is = refl;
      facts = λ n. let one = reach-fact c.args.system.now c.args.target _ found n in ((λ h. one.0 ((facts.exact n).0 h)), (λ h. (facts.exact n).1 (one.1 h)));
      events = λ n. let one = reach-event c.args.system.now c.args.target _ found n in ((λ h. one.0 ((events.exact n).0 h)), (λ h. (events.exact n).1 (one.1 h)));
      facts_rise = subst (λ (k : ℕ). RisesWithin 0 k c.in_ok-facts.facts) found.facts_size facts.rise;
      events_rise = subst (λ (k : ℕ). RisesWithin 0 k c.in_ok-events.events) found.events_size events.rise;
    }
