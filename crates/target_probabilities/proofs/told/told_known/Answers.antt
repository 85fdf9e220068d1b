use Rattle.std.proofs.Common.{◌≡◌, ◌<◌, ◌∙◌, ℕ, ap, subst, sym, length}
use Rattle.std.specs.List.{AllByRecursion}
use Rattle.probabilities.specs.inner.Decided.{FitWhole}
use Rattle.target_probabilities.specs.Probability.{told_events}
use Rattle.target_probabilities.proofs.Probable.{all_inside}
use Rattle.target_probabilities.proofs.told.told_known.Goals as goal

pub told_of-requires-clause-rates : goal.told_of-requires-clause-rates
told_of-requires-clause-rates c = subst (FitWhole c.args.whole) (sym (c.as_slice.ensures.value ∙ c.in_ok-list.ensures)) c.requires.rates

pub told_of-requires-clause-all : goal.told_of-requires-clause-all
told_of-requires-clause-all c = ap length (c.as_slice.ensures.value ∙ c.in_ok-list.ensures) ∙ c.requires.all

pub told_of-requires-clause-inside : goal.told_of-requires-clause-inside
told_of-requires-clause-inside c =
    let events = c.args.part.now.events in
    let count : length c.as_slice.result.now ≡ length c.args.system.now.events = ap length (c.as_slice.ensures.value ∙ c.in_ok-list.ensures) ∙ c.requires.all in
    let all = all_inside (length c.args.system.now.events) c.args.asked events c.requires.slice.events_rise in
    subst (AllByRecursion (λ event. event < length c.as_slice.result.now)) (sym (c.told_events-events.ensures ∙ ap (told_events c.args.asked) c.items.ensures.items))
    (subst (λ (n : ℕ). AllByRecursion (λ event. event < n) (told_events c.args.asked events)) (sym count) all)
