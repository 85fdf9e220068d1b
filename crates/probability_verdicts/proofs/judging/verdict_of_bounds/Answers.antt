use Rattle.std.proofs.Common.{◌≡◌, ◌∙◌, ap, subst, sym}
use Rattle.std.specs.Prelude.{IfOk}
use Rattle.decimals.specs.Numerals.{number_of}
use Rattle.probability_verdicts.specs.declared.verdict.ProbabilityVerdict.TheVariants.{Large}
use Rattle.probability_verdicts.specs.Verdicts.{IsVerdictOfBound, IsVerdictOfBounds, first_unrated}
use Rattle.probability_verdicts.proofs.judging.verdict_of_bounds.Goals as goal

pub returns-in-None : goal.returns-in-None
returns-in-None c =
    let its = c.args.its.now in
    subst (λ bounds. IsVerdictOfBounds its.whole (number_of c.args.most.now) (first_unrated its.found.items c.args.events.now) bounds Large) (sym c.in-None.is) tt

pub returns-in-Some : goal.returns-in-Some
returns-in-Some c =
    let its = c.args.its.now in
    let most = number_of c.args.most.now in
    let events = c.args.events.now in
    let event : c.first_unrated-event.result ≡ first_unrated its.found.items events = c.first_unrated-event.ensures ∙ ap (λ found. first_unrated found events) c.as_slice.ensures.value in
    subst (λ bounds. IfOk c.verdict_of_bound.result (IsVerdictOfBounds its.whole most (first_unrated its.found.items events) bounds)) (sym c.in-Some.is)
    (subst (λ unrated. IfOk c.verdict_of_bound.result (IsVerdictOfBound its.whole most unrated c.in-Some.bounds.upper)) event c.verdict_of_bound.ensures)
