use Rattle.std.proofs.Common.{subst}
use Rattle.std.proofs.lemmas.Result.{IfOk-weaker}
use Rattle.decimals.specs.Numerals.{number_of}
use Rattle.probability_verdicts.specs.Verdicts.{IsVerdictOfBounds, first_unrated}
use Rattle.probability_verdicts.proofs.Bounded.{bounded_verdict}
use Rattle.probability_verdicts.proofs.judging.late_probability.Goals as goal

pub returns : goal.returns
returns c =
    let system = c.args.system.now in
    let part = c.args.part.now in
    let most = c.args.most.now in
    let its = c.in_ok-its.its in
    IfOk-weaker c.verdict_of_bounds.result _ _
    (λ verdict is. bounded_verdict system c.args.rates.now part.target part.events most c.args.hours.now verdict (record {
      may_hold = c.requires.perhaps;
      not_anyway = c.requires.some;
      whole = its.whole;
      found = its.found.items;
      bounds = its.bounds;
      importances = its.importances.items;
      has = c.in_ok-its.ensures;
      verdict_is = subst (λ events. IsVerdictOfBounds its.whole (number_of most) (first_unrated its.found.items events) its.bounds verdict) c.items.ensures.items is;
    }))
    c.verdict_of_bounds.ensures
