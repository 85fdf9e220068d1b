use Rattle.std.proofs.Common.{MatchOption, subst}
use Rattle.std.specs.Prelude.{IfOk}
use Rattle.requirement_verdicts.specs.Meanings.{HoldsAnyway, MayHold}
use Rattle.probability_verdicts.specs.Verdicts.{IsProbabilityVerdict}
use Rattle.probability_verdicts.specs.inner.Verdicts.{IsEarlyVerdict}
use Rattle.requirement_lines.proofs.Facts.{tells-fact}
use Rattle.requirement_lines.proofs.judging.verdict_within.Goals as goal

pub returns-in-Some : goal.returns-in-Some
returns-in-Some c =
    let system = c.args.system.now in
    let target = c.args.part.now.target in
    subst (λ found. MatchOption found (MayHold system target × (HoldsAnyway system target → ⊥)) (IsEarlyVerdict system target)) c.in-Some.is
    (c.early_probability.ensures system target (tells-fact c.has-anyway.ensures (c.requires.known.always target)) (tells-fact c.has-possible.ensures (c.requires.known.perhaps target)))
    c.args.known.now.rates.now c.args.part.now.events c.args.most.now.text c.args.hours.now.text

pub late_probability-requires-clause-perhaps : goal.late_probability-requires-clause-perhaps
late_probability-requires-clause-perhaps c =
    let system = c.args.system.now in
    let target = c.args.part.now.target in
    (subst (λ found. MatchOption found (MayHold system target × (HoldsAnyway system target → ⊥)) (IsEarlyVerdict system target)) c.in_default.is
    (c.early_probability.ensures system target (tells-fact c.has-anyway.ensures (c.requires.known.always target)) (tells-fact c.has-possible.ensures (c.requires.known.perhaps target)))).0

pub late_probability-requires-clause-some : goal.late_probability-requires-clause-some
late_probability-requires-clause-some c =
    let system = c.args.system.now in
    let target = c.args.part.now.target in
    (subst (λ found. MatchOption found (MayHold system target × (HoldsAnyway system target → ⊥)) (IsEarlyVerdict system target)) c.in_default.is
    (c.early_probability.ensures system target (tells-fact c.has-anyway.ensures (c.requires.known.always target)) (tells-fact c.has-possible.ensures (c.requires.known.perhaps target)))).1

pub returns : goal.returns
returns c =
    let system = c.args.system.now in
    let rates = c.args.known.now.rates.now in
    let part = c.args.part.now in
    subst (λ hours. IfOk c.late_probability.result (IsProbabilityVerdict system rates part.target part.events c.args.most.now.text hours)) c.items-time.ensures.items
    (subst (λ most. IfOk c.late_probability.result (IsProbabilityVerdict system rates part.target part.events most c.items-time.result.now)) c.items-number.ensures.items c.late_probability.ensures)
