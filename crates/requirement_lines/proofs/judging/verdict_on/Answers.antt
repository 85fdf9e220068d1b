use Rattle.std.proofs.Common.{MatchOption, subst}
use Rattle.requirement_verdicts.specs.Meanings.{HoldsAnyway, MayHold}
use Rattle.requirement_verdicts.specs.Verdicts.{IsVerdict}
use Rattle.requirement_lines.proofs.Facts.{event-sets, tells-fact}
use Rattle.requirement_lines.proofs.judging.verdict_on.Goals as goal

pub returns-in-Some-clause-verdict : goal.returns-in-Some-clause-verdict
returns-in-Some-clause-verdict c =
    let system = c.args.system.now in
    let target = c.args.part.now.target in
    let sentence = c.args.sentence.now in
    subst (λ found. MatchOption found (MayHold system target × (HoldsAnyway system target → ⊥)) (IsVerdict system target sentence)) c.in-Some.is
    (c.early_verdict.ensures system target (tells-fact c.has-always.ensures (c.requires.known.always target)) (tells-fact c.has-perhaps.ensures (c.requires.known.perhaps target)))

pub first_forbidden-requires-clause-some : goal.first_forbidden-requires-clause-some
first_forbidden-requires-clause-some c =
    let system = c.args.system.now in
    let target = c.args.part.now.target in
    let sentence = c.args.sentence.now in
    (subst (λ found. MatchOption found (MayHold system target × (HoldsAnyway system target → ⊥)) (IsVerdict system target sentence)) c.in_default.is
    (c.early_verdict.ensures system target (tells-fact c.has-always.ensures (c.requires.known.always target)) (tells-fact c.has-perhaps.ensures (c.requires.known.perhaps target)))).1

pub late_verdict-requires-clause-sets : goal.late_verdict-requires-clause-sets
late_verdict-requires-clause-sets c = event-sets c.args.system.now c.args.sentence.now c.requires.fits

pub late_verdict-requires-clause-perhaps : goal.late_verdict-requires-clause-perhaps
late_verdict-requires-clause-perhaps c =
    let system = c.args.system.now in
    let target = c.args.part.now.target in
    let sentence = c.args.sentence.now in
    (subst (λ found. MatchOption found (MayHold system target × (HoldsAnyway system target → ⊥)) (IsVerdict system target sentence)) c.in_default.is
    (c.early_verdict.ensures system target (tells-fact c.has-always.ensures (c.requires.known.always target)) (tells-fact c.has-perhaps.ensures (c.requires.known.perhaps target)))).0

pub late_verdict-requires-clause-some : goal.late_verdict-requires-clause-some
late_verdict-requires-clause-some c =
    let system = c.args.system.now in
    let target = c.args.part.now.target in
    let sentence = c.args.sentence.now in
    (subst (λ found. MatchOption found (MayHold system target × (HoldsAnyway system target → ⊥)) (IsVerdict system target sentence)) c.in_default.is
    (c.early_verdict.ensures system target (tells-fact c.has-always.ensures (c.requires.known.always target)) (tells-fact c.has-perhaps.ensures (c.requires.known.perhaps target)))).1
