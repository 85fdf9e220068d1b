use Rattle.std.proofs.Common.{MatchOption, subst}
use Rattle.requirement_verdicts.specs.inner.Verdicts.{ForbidsNone, IsFirstForbidden}
use Rattle.requirement_verdicts.proofs.Cutting.{broken-first, kept-from_none}
use Rattle.requirement_verdicts.proofs.judging.late_verdict.Goals as goal

pub returns-in-Some : goal.returns-in-Some
returns-in-Some c =
    let system = c.args.system.now in
    let target = c.args.target in
    let sentence = c.args.sentence.now in
    broken-first system target sentence c.in-Some.set c.requires.some (subst (λ found. MatchOption found (ForbidsNone system target sentence) (IsFirstForbidden system target sentence)) c.in-Some.is c.requires.first)

pub unbroken-requires-clause-kept : goal.unbroken-requires-clause-kept
unbroken-requires-clause-kept c =
    let system = c.args.system.now in
    let target = c.args.target in
    let sentence = c.args.sentence.now in
    kept-from_none system target sentence (subst (λ found. MatchOption found (ForbidsNone system target sentence) (IsFirstForbidden system target sentence)) c.in-None.is c.requires.first)
