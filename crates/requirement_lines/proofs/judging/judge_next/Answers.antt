use Rattle.std.proofs.Common.{ℕ, ◌≡◌, ◌<◌, ◌∙◌, length, sym, subst, arith}
use Rattle.std.proofs.lemmas.Result.{err_from_is_err_and}
use Rattle.backward_slice.specs.Slices.{IsServed}
use Rattle.requirement_lines.specs.inner.Judged.{IsJudgedSo}
use Rattle.requirement_lines.proofs.Exits.{large-unjudged, unjudged-first}
use Rattle.requirement_lines.proofs.Nexts.{fits-at, grown, one-more}
use Rattle.requirement_lines.proofs.judging.judge_next.Goals as goal

pub slice_for-requires : goal.slice_for-requires
slice_for-requires c = (fits-at c.args.system.now c.args.all.now (length c.args.judgements.now) c.args.named.now c.requires.fits c.requires.next).target

pub returns-in_err-part-clause-unjudged : goal.returns-in_err-part-clause-unjudged
returns-in_err-part-clause-unjudged c =
    let p = err_from_is_err_and c.from_residual.result c.from_residual.ensures.1 in
    let named = c.args.named.now in
    let fault = c.in_err-part.field-0.0 in
    rw (p.1, p.2)
    (unjudged-first c.args.system.now c.args.known.now.rates.now c.args.all.now c.args.judgements.now (length c.args.judgements.now) named fault c.requires.next.0 c.requires.next.1 c.requires.judged (large-unjudged c.args.system.now named fault c.in_err-part.ensures.large))

pub judge_part-requires-clause-fits : goal.judge_part-requires-clause-fits
judge_part-requires-clause-fits c = fits-at c.args.system.now c.args.all.now (length c.args.judgements.now) c.args.named.now c.requires.fits c.requires.next

pub judge_further-requires-clause-slice : goal.judge_further-requires-clause-slice
judge_further-requires-clause-slice c =
    let served = c.in_ok-part.ensures.slice in
    subst (λ (target : ℕ). IsServed c.args.system.now target c.in_ok-part.part) (sym served.is_slice.target_is) served

pub judge_further-requires-clause-judged : goal.judge_further-requires-clause-judged
judge_further-requires-clause-judged c =
    one-more (IsJudgedSo c.args.system.now c.args.known.now.rates.now) c.args.all.now c.args.judgements.now c.push.new.self c.args.named.now c.in_ok-judgement.judgement c.requires.next.0 c.requires.next.1 c.requires.judged c.in_ok-judgement.ensures.judged c.in_ok-push.ensures.ok

pub returns-clause-more : goal.returns-clause-more
returns-clause-more c =
    let one = grown c.args.judgements.now c.push.new.self c.in_ok-judgement.judgement c.in_ok-push.ensures.ok in
    let others = c.judge_further.ensures.more in
    omega (arith, one, others)

pub returns-clause-judged : goal.returns-clause-judged
returns-clause-judged c = c.judge_further.ensures.judged
