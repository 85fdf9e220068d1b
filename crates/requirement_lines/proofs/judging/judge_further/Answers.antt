use Rattle.std.proofs.Common.{ℕ, length, sym, subst, arith}
use Rattle.backward_slice.specs.Slices.{IsServed}
use Rattle.requirement_lines.specs.inner.Judged.{IsJudgedSo}
use Rattle.requirement_lines.proofs.Nexts.{fits-at, grown, one-more}
use Rattle.requirement_lines.proofs.judging.judge_further.Goals as goal

pub loop-named-init : goal.loop-named-init
loop-named-init c = record { found = c.requires.found; more = omega arith; judged = c.requires.judged }

pub judge_part-requires-clause-slice : goal.judge_part-requires-clause-slice
judge_part-requires-clause-slice c = subst (λ (target : ℕ). IsServed c.args.system.now target c.args.part.now) (sym c.in-Some.ensures.target) c.requires.slice

pub judge_part-requires-clause-fits : goal.judge_part-requires-clause-fits
judge_part-requires-clause-fits c = fits-at c.args.system.now c.args.all.now (length c.loop-named.judgements) c.in-Some.named.now c.requires.fits c.in-Some.ensures.there

pub loop-named-smaller : goal.loop-named-smaller
loop-named-smaller c =
    let there = c.in-Some.ensures.there.0 in
    let one = grown c.loop-named.judgements c.push.new.self c.in_ok-judgement.judgement c.in_ok-push.ensures.ok in
    omega (arith, there, one)

pub loop-named-preserved : goal.loop-named-preserved
loop-named-preserved c =
    let one = grown c.loop-named.judgements c.push.new.self c.in_ok-judgement.judgement c.in_ok-push.ensures.ok in
    let so_far = c.loop-named.invariant.more in
    record {
      found = c.judge_part.ensures.found;
      more = omega (arith, one, so_far);
      judged = one-more (IsJudgedSo c.args.system.now c.args.known.now.rates.now) c.args.all.now c.loop-named.judgements c.push.new.self c.in-Some.named.now c.in_ok-judgement.judgement c.in-Some.ensures.there.0 c.in-Some.ensures.there.1
          c.loop-named.invariant.judged c.in_ok-judgement.ensures.judged c.in_ok-push.ensures.ok;
    }
