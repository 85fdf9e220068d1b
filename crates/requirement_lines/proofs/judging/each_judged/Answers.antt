use Rattle.std.proofs.Common.{List, length, take, sym, subst, arith}
use Rattle.std.specs.List.{AllZip}
use Rattle.std.proofs.lemmas.List.{take_all}
use Rattle.std.proofs.lemmas.Result.{err_from_is_err_and}
use Rattle.requirement_names.specs.declared.named.NamedRequirement.{NamedRequirement}
use Rattle.requirement_lines.specs.declared.found.Found.{Found}
use Rattle.requirement_lines.specs.declared.judgement.Judgement.{Judgement}
use Rattle.requirement_lines.specs.inner.Found.{IsFoundFor}
use Rattle.requirement_lines.specs.inner.Judged.{IsJudgedSo}
use Rattle.requirement_lines.proofs.judging.each_judged.Goals as goal

pub loop-named-init : goal.loop-named-init
loop-named-init c = record {
  found = subst (λ (found : Found). IsFoundFor c.args.system.now found) (sym c.new-found.ensures) tt;
  judged = subst (λ (judgements : List Judgement). AllZip (IsJudgedSo c.args.system.now c.args.known.now.rates.now) (take (length judgements) c.args.all.now) judgements) (sym c.new-judgements.ensures) tt;
}

pub loop-named-smaller : goal.loop-named-smaller
loop-named-smaller c =
    let there = c.in-Some.ensures.0 in
    let more = c.in_ok-judge_next.ensures.more in
    omega (arith, there, more)

pub loop-named-preserved : goal.loop-named-preserved
loop-named-preserved c = record { found = c.judge_next.ensures.found; judged = c.in_ok-judge_next.ensures.judged }

pub returns-in_err-judge_next-clause-unjudged : goal.returns-in_err-judge_next-clause-unjudged
returns-in_err-judge_next-clause-unjudged c =
    let p = err_from_is_err_and c.from_residual.result c.from_residual.ensures.1 in
    rw (p.1, p.2) c.in_err-judge_next.ensures.unjudged

pub returns-clause-judged : goal.returns-clause-judged
returns-clause-judged c =
    let past = c.in_default.ensures in
    subst (λ (all : List NamedRequirement). AllZip (IsJudgedSo c.args.system.now c.args.known.now.rates.now) all c.loop-named.judgements) (take_all (length c.loop-named.judgements) c.args.all.now (omega (arith, past))) c.loop-named.invariant.judged
