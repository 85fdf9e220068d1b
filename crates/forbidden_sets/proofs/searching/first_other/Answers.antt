use Rattle.std.proofs.Common.{MatchOption, subst, arith}
use Rattle.zdd_families.proofs.Ways.{Keeps_same, Keeps_trans}
use Rattle.requirement_verdicts.specs.Verdicts.{IsFirstMinimal}
use Rattle.requirement_verdicts.specs.inner.Verdicts.{HasNoMinimal}
use Rattle.forbidden_sets.specs.inner.Families.{IsOther}
use Rattle.forbidden_sets.proofs.Firsts.{first-more, none-more, none-yet}
use Rattle.forbidden_sets.proofs.searching.first_other.Goals as goal

pub loop-tried-init : goal.loop-tried-init
loop-tried-init c = record { kept = Keeps_same c.args.store.now; few = omega arith; families = c.requires.families; none = none-yet c.args.judged.now.system.now c.args.judged.now.slice.now.target c.args.parts.now c.requires.some }

pub loop-tried-smaller : goal.loop-tried-smaller
loop-tried-smaller c =
    let more = c.next_order-order.ensures.more in
    let most = c.next_order-order.ensures.most in
    omega (arith, more, most)

pub loop-tried-preserved : goal.loop-tried-preserved
loop-tried-preserved c =
    let system = c.args.judged.now.system.now in
    let target = c.args.judged.now.slice.now.target in
    let order = c.next_order-order.result in record {
      kept = Keeps_trans _ _ _ c.loop-tried.invariant.kept c.first_within.ensures.kept;
      few = c.next_order-order.ensures.most;
      families = c.first_within.ensures.families;
      none = subst (λ found. MatchOption found (HasNoMinimal system target (IsOther c.args.parts.now order)) (IsFirstMinimal system target (IsOther c.args.parts.now order))) c.in_default.is c.in_ok-found.ensures.first;
    }

pub returns-in-Some-clause-first : goal.returns-in-Some-clause-first
returns-in-Some-clause-first c =
    let system = c.args.judged.now.system.now in
    let target = c.args.judged.now.slice.now.target in
    let order = c.next_order-order.result in
    first-more system target c.args.parts.now order c.args.most c.in-Some.set c.next_order-order.ensures.most
    (subst (λ found. MatchOption found (HasNoMinimal system target (IsOther c.args.parts.now order)) (IsFirstMinimal system target (IsOther c.args.parts.now order))) c.in-Some.is c.in_ok-found.ensures.first)

pub returns-clause-first : goal.returns-clause-first
returns-clause-first c =
    let past = c.loop-tried-test.false in
    none-more c.args.judged.now.system.now c.args.judged.now.slice.now.target c.args.parts.now c.loop-tried.tried c.args.most (omega (arith, past)) c.loop-tried.invariant.none
