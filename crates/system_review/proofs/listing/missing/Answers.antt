use Rattle.std.proofs.Common.{ℕ, ◌≡◌, ◌+◌, subst, sym, arith}
use Rattle.fault_system.specs.Truth.{member}
use Rattle.system_review.proofs.Rising.{Listed, is_missing, listed-none, listed-next, missing-end}
use Rattle.system_review.proofs.listing.missing.Goals as goal

pub loop-number-init : goal.loop-number-init
loop-number-init g c =
    subst (Listed (is_missing (g.S.Numbers.set c.args.wanted.now) (member c.args.found.now)) 0) (sym c.new-list.ensures)
    (listed-none (is_missing (g.S.Numbers.set c.args.wanted.now) (member c.args.found.now)))

pub loop-number-preserved : goal.loop-number-preserved
loop-number-preserved g c =
    subst (Listed (is_missing (g.S.Numbers.set c.args.wanted.now) (member c.args.found.now)) (c.loop-number.number + 1)) (sym c.in_ok-push_if.ensures)
    (listed-next (is_missing (g.S.Numbers.set c.args.wanted.now) (member c.args.found.now)) c.loop-number.number c.loop-number.list c.is_missing.result c.is_missing.ensures c.loop-number.invariant)

pub returns : goal.returns
returns g c =
    let all : c.loop-number.number ≡ c.args.bound = omega arith in
    missing-end (g.S.Numbers.set c.args.wanted.now) (member c.args.found.now) c.args.bound c.loop-number.list
    (subst (λ (k : ℕ). Listed (is_missing (g.S.Numbers.set c.args.wanted.now) (member c.args.found.now)) k c.loop-number.list) all c.loop-number.invariant)
