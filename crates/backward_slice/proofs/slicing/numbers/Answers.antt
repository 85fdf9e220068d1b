use Rattle.std.proofs.Common.{ℕ, ◌≡◌, ◌+◌, length, subst, sym, arith}
use Rattle.backward_slice.proofs.Rising.{NumbersBelow, numbers-none, numbers-next, numbers-end}
use Rattle.backward_slice.proofs.slicing.numbers.Goals as goal

pub loop-number-init : goal.loop-number-init
loop-number-init c = subst (NumbersBelow c.args.set.now 0) (sym c.new-list.ensures) (numbers-none c.args.set.now)

pub loop-number-preserved : goal.loop-number-preserved
loop-number-preserved c =
    subst (NumbersBelow c.args.set.now (c.loop-number.number + 1)) (sym c.in_ok-push_if.ensures)
    (numbers-next c.args.set.now c.loop-number.number c.loop-number.list c.has.result c.has.ensures c.loop-number.invariant)

pub returns : goal.returns
returns c =
    let all : c.loop-number.number ≡ length c.args.set.now = omega arith in
    numbers-end c.args.set.now c.loop-number.list (subst (λ (k : ℕ). NumbersBelow c.args.set.now k c.loop-number.list) all c.loop-number.invariant)
