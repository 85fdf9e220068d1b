use Rattle.std.proofs.Common.{arith, refl}
use Rattle.compared_numbers.proofs.Tens.{left_zeros, right_zeros, some_more}
use Rattle.compared_numbers.proofs.powers.is_less.Goals as goal

pub returns-then-one-eq0 : goal.returns-then-one-eq0
returns-then-one-eq0 c =
    ((λ t. some_more c.args.one c.args.first c.args.other c.args.second (omega (arith, c.if-one-eq0.true)) (omega (arith, c.if-other-eq0.false))), λ less. refl)

pub returns-then-first-second : goal.returns-then-first-second
returns-then-first-second c =
    let zeros = left_zeros c.args.one c.args.first c.args.other c.args.second (omega (arith, c.if-first-second.true)) in
    ((λ t. zeros.0 (c.is_raised_less.ensures.0 t)), λ less. c.is_raised_less.ensures.1 (zeros.1 less))

pub returns-else-first-second : goal.returns-else-first-second
returns-else-first-second c =
    let zeros = right_zeros c.args.one c.args.first c.args.other c.args.second (omega (arith, c.if-first-second.false)) in
    ((λ t. zeros.0 (c.is_less_raised.ensures.0 t)), λ less. c.is_less_raised.ensures.1 (zeros.1 less))
