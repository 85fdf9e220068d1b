use Rattle.std.proofs.Common.{arith, refl}
use Rattle.compared_numbers.proofs.Tens.{great}
use Rattle.compared_numbers.proofs.powers.is_less_raised.Goals as goal

pub returns-then-zeros-gt18 : goal.returns-then-zeros-gt18
returns-then-zeros-gt18 c =
    let many = great c.args.other c.args.zeros c.requires.some (omega (arith, c.if-zeros-gt18.true)) in
    let one = c.requires.one in
    ((λ t. omega arith), λ less. refl)
