use Rattle.std.proofs.Common.{arith}
use Rattle.std.proofs.lemmas.Bool.{false≢true}
use Rattle.compared_numbers.proofs.Tens.{great}
use Rattle.compared_numbers.proofs.powers.is_raised_less.Goals as goal

pub returns-then-zeros-gt18 : goal.returns-then-zeros-gt18
returns-then-zeros-gt18 c =
    let many = great c.args.one c.args.zeros c.requires.some (omega (arith, c.if-zeros-gt18.true)) in
    let other = c.requires.other in
    ((λ t. absurd (false≢true t)), λ less. absurd (omega arith))
