use Rattle.compared_numbers.proofs.Reading.{below_read}
use Rattle.compared_numbers.proofs.compared.is_below_one.Goals as goal

pub returns : goal.returns
returns c = λ read is. below_read c.args.number c.is_less.result read is c.is_less.ensures
