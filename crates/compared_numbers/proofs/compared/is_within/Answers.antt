use Rattle.compared_numbers.proofs.Reading.{within_read}
use Rattle.compared_numbers.proofs.compared.is_within.Goals as goal

pub returns : goal.returns
returns c = λ read is. within_read c.args.bound c.args.number c.args.whole c.is_less.result read c.args.bound.short is c.is_less.ensures
