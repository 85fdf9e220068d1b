use Rattle.galileo_reader.proofs.Figures.{few-taken}
use Rattle.galileo_reader.proofs.saying.figures.Goals as goal

pub number-requires : goal.number-requires
number-requires c = few-taken _ c.args.text.now _ c.args.len c.front.ensures c.up_to_nine.ensures
