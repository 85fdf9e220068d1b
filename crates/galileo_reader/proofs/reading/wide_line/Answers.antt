use Rattle.galileo_reader.proofs.LinesRead.{wide-answer}
use Rattle.galileo_reader.proofs.reading.wide_line.Goals as goal

pub returns-then-wide-clause-line : goal.returns-then-wide-clause-line
returns-then-wide-clause-line c = wide-answer c.args.wide c.args.text.now c.args.at c.token_line.result c.if-wide.true c.requires.none c.token_line.ensures.line
