use Rattle.galileo_writer.proofs.TextTruth.{target-text}
use Rattle.galileo_writer.proofs.laws.text_truth.Goals as goal

pub returns : goal.returns
returns c = target-text
