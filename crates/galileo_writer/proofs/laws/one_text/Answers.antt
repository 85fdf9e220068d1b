use Rattle.galileo_writer.proofs.OneText.{one-text}
use Rattle.galileo_writer.proofs.laws.one_text.Goals as goal

pub returns : goal.returns
returns c = one-text
