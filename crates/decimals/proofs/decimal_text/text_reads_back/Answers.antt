use Rattle.decimals.proofs.ReadBack.{reads_back}
use Rattle.decimals.proofs.decimal_text.text_reads_back.Goals as goal

pub returns : goal.returns
returns c = reads_back
