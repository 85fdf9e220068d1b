use Rattle.std.proofs.Common.{length}
use Rattle.help_texts.proofs.explained.+explained.Given as goal

abbrev pub decreases-explained : goal.decreases-explained
decreases-explained l = length l.codes.now
