use Rattle.probability_verdicts.proofs.Keeping.{met_kept}
use Rattle.probability_verdicts.proofs.laws.met_is_kept.Goals as goal

pub returns : goal.returns
returns c = met_kept
