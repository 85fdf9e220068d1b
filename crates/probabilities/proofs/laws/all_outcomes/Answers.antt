use Rattle.probabilities.proofs.Growing.{weight-all}
use Rattle.probabilities.proofs.laws.all_outcomes.Goals as goal

pub returns : goal.returns
returns c = weight-all
