use Rattle.probabilities.proofs.Bounding.{lower-node}
use Rattle.probabilities.proofs.laws.lower_step.Goals as goal

pub returns : goal.returns
returns c = lower-node
