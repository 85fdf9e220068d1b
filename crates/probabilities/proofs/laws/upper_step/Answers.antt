use Rattle.probabilities.proofs.Bounding.{upper-node}
use Rattle.probabilities.proofs.laws.upper_step.Goals as goal

pub returns : goal.returns
returns c = upper-node
