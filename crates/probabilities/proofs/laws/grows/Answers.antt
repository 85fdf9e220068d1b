use Rattle.probabilities.proofs.Growing.{weight-grows}
use Rattle.probabilities.proofs.laws.grows.Goals as goal

pub returns : goal.returns
returns c = weight-grows
