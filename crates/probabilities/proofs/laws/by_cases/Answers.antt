use Rattle.probabilities.proofs.Cases.{weight-cases}
use Rattle.probabilities.proofs.laws.by_cases.Goals as goal

pub returns : goal.returns
returns c = weight-cases
