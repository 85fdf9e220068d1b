use Rattle.round_gates.proofs.Growing.{constantly, one-constant}
use Rattle.round_gates.proofs.laws.constant_targets.Goals as goal

pub returns-clause-means : goal.returns-clause-means
returns-clause-means c = constantly

pub returns-clause-one : goal.returns-clause-one
returns-clause-one c = one-constant
