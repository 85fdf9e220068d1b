use Rattle.error_conditions.proofs.First.{holds-plain}
use Rattle.error_conditions.proofs.laws.first_profile.Goals as goal

pub returns : goal.returns
returns c = holds-plain
