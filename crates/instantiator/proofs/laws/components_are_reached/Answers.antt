use Rattle.instantiator.proofs.ReachedLaws.{are-reached}
use Rattle.instantiator.proofs.laws.components_are_reached.Goals as goal

pub returns : goal.returns
returns c = are-reached
