use Rattle.instantiator.proofs.OrderOfPaths.{are-in-order}
use Rattle.instantiator.proofs.laws.components_are_in_order.Goals as goal

pub returns : goal.returns
returns c = are-in-order
