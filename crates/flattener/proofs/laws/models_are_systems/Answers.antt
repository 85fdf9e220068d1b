use Rattle.flattener.proofs.Systems.{root-system}
use Rattle.flattener.proofs.laws.models_are_systems.Goals as goal

pub returns : goal.returns
returns c = root-system
