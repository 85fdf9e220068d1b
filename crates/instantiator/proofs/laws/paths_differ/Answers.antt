use Rattle.instantiator.proofs.PathLaws.{paths-differ}
use Rattle.instantiator.proofs.laws.paths_differ.Goals as goal

pub returns : goal.returns
returns c = paths-differ
