use Rattle.instantiator.proofs.PathLaws.{parents-first}
use Rattle.instantiator.proofs.laws.parents_come_first.Goals as goal

pub returns : goal.returns
returns c = parents-first
