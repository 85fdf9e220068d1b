use Rattle.path_sets.proofs.PathLaws.{needed}
use Rattle.path_sets.proofs.laws.needed_events.Goals as goal

pub returns : goal.returns
returns c = λ system target set event is minimal own. needed system is target set event minimal own
