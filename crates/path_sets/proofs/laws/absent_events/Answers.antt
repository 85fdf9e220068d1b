use Rattle.path_sets.proofs.PathLaws.{path-exact}
use Rattle.path_sets.proofs.laws.absent_events.Goals as goal

pub returns : goal.returns
returns c = λ system target set is. path-exact system is target set
