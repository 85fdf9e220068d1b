use Rattle.cutset_lister.proofs.Scans.{one-set}
use Rattle.cutset_lister.proofs.laws.one_set.Goals as goal

pub returns : goal.returns
returns c = one-set
