use Rattle.cutset_lister.proofs.Grown.{stays}
use Rattle.cutset_lister.proofs.laws.stays_started.Goals as goal

pub returns : goal.returns
returns c = λ before after walk kept started. stays before after kept walk started
