use Rattle.listing_changes.proofs.Texts.{lacking-sets}
use Rattle.listing_changes.proofs.laws.told_sets.Goals as goal

pub returns : goal.returns
returns c = lacking-sets
