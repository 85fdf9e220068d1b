use Rattle.fault_system.proofs.ListingLaws.{covers}
use Rattle.fault_system.proofs.laws.cover.Goals as goal

pub returns : goal.returns
returns c = covers
