use Rattle.fault_system.proofs.ListingLaws.{listing-exact}
use Rattle.fault_system.proofs.laws.computed_listing.Goals as goal

pub returns : goal.returns
returns c = listing-exact
