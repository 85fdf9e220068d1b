use Rattle.path_sets.proofs.Listings.{constant-listing}
use Rattle.path_sets.proofs.laws.constant_listing.Goals as goal

pub returns : goal.returns
returns c = constant-listing
