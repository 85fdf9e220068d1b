use Rattle.path_sets.proofs.Listings.{one-listing}
use Rattle.path_sets.proofs.laws.one_path_listing.Goals as goal

pub returns : goal.returns
returns c = one-listing
