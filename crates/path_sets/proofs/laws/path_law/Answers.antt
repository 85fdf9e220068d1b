use Rattle.path_sets.proofs.Listings.{listings-same}
use Rattle.path_sets.proofs.PathLaws.{minimal-paths}
use Rattle.path_sets.proofs.laws.path_law.Goals as goal

pub returns-clause-sets : goal.returns-clause-sets
returns-clause-sets c = λ system target set is free inside. minimal-paths system is target free inside set

pub returns-clause-listing : goal.returns-clause-listing
returns-clause-listing c = λ system target most sets is free inside. listings-same system is free target inside most sets
