use Rattle.path_sets.proofs.Listings.{gate-listings, tree-paths}
use Rattle.path_sets.proofs.laws.gate_paths.Goals as goal

pub returns-clause-sets : goal.returns-clause-sets
returns-clause-sets c = λ system target tree set is of_target. tree-paths system is target tree of_target set

pub returns-clause-listing : goal.returns-clause-listing
returns-clause-listing c = λ system target tree most sets is names of_target. gate-listings system is target tree of_target names most sets
