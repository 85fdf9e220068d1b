use Rattle.std.proofs.Common.{None}
use Rattle.fault_system.proofs.ListingLaws.{covers}
use Rattle.path_sets.proofs.PathLaws.{path-listed}
use Rattle.path_sets.proofs.laws.listed_cuts.Goals as goal

pub returns : goal.returns
returns c = λ system target cuts set listing.
    path-listed system target cuts listing (λ cut is_cut. (covers system target None cuts cut listing is_cut.0 tt).0 is_cut.1) set
