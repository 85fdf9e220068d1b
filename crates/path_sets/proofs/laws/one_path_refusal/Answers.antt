use Rattle.path_sets.proofs.Listings.{one-refusal}
use Rattle.path_sets.proofs.laws.one_path_refusal.Goals as goal

pub returns : goal.returns
returns c = λ system target a b is. one-refusal system is target a b
