use Rattle.propagation_links.proofs.JoinLaws.{only-adds}
use Rattle.propagation_links.proofs.laws.bindings_only_add_links.Goals as goal

pub returns : goal.returns
returns c = only-adds
