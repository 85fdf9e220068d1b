use Rattle.propagation_links.proofs.JoinLaws.{all-join}
use Rattle.propagation_links.proofs.laws.links_join_sides.Goals as goal

pub returns : goal.returns
returns c = all-join
