use Rattle.std.proofs.Common.{length}
use Rattle.propagation_links.proofs.tables.BindingTables.+counting_along.Given as goal

abbrev pub decreases-counting_along : goal.decreases-counting_along
decreases-counting_along l = length l.path.now
