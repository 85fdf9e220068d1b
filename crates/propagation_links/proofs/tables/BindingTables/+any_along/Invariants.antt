use Rattle.std.proofs.Common.{length}
use Rattle.propagation_links.proofs.tables.BindingTables.+any_along.Given as goal

abbrev pub decreases-any_along : goal.decreases-any_along
decreases-any_along l = length l.path.now
