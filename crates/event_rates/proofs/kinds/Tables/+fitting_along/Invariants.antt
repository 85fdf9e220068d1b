use Rattle.std.proofs.Common.{length}
use Rattle.event_rates.proofs.kinds.Tables.+fitting_along.Given as goal

abbrev pub decreases-fitting_along : goal.decreases-fitting_along
decreases-fitting_along l = length l.path.now
