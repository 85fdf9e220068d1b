use Rattle.target_orders.specs.inner.Cuts.{IsSearch}
use Rattle.target_orders.proofs.cuts.improve_all.Given as goal

abbrev pub invariant-loop-step : goal.invariant-loop-step
invariant-loop-step l = IsSearch l.system l.search
