use Rattle.cutset_engine.proofs.ThinFamilies.{Found}
use Rattle.cutset_engine.proofs.singles.single_events.Given as goal

abbrev pub invariant-loop-step : goal.invariant-loop-step
invariant-loop-step l = Found l.store l.fn.id l.at l.alone
