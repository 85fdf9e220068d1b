use Rattle.std.proofs.Common.{take}
use Rattle.fault_system.specs.Truth.{member}
use Rattle.derivations.specs.inner.Ordered.{AreMade}
use Rattle.derivations.proofs.by_rounds.steps_at.Given as goal

abbrev pub invariant-loop-fact : goal.invariant-loop-fact
invariant-loop-fact l = AreMade l.system (member l.events) l.rounds l.places (take l.fact-index l.order) l.steps
