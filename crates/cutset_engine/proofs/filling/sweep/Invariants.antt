use Rattle.cutset_engine.specs.inner.Filling.{task_of}
use Rattle.cutset_engine.proofs.Rounds.{Swept}
use Rattle.cutset_engine.proofs.filling.sweep.Given as goal

abbrev pub invariant-loop-number : goal.invariant-loop-number
invariant-loop-number l = Swept (task_of l.setting) l.fn.store l.store l.fn.now l.now l.numbers l.number-index l.changed
