use Rattle.std.proofs.Common.{subst}
use Rattle.phases.specs.inner.Meets.{IsMemory, MeetsBut}
use Rattle.fta_run.specs.Due.{made_model_text}
use Rattle.fta_run.specs.inner.Ready.{held_text}
use Rattle.fta_run.proofs.made.make.Goals as goal

pub returns-then-text : goal.returns-then-text
returns-then-text c = rw c.if-text.true (record { passed = c.in_ok-made.ensures })

pub returns : goal.returns
returns c = rw c.if-text.false (subst (λ made. MeetsBut IsMemory held_text (made_model_text made) c.made_model.result) c.in_ok-made.ensures c.made_model.ensures)
