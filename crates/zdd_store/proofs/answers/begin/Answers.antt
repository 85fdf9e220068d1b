use Rattle.std.proofs.Common.{sym, subst}
use Rattle.std.specs.Prelude.{is_ok}
use Rattle.zdd_store.specs.inner.Answers.{AreRight}
use Rattle.zdd_store.proofs.Entries.{none_right, right_pushed}
use Rattle.zdd_store.proofs.answers.begin.Goals as goal

pub loop-filled-preserved : goal.loop-filled-preserved
loop-filled-preserved c = λ store sound right.
    subst (AreRight store) (sym c.push.ensures.items) (right_pushed (is_ok c.push.result) store c.loop-filled.table.items _ (c.loop-filled.invariant store sound right) (none_right store 0 0 sound))
