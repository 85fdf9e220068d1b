use Rattle.std.proofs.Common.{sym, subst}
use Rattle.std.specs.Prelude.{IfSome}
use Rattle.zdd_store.specs.inner.Answers.{AreRight, IsAnswer}
use Rattle.zdd_store.specs.inner.Nodes.{families}
use Rattle.zdd_store.proofs.store.Store.recall.Goals as goal

pub returns : goal.returns
returns c =
    subst (λ store. IfSome c.answer_in.result (IsAnswer store c.args.question)) c.self.view_is
    (c.answer_in.ensures (families c.self.inside.nodes.keys) (subst (AreRight (families c.self.inside.nodes.keys)) (sym c.as_slice.ensures.value) c.self.invariant.2))
