use Rattle.std.proofs.Common.{sym, subst}
use Rattle.zdd_store.specs.inner.Store.{family_of}
use Rattle.zdd_store.specs.inner.Answers.{HasShape}
use Rattle.zdd_store.specs.inner.Nodes.{families, AreShapes}
use Rattle.zdd_store.proofs.store.Store.shape.Goals as goal

pub returns : goal.returns
returns c =
    subst (λ store. HasShape (family_of store c.args.id) c.shape_of.result) c.self.view_is
    (c.shape_of.ensures (families c.self.inside.nodes.keys) c.self.invariant.0.sound (subst (AreShapes (families c.self.inside.nodes.keys)) (sym c.as_slice.ensures.value) c.self.invariant.1))
