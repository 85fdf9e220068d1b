use Rattle.std.proofs.Common.{sym, subst, ◌∙◌}
use Rattle.std.proofs.lemmas.List.{with_items_is}
use Rattle.zdd_store.specs.inner.Answers.{IsWide}
use Rattle.zdd_store.specs.inner.Store.{family_of}
use Rattle.zdd_store.specs.inner.Nodes.{families, AreShapes}
use Rattle.zdd_store.proofs.store.Store.note_wide.Goals as goal

pub invariant_of-self : goal.invariant_of-self
invariant_of-self c =
    let back = with_items_is c.self.inside.shapes c.note_wide.new.table (c.note_wide.auto.table ∙ c.as_mut_slice.ensures.len) in (
      c.self.invariant.0,
      subst (AreShapes (families c.self.inside.nodes.keys)) (sym back)
          (c.note_wide.ensures (families c.self.inside.nodes.keys) (subst (λ store. IsWide (family_of store c.args.id)) (sym c.self.view_is) c.requires)
          (subst (AreShapes (families c.self.inside.nodes.keys)) (sym c.as_mut_slice.ensures.value) c.self.invariant.1)),
      c.self.invariant.2,
      c.self.invariant.3,
    )
