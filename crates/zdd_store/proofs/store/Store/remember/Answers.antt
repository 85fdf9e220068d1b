use Rattle.std.proofs.Common.{sym, subst, ◌∙◌}
use Rattle.std.proofs.lemmas.List.{with_items_is}
use Rattle.zdd_store.specs.inner.Answers.{AreRight, IsAnswer}
use Rattle.zdd_store.specs.inner.Nodes.{families}
use Rattle.zdd_store.proofs.store.Store.remember.Goals as goal

pub invariant_of-self-2 : goal.invariant_of-self-2
invariant_of-self-2 c =
    let back = with_items_is c.make_room.new.table c.put.new.table (c.put.auto.table ∙ c.as_mut_slice.ensures.len) in (
      c.self.invariant.0,
      c.self.invariant.1,
      subst (AreRight (families c.self.inside.nodes.keys)) (sym back)
          (c.put.ensures (families c.self.inside.nodes.keys)
          (subst (AreRight (families c.self.inside.nodes.keys)) (sym c.as_mut_slice.ensures.value) (c.make_room.ensures (families c.self.inside.nodes.keys) c.self.invariant.0.sound c.self.invariant.2))
          (subst (λ store. IsAnswer store c.args.question c.args.answer) (sym c.self.view_is) c.requires)),
      c.self.invariant.3,
    )
