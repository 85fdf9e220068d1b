use Rattle.std.proofs.Common.{◌≤◌, All, length, sym, subst, arith}
use Rattle.std.proofs.lemmas.List.Elements.{All-push, All-weaker}
use Rattle.zdd_store.specs.inner.Store.{IsIn}
use Rattle.engine_samples.proofs.families.choose.Goals as goal

pub loop-var-preserved : goal.loop-var-preserved
loop-var-preserved c =
    let more : length c.loop-var.store ≤ length c.single.new.store = c.single.ensures.kept.more in
    subst (All (IsIn c.single.new.store)) (sym c.in_ok-push.ensures.items)
    (All-push (IsIn c.single.new.store) c.loop-var.parts.items c.in_ok-part.part
    (All-weaker (IsIn c.loop-var.store) (IsIn c.single.new.store) (λ id h. omega arith) c.loop-var.parts.items c.loop-var.invariant) c.in_ok-part.ensures.found)

pub at_least-requires : goal.at_least-requires
at_least-requires c = record { parts_in = subst (All (IsIn c.loop-var.store)) (sym c.as_slice.ensures.value) c.loop-var.invariant }
