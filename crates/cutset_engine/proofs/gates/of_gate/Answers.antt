use Rattle.std.proofs.Common.{List, All, subst, sym}
use Rattle.std.specs.List.Sorted.{IsPermutation}
use Rattle.std.proofs.lemmas.List.Sorted.{All-permutation}
use Rattle.zdd_store.specs.inner.Store.{IsIn}
use Rattle.zdd_store.specs.declared.id.Id.{Id}
use Rattle.cutset_engine.proofs.Covering.{made_sorted}
use Rattle.cutset_engine.proofs.gates.of_gate.Goals as goal

pub of_parts-requires : goal.of_parts-requires
of_parts-requires c = subst (All (IsIn c.args.store.now)) (sym c.as_slice.ensures.value) (All-permutation (IsIn c.args.store.now) c.args.parts.items c.sort_by_variable.new.parts.items c.sort_by_variable.ensures c.requires)

pub returns : goal.returns
returns c =
    made_sorted c.args.store.now c.of_parts.new.store c.args.most c.args.gate c.args.parts.items c.as_slice.result.now c.of_parts.result
    (subst (λ (ids : List Id). IsPermutation c.args.parts.items ids) (sym c.as_slice.ensures.value) c.sort_by_variable.ensures) c.of_parts.ensures
