use Rattle.std.proofs.Common.{List, All, subst, sym}
use Rattle.std.specs.List.Sorted.{IsPermutation}
use Rattle.std.proofs.lemmas.List.Sorted.{All-permutation}
use Rattle.zdd_store.specs.inner.Store.{IsIn}
use Rattle.zdd_store.specs.declared.id.Id.{Id}
use Rattle.cutset_engine.proofs.Covering.{made_counted}
use Rattle.cutset_engine.proofs.gates.counted.Goals as goal

pub by_table-requires : goal.by_table-requires
by_table-requires c = subst (All (IsIn c.args.store.now)) (sym c.as_slice.ensures.value) (All-permutation (IsIn c.args.store.now) c.args.parts.items c.sort_for_counting.new.parts.items c.sort_for_counting.ensures c.requires)

pub returns : goal.returns
returns c =
    made_counted c.args.store.now c.by_table.new.store c.args.most c.args.least c.args.parts.items c.as_slice.result.now c.by_table.result
    (subst (λ (ids : List Id). IsPermutation c.args.parts.items ids) (sym c.as_slice.ensures.value) c.sort_for_counting.ensures) c.by_table.ensures
