use Rattle.std.proofs.Common.{◌≡◌, All, length}
use Rattle.zdd_store.specs.declared.id.Id.{Id}
use Rattle.cutset_engine.proofs.families.no_families.Given as goal

abbrev pub invariant-loop-filled : goal.invariant-loop-filled
invariant-loop-filled l = record {
  long : length l.now.items ≡ l.filled;
  none : All (λ (id : Id). id.position ≡ 0) l.now.items;
}
