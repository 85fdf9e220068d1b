use Rattle.std.proofs.Common.{take}
use Rattle.zdd_store.specs.inner.Store.{Keeps}
use Rattle.cutset_engine.proofs.Parts.{PartsStand}
use Rattle.cutset_engine.proofs.formulas.+formula.Given as goal

abbrev pub invariant-part_families-loop-part : goal.invariant-part_families-loop-part
invariant-part_families-loop-part l = record {
  kept : Keeps l.fn.store l.store;
  parts : PartsStand l.setting.order.now l.fn.store l.store l.now l.setting.most (take l.part-index l.parts) l.families.items;
}
