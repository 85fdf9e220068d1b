use Rattle.std.proofs.Common.{◌≡◌, ◌≤◌, ◌+◌, ◌-◌, length, drop, map, All}
use Rattle.zdd_store.specs.inner.Store.{Keeps, family_of}
use Rattle.zdd_families.specs.inner.Rows.{IsMinimalNumber, IsRow}
use Rattle.zdd_families.proofs.choice.fill_row.Given as goal

abbrev pub invariant-loop-at : goal.invariant-loop-at
invariant-loop-at l = record {
  within : l.at ≤ length l.parts;
  long : length l.row ≡ l.k + 1;
  minimal : All (IsMinimalNumber l.store) l.row;
  row : IsRow (l.k - l.at) l.most l.store (drop l.at (map (family_of l.fn.store) l.parts)) l.row;
  kept : Keeps l.fn.store l.store;
}

abbrev pub decreases-loop-at : goal.decreases-loop-at
decreases-loop-at l = l.at
