use Rattle.std.proofs.Common.{ℕ, ◌+◌, ◌<◌, List, length, Contains}
use Rattle.zdd_store.specs.inner.Store.{Keeps, family_of}
use Rattle.forbidden_sets.proofs.searching.smallest.Given as goal

abbrev pub invariant-loop-size : goal.invariant-loop-size
invariant-loop-size l = record {
  kept : Keeps l.fn.store l.store;
  none : (set : List ℕ) → Contains (family_of l.fn.store l.id) set → length set < l.size + 1 → ⊥;
}
