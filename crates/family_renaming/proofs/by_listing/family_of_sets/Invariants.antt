use Rattle.std.proofs.Common.{◌≤◌, length, drop, map}
use Rattle.zdd_store.specs.inner.Store.{Keeps}
use Rattle.family_renaming.specs.inner.Lists.{HasSets}
use Rattle.family_renaming.proofs.by_listing.family_of_sets.Given as goal

abbrev pub invariant-loop-at : goal.invariant-loop-at
invariant-loop-at l = record {
  within : l.at ≤ length l.sets;
  kept : Keeps l.fn.store l.store;
  sets : HasSets l.store (map (λ s. s.items) (drop l.at l.sets)) l.family;
}

abbrev pub decreases-loop-at : goal.decreases-loop-at
decreases-loop-at l = l.at
