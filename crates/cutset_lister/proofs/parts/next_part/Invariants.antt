use Rattle.std.proofs.Common.{◌≡◌, drop}
use Rattle.std.specs.List.{flat_map}
use Rattle.zdd_store.specs.inner.Store.{Families, IsSound, family_of}
use Rattle.cutset_lister.proofs.parts.next_part.Given as goal

abbrev pub invariant-loop-k : goal.invariant-loop-k
invariant-loop-k l = (store : Families) → IsSound store → flat_map (family_of store) (drop l.k l.parts) ≡ flat_map (family_of store) (drop l.begun l.parts)
