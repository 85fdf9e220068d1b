-- Families that were found, as a store grows.
use Rattle.std.proofs.Common.{ℕ, List, [], ◌∷◌, ◌++◌, sym, subst}
use Rattle.std.specs.List.{AllByRecursion}
use Rattle.fault_system.specs.Systems.{System}
use Rattle.zdd_store.specs.inner.Store.{Families, Keeps}
use Rattle.zdd_families.proofs.Pairs.{found_kept}
use Rattle.cutset_engine.specs.inner.Families.{HasMinimalCutSets}
use Rattle.forbidden_sets.specs.declared.found.FoundFamily.{FoundFamily}
use Rattle.forbidden_sets.specs.inner.Families.{AreFound, IsFound}

stays : (system : System) (before after : Families) (one : FoundFamily) → Keeps before after → IsFound system before one → IsFound system after one
stays system before after one kept found = record {
  there = found_kept before after one.id kept found.there;
  exact = subst (HasMinimalCutSets system one.target one.most) (sym (kept.same one.id.position found.there)) found.exact;
}

-- what was found is still there
pub all-stay : (system : System) (before after : Families) (families : List FoundFamily) → Keeps before after → AreFound system before families → AreFound system after families
all-stay system before after [] kept found = found
all-stay system before after (one ∷ families) kept found = (stays system before after one kept found.0, all-stay system before after families kept found.1)

-- and one more is
pub one-more : (system : System) (store : Families) (families : List FoundFamily) (one : FoundFamily) → AreFound system store families → IsFound system store one → AreFound system store (families ++ one ∷ [])
one-more system store [] one found last = (last, tt)
one-more system store (first ∷ families) one found last = (found.0, one-more system store families one found.1 last)
