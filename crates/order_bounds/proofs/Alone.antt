-- Families of sets with one event alone, and of those with more than so many events.
use Rattle.std.proofs.Common.{ℕ, suc, ◌+◌, ◌≡◌, ◌≤◌, Bool, true, false, ◌&&◌, ◌||◌, List, [], ◌∷◌, ◌++◌, map, length, All, nat_le, ap, ◌∙◌, sym, subst, refl, arith}
use Rattle.std.proofs.lemmas.Bool.{lt-leb}
use Rattle.std.proofs.lemmas.List.{map-append}
use Rattle.std.proofs.lemmas.List.Elements.{All-nil, All-push}
use Rattle.fault_system.specs.Truth.{count_true, set_of}
use Rattle.zdd_store.specs.inner.Family.{covers, has, is_within}
use Rattle.zdd_store.specs.inner.Store.{Families, IsIn, family_of, Keeps}
use Rattle.zdd_store.specs.declared.id.Id.{Id}
use Rattle.zdd_families.specs.inner.Unions.{some_of}
use Rattle.cutset_engine.specs.inner.Gates.{covers_each}
use Rattle.cutset_engine.proofs.Covering.{kept_each, kept_in, some_of-count}
use Rattle.order_bounds.specs.Orders.{has_more}
use Rattle.order_bounds.specs.inner.Many.{AreAlone}

alone_covers : (event : ℕ) (set : List ℕ) → covers ((event ∷ []) ∷ []) set ≡ has set event
unfolding covers is_within
alone_covers event set = once (has set event)
  where
    once : (b : Bool) → (b && true) || false ≡ b
    once true = refl
    once false = refl

pub none_alone : (store : Families) → AreAlone store [] []
none_alone store = record { found = All-nil (IsIn store); covering = λ set. refl }

-- one event more
pub alone_more : (before after : Families) (events : List ℕ) (ids pushed : List Id) (event : ℕ) (id : Id) → Keeps before after → AreAlone before events ids → IsIn after id → family_of after id ≡ (event ∷ []) ∷ [] → pushed ≡ ids ++ id ∷ []
    → AreAlone after (events ++ event ∷ []) pushed
alone_more before after events ids pushed event id kept are found family is =
    record {
      found = subst (All (IsIn after)) (sym is) (All-push (IsIn after) ids id (kept_in before after ids kept are.found) found);
      covering = λ set.
          let old : covers_each after ids set ≡ map (has set) events = kept_each before after ids set kept are.found ∙ are.covering set in
          let new : covers (family_of after id) set ≡ has set event = ap (λ its. covers its set) family ∙ alone_covers event set in
          ap (λ its. covers_each after its set) is ∙ map-append (λ one. covers (family_of after one) set) ids (id ∷ [])
          ∙ ap (λ bs. bs ++ covers (family_of after id) set ∷ []) old ∙ ap (λ b. map (has set) events ++ b ∷ []) new ∙ sym (map-append (has set) events (event ∷ []));
    }

-- the two words for what is in a set
has_as : (set events : List ℕ) → map (has set) events ≡ map (set_of set) events
unfolding has
has_as set events = refl

-- at least so many of the families cover a set where it has more than so many of the events
pub more_covered : (store : Families) (events : List ℕ) (ids : List Id) (most : ℕ) (set : List ℕ) → AreAlone store events ids → some_of (most + 1) (map (family_of store) ids) set ≡ has_more most events set
more_covered store events ids most set are = some_of-count (most + 1) store ids set ∙ ap (λ bs. nat_le (most + 1) (count_true bs)) (are.covering set ∙ has_as set events)

one_more : (b : Bool) (bs : List Bool) (n : ℕ) → count_true bs ≤ n → count_true (b ∷ bs) ≤ suc n
one_more true bs n h = omega (arith, h)
one_more false bs n h = omega (arith, h)

few_true : (f : ℕ → Bool) (events : List ℕ) → count_true (map f events) ≤ length events
few_true f [] = omega arith
few_true f (event ∷ events) = one_more (f event) (map f events) (length events) (few_true f events)

-- no set has more of some events than there are
pub none_more : (most : ℕ) (events : List ℕ) (set : List ℕ) → length events ≤ most → has_more most events set ≡ false
none_more most events set few = let h = few_true (set_of set) events in lt-leb (most + 1) _ (omega arith)
