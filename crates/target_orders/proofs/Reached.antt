-- From the facts that hold under all events, and from families of cut sets, to what it takes to make a fact hold.
use Rattle.std.proofs.Common.{ℕ, zero, suc, ◌+◌, ◌≡◌, ◌<◌, ◌≤◌, Bool, not, eqb, eqb-true, eq-eqb, IsTrue, List, [], ◌∷◌, length, Contains, Some, ⊎_elim, refl, sym, subst, ap, ◌∙◌, arith}
use Rattle.std.proofs.lemmas.Bool.{cases_Bool, false≢true}
use Rattle.plain_values.specs.Numbered.{numbers_below}
use Rattle.plain_values.specs.Rising.{RisesWithin}
use Rattle.plain_values.proofs.Rising.{rises-push}
use Rattle.fault_system.specs.Truth.{NumberSet, Has, set_of}
use Rattle.fault_system.specs.Systems.{System, Holds}
use Rattle.fault_system.specs.CutSets.{IsCutSet}
use Rattle.fault_system.specs.inner.Listings.{listing}
use Rattle.fault_system.proofs.CutSetLaws.{Holds-grows}
use Rattle.fault_system.proofs.ListingLaws.{covers, length_rising, listing-exact}
use Rattle.fault_system.proofs.NumberSets.{RisesWithin-at, contained-in_set}
use Rattle.dependency_blocks.proofs.AllFacts.{below-contained}
use Rattle.zdd_store.specs.inner.Family.{Family}
use Rattle.zdd_store.specs.inner.Store.{Families, IsIn, IsSound, family_at, family_of}
use Rattle.zdd_store.specs.declared.id.Id.{Id}
use Rattle.zdd_store.proofs.Orders.{contains_first}
use Rattle.cutset_engine.specs.inner.Families.{HasMinimalCutSets}
use Rattle.target_orders.specs.Orders.{HoldsWithin, MayHold, NeedsAtLeast}

pub rises-below : (count : ℕ) → RisesWithin 0 count (numbers_below count)
rises-below zero = tt
rises-below (suc count) =
    let same : count + 1 ≡ suc count = omega arith in
    subst (λ high. RisesWithin 0 high (numbers_below (suc count))) same (rises-push 0 count (numbers_below count) (omega arith) (rises-below count))

module _ (system : System) (fact : ℕ) (all : NumberSet) where
  -- a fact that holds under all events holds under the set of them
  pub some-from_all : ((n : ℕ) → Has all n → n < length system.events) → Holds system all fact → MayHold system fact
  some-from_all few holds =
      let every : List ℕ = numbers_below (length system.events) in
      (every, (rises-below (length system.events), Holds-grows system fact all (set_of every) (λ n has. contained-in_set every n ((below-contained (length system.events) n).1 (few n has))) fact holds))

  -- a fact that holds under some events holds under all
  pub all-from_some : ((n : ℕ) → n < length system.events → Has all n) → MayHold system fact → Holds system all fact
  all-from_some full (set, (rises, holds)) =
      Holds-grows system fact (set_of set) all (λ n has. full n (RisesWithin-at 0 (length system.events) set n rises has).1) fact holds

-- a set of events has no more than there are
pub some-within : (system : System) (fact : ℕ) → MayHold system fact → HoldsWithin system fact (length system.events)
some-within system fact (set, (rises, holds)) = (set, (rises, holds), omega (arith, length_rising 0 (length system.events) set (omega arith) rises))

-- what holds within so many events holds within more
pub within-more : (system : System) (fact a b : ℕ) → a ≤ b → HoldsWithin system fact a → HoldsWithin system fact b
within-more system fact a b few (set, cut, short) = (set, cut, omega (arith, few, short))

-- what does not hold within so many events needs one more
pub needs-more : (system : System) (fact count : ℕ) → (HoldsWithin system fact count → ⊥) → NeedsAtLeast system fact (suc count)
needs-more system fact count never set cut = more (length set) count (λ short. never (set, cut, short)) where
  more : (a b : ℕ) → (a ≤ b → ⊥) → suc b ≤ a
  more a b not_le = omega (arith, not_le)

-- what does not hold under no event needs one
pub needs-one : (system : System) (fact : ℕ) → (IsCutSet system fact [] → ⊥) → NeedsAtLeast system fact 1
needs-one system fact never [] cut = absurd (never cut)
needs-one system fact never (event ∷ events) cut = omega arith

module _ (store : Families) (sound : IsSound store) (system : System) (target count : ℕ) (id : Id) (there : IsIn store id)
    (exact : HasMinimalCutSets system target (Some count) (family_of store id)) where
  some-set : (family : Family) → family_of store id ≡ family → (id.position ≡ 0 → ⊥) → HoldsWithin system target count
  some-set [] is other = absurd (other (sound.canonical id.position 0 there (omega (arith, sound.some))
      (λ set. ((λ here. subst (λ f. Contains f set) (is ∙ sym sound.empty) here), (λ here. subst (λ f. Contains f set) (sound.empty ∙ sym is) here)))))
  some-set (set ∷ sets) is other =
      let minimal = (exact set).0 (subst (λ f. Contains f set) (sym is) (contains_first set sets)) in
      (set, minimal.0.0, minimal.1)

  -- where the family of the minimal cut sets is another than that without sets, some set of so many events makes the target hold
  pub within-from_other : (id.position ≡ 0 → ⊥) → HoldsWithin system target count
  within-from_other = some-set (family_of store id) (λ i. family_of store id)

  none-there : id.position ≡ 0 → (set : List ℕ) → Contains (family_of store id) set → ⊥
  none-there is set here = absurd (contains-none (subst (λ f. Contains f set) (ap (family_at store) is ∙ sound.empty) here)) where
    contains-none : Contains [] set → ⊥
    contains-none (place, fits, same) = absurd (omega (arith, fits))

  -- and the other way round
  pub other-from_within : HoldsWithin system target count → id.position ≡ 0 → ⊥
  other-from_within (set, (rises, holds), short) is =
      let found = (covers system target (Some count) (listing system target (Some count)) set (listing-exact system target (Some count)) rises short).0 holds in
      none-there is found.0 ((exact found.0).1 (((listing-exact system target (Some count)).exact found.0).0 found.1))

-- whether a family is another than that without sets, as it is tested
pub other-tested : (position : ℕ) (is_empty : Bool) → is_empty ≡ eqb position 0 → IsTrue (not is_empty) → position ≡ 0 → ⊥
other-tested position is_empty is other zero_is = absurd (false≢true (subst (λ b. IsTrue (not b)) (is ∙ eq-eqb position 0 zero_is) other))

pub tested-other : (position : ℕ) (is_empty : Bool) → is_empty ≡ eqb position 0 → (position ≡ 0 → ⊥) → IsTrue (not is_empty)
tested-other position is_empty is other =
    ⊎_elim (λ yes_it_is. absurd (other (eqb-true position 0 yes_it_is))) (λ is_other. subst (λ b. IsTrue (not b)) (sym (is ∙ is_other)) refl) (cases_Bool (eqb position 0))
