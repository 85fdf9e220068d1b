-- What depends on a large fact is large; what depends on few facts and events is not.
use Rattle.std.proofs.Common.{ℕ, zero, suc, ◌+◌, ◌-◌, ◌≡◌, ◌<◌, ◌≤◌, ◌⊎◌, Bool, true, false, List, [], ◌∷◌, length, inl, inr, ⊎_elim, refl, subst, arith}
use Rattle.std.proofs.lemmas.Bool.{cases_lt, false≢true}
use Rattle.plain_values.specs.declared.refusal.Code.TheVariants.{SliceTooLarge, TooManySliceEvents}
use Rattle.plain_values.specs.Refusal.{of_words}
use Rattle.plain_values.specs.Rising.{RisesWithin}
use Rattle.fault_system.specs.Truth.{NumberSet, Has, member, count_true, occurs, set_of}
use Rattle.fault_system.specs.Systems.{System, IsFact, IsSystem}
use Rattle.fault_system.specs.declared.formula.FactInfo.{FactInfo}
use Rattle.fault_system.proofs.Elements.{In, In-contains, contains_In}
use Rattle.fault_system.proofs.ListingLaws.{length_rising}
use Rattle.fault_system.proofs.NumberSets.{set_of-contained}
use Rattle.backward_slice.specs.Slices.{DependsOn, DependsOnEvent, IsServed, IsSlice, most_slice_events, most_slice_facts}
use Rattle.backward_slice.specs.inner.Reach.{IsSmallReach}
use Rattle.backward_slice.specs.declared.parts.Reach.{Reach}
use Rattle.backward_slice.specs.declared.parts.Slice.{Slice}
use Rattle.backward_slice.proofs.OneSlice.{served_or_large}
use Rattle.dependency_blocks.proofs.Passes.{depends_step, depends_then}
use Rattle.dependency_blocks.specs.Blocks.{number_of}
use Rattle.dependency_blocks.specs.inner.Blocks.{AreAllBlocks}
use Rattle.target_orders.specs.Orders.{IsLarge}
use Rattle.target_orders.specs.inner.Sizes.{AreLarge, AreSmall}
use Rattle.target_orders.proofs.Reachable.{has-slice}

rising-in : (low high : ℕ) (xs : List ℕ) (n : ℕ) → RisesWithin low high xs → In n xs → low ≤ n
rising-in low high [] n r i = absurd i
rising-in low high (x ∷ xs) n r i = ⊎_elim (λ e. omega (arith, r.0, e)) (λ t. omega (arith, r.0, rising-in (x + 1) high xs n r.2 t)) i

-- a rising list whose numbers are all in another one has no more of them
no_more : (low low' high : ℕ) (xs ys : List ℕ) → RisesWithin low high xs → RisesWithin low' high ys → ((n : ℕ) → In n xs → In n ys) → length xs ≤ length ys
no_more low low' high [] ys r s part = omega arith
no_more low low' high (x ∷ xs) [] r s part = absurd (part x (inl refl))
no_more low low' high (x ∷ xs) (y ∷ ys) r s part = ⊎_elim
    (λ same. let rest : length xs ≤ length ys = no_more (x + 1) (y + 1) high xs ys r.2 s.2
    (λ n i. ⊎_elim (λ e. absurd (omega (arith, same, e, rising-in (x + 1) high xs n r.2 i))) (λ t. t) (part n (inr i))) in
    omega (arith, rest))
    (λ there. let below : y + 1 ≤ x = rising-in (y + 1) high ys x s.2 there in
    let rest : length (x ∷ xs) ≤ length ys = no_more low (y + 1) high (x ∷ xs) ys r s.2
    (λ n i. ⊎_elim (λ e. absurd (omega (arith, e, below, rising-in x high (x ∷ xs) n (omega arith, r.1, r.2) i))) (λ t. t) (part n i)) in
    omega (arith, rest))
    (part x (inl refl))

count-any : (b : Bool) (bs : List Bool) → count_true bs ≤ count_true (b ∷ bs)
count-any true bs = omega arith
count-any false bs = omega arith

count-one : (b : Bool) (bs : List Bool) → b ≡ true → count_true (b ∷ bs) ≡ count_true bs + 1
count-one true bs e = refl
count-one false bs e = absurd (false≢true e)

-- a rising list of marked numbers has no more than are marked
marked-few : (bs : List Bool) (low high : ℕ) (xs : List ℕ) → RisesWithin low high xs → ((n k : ℕ) → In n xs → n ≡ k + low → Has (member bs) k) → length xs ≤ count_true bs
marked-few [] low high [] r part = omega arith
marked-few [] low high (x ∷ xs) r part = absurd (false≢true (part x (x - low) (inl refl) (omega (arith, r.0))))
marked-few (b ∷ bs) low high [] r part = omega arith
marked-few (b ∷ bs) low high (x ∷ xs) r part = ⊎_elim
    (λ less. let rest : length (x ∷ xs) ≤ count_true bs = marked-few bs (low + 1) high (x ∷ xs) (omega (arith, less), r.1, r.2) (λ n k i e. part n (suc k) i (omega (arith, e))) in
    omega (arith, rest, count-any b bs))
    (λ most. let same : x ≡ low = omega (arith, most, r.0) in
    let rest : length xs ≤ count_true bs = marked-few bs (low + 1) high xs (subst (λ k. RisesWithin (k + 1) high xs) same r.2) (λ n k i e. part n (suc k) (inr i) (omega (arith, e))) in
    omega (arith, rest, count-one b bs (part x zero (inl refl) (omega (arith, same)))))
    (cases_lt low x)

-- a fact whose slice has too many facts, or too many events, is large
large-from : (system : System) (n : ℕ) (slice : Slice) → IsSlice system n slice → (most_slice_facts < length slice.facts) ⊎ (most_slice_events < length slice.events) → IsLarge system n
large-from system n slice is many = ⊎_elim (λ h. facts_many h)
    (λ h. ⊎_elim (λ l. facts_many l) (λ few. (of_words TooManySliceEvents, (slice, is, inr (few, h, refl)))) (cases_lt most_slice_facts (length slice.facts))) many where
      facts_many : most_slice_facts < length slice.facts → IsLarge system n
      facts_many h = (of_words SliceTooLarge, (slice, is, inl (h, refl)))

module _ (system : System) where
  -- what depends on a large fact is large
  pub large-up : IsSystem system → (n m : ℕ) → n < length system.facts → DependsOn system n m → IsLarge system m → IsLarge system n
  large-up is n m here depends (refusal, large) = large-from system n own.0 own.1 (⊎_elim (λ h. inl (omega (arith, h.0, facts))) (λ h. inr (omega (arith, h.1, events))) large.2) where
    own : (slice : Slice) × IsSlice system n slice
    own = has-slice system n is here

    facts : length large.0.facts ≤ length own.0.facts
    facts = no_more 0 0 (length system.facts) large.0.facts own.0.facts large.1.facts_rise own.1.facts_rise
        (λ k i. In-contains k own.0.facts ((own.1.facts k).1 (depends_then system n m k depends ((large.1.facts k).0 (contains_In k large.0.facts i)))))

    onward : (event : ℕ) → DependsOnEvent system m event → DependsOnEvent system n event
    onward event (k, fact, on, at, o) = (k, fact, depends_then system n m k depends on, at, o)

    events : length large.0.events ≤ length own.0.events
    events = no_more 0 0 (length system.events) large.0.events own.0.events large.1.events_rise own.1.events_rise
        (λ k i. In-contains k own.0.events ((own.1.events k).1 (onward k ((large.1.events k).0 (contains_In k large.0.events i)))))

  -- what a fact depends on that has a slice is not large
  pub small-served : IsSystem system → (n : ℕ) (slice : Slice) → n < length system.facts → IsServed system n slice → (m : ℕ) → Has (set_of slice.facts) m → IsLarge system m → ⊥
  small-served is n slice here served m has large =
      let own : IsLarge system n = large-up is n m here ((served.is_slice.facts m).0 (set_of-contained slice.facts m has)) large in
      served_or_large system n slice own.0 served own.1

  -- facts that depend on few facts and events together are not large
  pub small-part : (from : List ℕ) (reach : Reach) → IsSmallReach system from reach → AreSmall system reach.facts
  small-part from reach small n has (refusal, large) = ⊎_elim (λ h. absurd (omega (arith, h.0, small.few_facts, few_facts))) (λ h. absurd (omega (arith, h.1, small.few_events, few_events))) large.2 where
    facts : List Bool
    facts = reach.facts

    events : List Bool
    events = reach.events

    inside : (m : ℕ) → DependsOn system n m → Has (member facts) m
    inside m depends = let (start, among, to) = (small.is_reach.facts n).0 has in (small.is_reach.facts m).1 (start, among, depends_then system start n m to depends)

    event_inside : (event : ℕ) → DependsOnEvent system n event → Has (member events) event
    event_inside event (m, fact, depends, at, o) =
        let (start, among, to) = (small.is_reach.facts n).0 has in
        (small.is_reach.events event).1 (m, fact, (start, among, depends_then system start n m to depends), at, o)

    few_facts : length large.0.facts ≤ count_true facts
    few_facts = marked-few facts 0 (length system.facts) large.0.facts large.1.facts_rise
        (λ m k i e. let same : m ≡ k = omega (arith, e) in subst (Has (member facts)) same (inside m ((large.1.facts m).0 (contains_In m large.0.facts i))))

    few_events : length large.0.events ≤ count_true events
    few_events = marked-few events 0 (length system.events) large.0.events large.1.events_rise
        (λ m k i e. let same : m ≡ k = omega (arith, e) in subst (Has (member events)) same (event_inside m ((large.1.events m).0 (contains_In m large.0.events i))))

  -- no fact of a system of few facts and events is large
  pub small-all : length system.facts ≤ most_slice_facts → length system.events ≤ most_slice_events → (n : ℕ) → IsLarge system n → ⊥
  small-all few_facts few_events n (refusal, large) = ⊎_elim
      (λ h. absurd (omega (arith, h.0, few_facts, length_rising 0 (length system.facts) large.0.facts (omega arith) large.1.facts_rise)))
      (λ h. absurd (omega (arith, h.1, few_events, length_rising 0 (length system.events) large.0.events (omega arith) large.1.events_rise)))
      large.2

  -- a fact in whose formula a large one stands is large
  pub large-step : IsSystem system → (n m : ℕ) (fact : FactInfo) → n < length system.facts → IsFact system n fact → occurs m fact.formula ≡ true → IsLarge system m → IsLarge system n
  large-step is n m fact here at o = large-up is n m here (depends_step system n m fact at o)

  -- a fact of the block of a large one is large
  pub large-block : IsSystem system → (numbers : List ℕ) → AreAllBlocks system numbers → (n m : ℕ) → n < length system.facts → number_of numbers n < 4294967295 → number_of numbers n ≡ number_of numbers m → IsLarge system m → IsLarge system n
  large-block is numbers blocks n m here there same =
      large-up is n m here ((blocks.mutual_reach n m ((blocks.inside n).1 there) ((blocks.inside m).1 (subst (λ k. k < 4294967295) same there))).0 same).0

  -- one more is large
  pub large-put : (old new : List Bool) (number : ℕ) → ((n : ℕ) → Has (member new) n → Has (member old) n ⊎ (number ≡ n)) → AreLarge system old → IsLarge system number → AreLarge system new
  large-put old new number grows was here n h = ⊎_elim (λ o. was n o) (λ e. subst (IsLarge system) e here) (grows n h)

  -- more are not large
  pub small-put : (old new : List Bool) (more : NumberSet) → ((n : ℕ) → Has (member new) n → Has (member old) n ⊎ Has more n) → AreSmall system old → ((n : ℕ) → Has more n → IsLarge system n → ⊥) → AreSmall system new
  small-put old new more grows was here n h = ⊎_elim (λ o. was n o) (λ m. here n m) (grows n h)
