-- From what a family covers to the minimal cut sets.
use Rattle.std.proofs.Common.{ℕ, ◌+◌, ◌≡◌, ◌<◌, ◌≤◌, ◌↔◌, Bool, true, false, cond, not, ◌==◌, List, [], ◌∷◌, filter, length, Contains, Option, Some, None, ⊎_elim, ◌∙◌, sym, subst, refl, arith}
use Rattle.std.proofs.lemmas.Bool.{false≢true, cases_lt, eqb-true, eq-eqb}
use Rattle.std.specs.List.{AllByRecursion}
use Rattle.fault_system.specs.Truth.{NumberSet, Has, member, set_of}
use Rattle.fault_system.specs.Systems.{System, IsSystem, applied, Holds}
use Rattle.plain_values.specs.Rising.{RisesWithin}
use Rattle.fault_system.specs.CutSets.{IsEventSet, IsSubset}
use Rattle.fault_system.specs.Listings.{IsWithinOrder}
use Rattle.fault_system.proofs.Occurrences.{occurs_event-in_range, fact-in_range}
use Rattle.zdd_store.specs.inner.Family.{Family, least_of, has, is_within, covers, IsRising, IsAntichain}
use Rattle.zdd_store.proofs.Orders.{all_contained}
use Rattle.zdd_families.specs.inner.Unions.{HasMinimalSets}
use Rattle.zdd_families.proofs.Subsets.{has_first, has_rest, has_cases, has_none, least-has, within_has, within_from, within_self, within_trans}
use Rattle.zdd_families.proofs.Covers.{covers_member, member_covers, covers_more}
use Rattle.zdd_families.proofs.Telling.{Tells, minimal_sets_of}
use Rattle.cutset_engine.specs.inner.Families.{HasMinimalCutSets}
use Rattle.zdd_families.proofs.Shorter.{within-shorter}
use Rattle.fault_system.proofs.Occurring.{truth-grows-on}
use Rattle.cutset_engine.proofs.Rounds.{fact_of}

-- the two words for the numbers of a set
pub has-set_of : (set : List ℕ) (n : ℕ) → has set n ≡ set_of set n
unfolding has
has-set_of set n = refl

-- events out of range do not matter
pub holds-range : (system : System) → IsSystem system → (es es' : NumberSet) → ((n : ℕ) → n < length system.events → Has es n → Has es' n) → (t : ℕ) → Holds system es t → Holds system es' t
holds-range system is es es' more t h xs closed = h xs (λ n a. closed n (grow n a)) where
  grow : (n : ℕ) → Has (member (applied system es xs)) n → Has (member (applied system es' xs)) n
  grow n a =
      let at = fact_of system es xs n a in
      at.value es' ∙ truth-grows-on es es' xs xs at.fact.formula
      (λ m o e. more m (occurs_event-in_range (length system.facts) (length system.events) m at.fact.formula (fact-in_range system is n at.fact at.is) o) e)
      (λ m o e. e) (sym (at.value es) ∙ a)

rising_within : (low high : ℕ) (set : List ℕ) → IsRising set → ((x : ℕ) → has set x ≡ true → (low ≤ x) × (x < high)) → RisesWithin low high set
unfolding IsRising
rising_within low high [] rising in_range = tt
rising_within low high (n ∷ ns) rising in_range =
    let here = in_range n (has_first n ns) in
    (here.0, here.1, rising_within (n + 1) high ns rising.1 (λ x h. (omega (arith, rising.0, least-has ns x h), (in_range x (has_rest n ns x h)).1)))

-- the numbers of a rising list are not below its bound
within_least : (low high : ℕ) (set : List ℕ) → low ≤ 4294967296 → high ≤ 4294967296 → RisesWithin low high set → low ≤ least_of set
unfolding least_of
within_least low high [] l top h = l
within_least low high (n ∷ ns) l top h =
    let rest : n + 1 ≤ least_of ns = within_least (n + 1) high ns (omega (arith, h.1)) top h.2 in omega (arith, h.0)

within_rising : (low high : ℕ) (set : List ℕ) → high ≤ 4294967296 → RisesWithin low high set → IsRising set
unfolding IsRising
within_rising low high [] top h = tt
within_rising low high (n ∷ ns) top h =
    let rest : n + 1 ≤ least_of ns = within_least (n + 1) high ns (omega (arith, h.1)) top h.2 in (omega arith, within_rising (n + 1) high ns top h.2)

-- a set without a number
unfoldable pub leave : ℕ → List ℕ → List ℕ
leave e set = filter (λ n. not (n == e)) set

leave-length : (e : ℕ) (set : List ℕ) → length (leave e set) ≤ length set
unfolding leave
leave-length e [] = omega arith
leave-length e (n ∷ ns) = omega (arith, by (not (n == e)) (leave-length e ns)) where
  by : (b : Bool) → length (filter (λ m. not (m == e)) ns) ≤ length ns → length (cond b (n ∷ filter (λ m. not (m == e)) ns) (filter (λ m. not (m == e)) ns)) ≤ length ns + 1
  by true h = omega arith
  by false h = omega arith

pub leave-has : (e : ℕ) (set : List ℕ) (x : ℕ) → (x ≡ e → ⊥) → has set x ≡ true → has (leave e set) x ≡ true
unfolding leave
leave-has e [] x differ h = absurd (has_none x h)
leave-has e (n ∷ ns) x differ h = by (n == e) refl (λ k. leave-has e ns x differ k) where
  by : (b : Bool) → (n == e) ≡ b → (has ns x ≡ true → has (filter (λ m. not (m == e)) ns) x ≡ true) → has (cond (not b) (n ∷ filter (λ m. not (m == e)) ns) (filter (λ m. not (m == e)) ns)) x ≡ true
  by true is rest = ⊎_elim (λ same. absurd (differ (sym same ∙ eqb-true n e is))) rest (has_cases n ns x h)
  by false is rest = ⊎_elim (λ same. subst (λ y. has (n ∷ filter (λ m. not (m == e)) ns) y ≡ true) same (has_first n _)) (λ k. has_rest n _ x (rest k)) (has_cases n ns x h)

pub leave-none : (e : ℕ) (set : List ℕ) → has (leave e set) e ≡ true → ⊥
unfolding leave
leave-none e [] h = has_none e h
leave-none e (n ∷ ns) h = by (n == e) refl (leave-none e ns) h where
  by : (b : Bool) → (n == e) ≡ b → (has (filter (λ m. not (m == e)) ns) e ≡ true → ⊥) → has (cond (not b) (n ∷ filter (λ m. not (m == e)) ns) (filter (λ m. not (m == e)) ns)) e ≡ true → ⊥
  by true is rest k = rest k
  by false is rest k = ⊎_elim (λ same. false≢true (sym is ∙ eq_true n e same)) rest (has_cases n _ e k) where
    eq_true : (a b : ℕ) → a ≡ b → (a == b) ≡ true
    eq_true a b same = eq-eqb a b same

pub leave-within : (e : ℕ) (set : List ℕ) → is_within (leave e set) set ≡ true
unfolding leave
leave-within e set = within_from (leave e set) set (λ x h. kept set x h) where
  kept : (ns : List ℕ) (x : ℕ) → has (filter (λ m. not (m == e)) ns) x ≡ true → has ns x ≡ true
  kept [] x h = h
  kept (n ∷ ns) x h = by (not (n == e)) (kept ns x) h where
    by : (b : Bool) → (has (filter (λ m. not (m == e)) ns) x ≡ true → has ns x ≡ true) → has (cond b (n ∷ filter (λ m. not (m == e)) ns) (filter (λ m. not (m == e)) ns)) x ≡ true → has (n ∷ ns) x ≡ true
    by true rest k = ⊎_elim (λ same. subst (λ y. has (n ∷ ns) y ≡ true) same (has_first n ns)) (λ m. has_rest n ns x (rest m)) (has_cases n _ x k)
    by false rest k = has_rest n ns x (rest k)

-- within the order if a longer set is
pub order-shorter : (most : Option ℕ) (a b : List ℕ) → length a ≤ length b → IsWithinOrder most b → IsWithinOrder most a
order-shorter None a b h w = tt
order-shorter (Some k) a b h w = omega arith

-- A family of rising sets, none within another and each within the order, that covers exactly the sets under which the
-- target holds, has exactly the minimal cut sets within the order.
module _ (system : System) (is_system : IsSystem system) (few : length system.events ≤ 4294967296) (target : ℕ) (most : Option ℕ) (family : Family)
    (rising : AllByRecursion IsRising family) (apart : IsAntichain family) (short : (set : List ℕ) → Contains family set → IsWithinOrder most set)
    (right : (set : List ℕ) → IsWithinOrder most set → (covers family set ≡ true) ↔ Holds system (has set) target) where
  abbrev IsSet : List ℕ → Type 0
  IsSet set = IsEventSet system set × Holds system (has set) target × IsWithinOrder most set

  holds_here : (set : List ℕ) → Contains family set → Holds system (has set) target
  holds_here set here = (right set (short set here)).0 (covers_member family set set here (within_self set))

  below_events : (set : List ℕ) → Contains family set → (e : ℕ) → has set e ≡ true → e < length system.events
  below_events set here e h = ⊎_elim (λ l. l) (λ past.
      let part = leave e set in
      let within_order : IsWithinOrder most part = order-shorter most part set (leave-length e set) (short set here) in
      let holds : Holds system (has part) target = holds-range system is_system (has set) (has part) (λ n l k. leave-has e set n (λ same. absurd (omega arith)) k) target (holds_here set here) in
      let c = member_covers family part ((right part within_order).1 holds) in
      let one : c.part ≡ set = apart c.part set c.member here (within_trans c.part part set c.within (leave-within e set)) in
      absurd (leave-none e set (within_has set part e (subst (λ s. is_within s part ≡ true) one c.within) h))) (cases_lt e (length system.events))

  is_set : (set : List ℕ) → Contains family set → IsSet set
  is_set set here = (
    rising_within 0 (length system.events) set (all_contained IsRising family set rising here) (λ x h. (omega arith, below_events set here x h)),
    holds_here set here,
    short set here,
  )

  tells : Tells (covers family) IsSet
  tells = record {
    rising = λ set q. within_rising 0 (length system.events) set few q.0;
    below = λ set h. let c = member_covers family set h in record { part = c.part; has_it = is_set c.part c.member; within = c.within };
    passes = λ part set q within. covers_more family part set within ((right part q.2).1 q.1);
  }

  minimal_ones : HasMinimalSets family IsSet
  minimal_ones = minimal_sets_of (covers family) IsSet family tells (record { covering = λ set. refl; apart = apart }) rising

  holds_as : (set : List ℕ) → Holds system (has set) target → Holds system (set_of set) target
  holds_as set h = holds-range system is_system (has set) (set_of set) (λ n l k. sym (has-set_of set n) ∙ k) target h

  holds_back : (set : List ℕ) → Holds system (set_of set) target → Holds system (has set) target
  holds_back set h = holds-range system is_system (set_of set) (has set) (λ n l k. has-set_of set n ∙ k) target h

  subset_within : (part whole : List ℕ) → IsSubset part whole → is_within part whole ≡ true
  subset_within part whole s = within_from part whole (λ x h. has-set_of whole x ∙ s x (sym (has-set_of part x) ∙ h))

  within_subset : (part whole : List ℕ) → is_within part whole ≡ true → IsSubset part whole
  within_subset part whole w n h = sym (has-set_of whole n) ∙ within_has part whole n w (has-set_of part n ∙ h)

  pub has_minimal_cut_sets : HasMinimalCutSets system target most family
  has_minimal_cut_sets set = (
    λ here.
        let minimal = (minimal_ones set).0 here in
        let q = minimal.0 in (
          (
            (q.0, holds_as set q.1),
            λ other is_cut part.
                let within = subset_within other set part in
                let up = within_rising 0 (length system.events) other few is_cut.0 in
                minimal.1 other (is_cut.0, holds_back other is_cut.1, order-shorter most other set (within-shorter other set up within) q.2) within,
          ),
          q.2,
        ),
    λ (is_minimal, w). (minimal_ones set).1 (
      (is_minimal.0.0, holds_back set is_minimal.0.1, w),
      λ part q within. is_minimal.1 part (q.0, holds_as part q.1) (within_subset part set within),
    ),
  )
