-- Path sets: what they are without cut sets, in the dual, and by the listed cut sets.
use Rattle.std.proofs.Common.{ℕ, zero, suc, ◌+◌, ◌≡◌, ◌<◌, ◌≤◌, ◌⊎◌, ◌↔◌, Bool, true, false, not, eqb, List, [], ◌∷◌, length, filter, None, Contains, inl, inr, ⊎_elim, ap, ◌∙◌, sym, subst, refl, arith, eq-eqb, eqb-true}
use Rattle.std.proofs.lemmas.Bool.{false≢true, and_from, and_parts, cases_Bool}
use Rattle.fault_system.specs.Truth.{NumberSet, Has, set_of}
use Rattle.fault_system.specs.Systems.{System, IsSystem, Holds}
use Rattle.plain_values.specs.Rising.{RisesWithin}
use Rattle.fault_system.specs.CutSets.{IsEventSet, IsCutSet, IsMinimalCutSet, IsSubset, makes_hold}
use Rattle.fault_system.specs.Listings.{IsListing}
use Rattle.fault_system.proofs.NumberSets.{RisesWithin-at, RisesWithin-filter, set_of-cases, set_of-filter, set_of-first, set_of-rest}
use Rattle.fault_system.proofs.CutSetLaws.{Holds-grows, makes_hold-exact}
use Rattle.cutset_engine.proofs.CutSets.{holds-range}
use Rattle.round_gates.specs.Staged.{IsConstant}
use Rattle.path_sets.specs.Duals.{dual_of}
use Rattle.path_sets.specs.inner.Duals.{IsWithoutFeedback, outside}
use Rattle.path_sets.specs.PathSets.{Meets, IsPathSet, IsMinimalPathSet}
use Rattle.path_sets.proofs.DualTruth.{dual-holds}

-- ---- the set of all events but some

-- the numbers from low on, so many
abbrev numbers : ℕ → ℕ → List ℕ
numbers low zero = []
numbers low (suc count) = low ∷ numbers (low + 1) count

numbers-rise : (low high count : ℕ) → low + count ≡ high → RisesWithin low high (numbers low count)
numbers-rise low high zero e = tt
numbers-rise low high (suc count) e = (omega arith, omega arith, numbers-rise (low + 1) high count (omega arith))

numbers-have : (low count n : ℕ) → low ≤ n → n < low + count → Has (set_of (numbers low count)) n
numbers-have low zero n l h = absurd (omega arith)
numbers-have low (suc count) n l h = ⊎_elim
    (λ same. subst (λ m. Has (set_of (low ∷ numbers (low + 1) count)) m) same (set_of-first low (numbers (low + 1) count)))
    (λ above. set_of-rest low (numbers (low + 1) count) n (numbers-have (low + 1) count n above (omega arith)))
    (from low n l)
  where
    from : (a b : ℕ) → a ≤ b → (a ≡ b) ⊎ (a + 1 ≤ b)
    from zero zero h = inl refl
    from zero (suc b) h = inr (omega arith)
    from (suc a) zero h = absurd (omega arith)
    from (suc a) (suc b) h = ⊎_elim (λ e. inl (ap suc e)) (λ l. inr (omega arith)) (from a b (omega arith))

-- two sets meet, or the one is outside the other
meets_or_apart : (set cut : List ℕ) → Meets set cut ⊎ ((n : ℕ) → Has (set_of cut) n → Has (outside (set_of set)) n)
meets_or_apart set [] = inr (λ n h. absurd (false≢true h))
meets_or_apart set (x ∷ xs) = by (set_of set x) refl (meets_or_apart set xs) where
  by : (b : Bool) → set_of set x ≡ b → Meets set xs ⊎ ((n : ℕ) → Has (set_of xs) n → Has (outside (set_of set)) n) → Meets set (x ∷ xs) ⊎ ((n : ℕ) → Has (set_of (x ∷ xs)) n → Has (outside (set_of set)) n)
  by true e rest = inl (x, e, set_of-first x xs)
  by false e (inl (n, a, b)) = inl (n, a, set_of-rest x xs n b)
  by false e (inr apart) = inr (λ n h. ⊎_elim (λ same. subst (λ k. not (set_of set k) ≡ true) same (ap not e)) (apart n) (set_of-cases x xs n h))

module _ (system : System) (is : IsSystem system) (target : ℕ) where
  abbrev all_events : List ℕ
  all_events = numbers 0 (length system.events)

  -- the events that are in a set of numbers
  abbrev events_of : NumberSet → List ℕ
  events_of set = filter set all_events

  events-rise : (set : NumberSet) → IsEventSet system (events_of set)
  events-rise set = RisesWithin-filter set 0 (length system.events) all_events (numbers-rise 0 (length system.events) (length system.events) (omega arith))

  events-in : (set : NumberSet) (n : ℕ) → n < length system.events → Has set n → Has (set_of (events_of set)) n
  events-in set n few h = set_of-filter set all_events n ∙ and_from _ _ (numbers-have 0 (length system.events) n (omega arith) (omega arith)) h

  events-from : (set : NumberSet) (n : ℕ) → Has (set_of (events_of set)) n → Has set n
  events-from set n h = (and_parts _ _ (sym (set_of-filter set all_events n) ∙ h)).1

  -- where the target holds under some numbers, the events among them are a cut set
  cut-of : (set : NumberSet) → Holds system set target → IsCutSet system target (events_of set)
  cut-of set holds = (events-rise set, holds-range system is set (set_of (events_of set)) (events-in set) target holds)

  both-ways : (b : Bool) → b ≡ true → not b ≡ true → ⊥
  both-ways b e f = false≢true (sym (ap not e) ∙ f)

  -- ---- a set is a path set exactly where the target does not hold under all other events

  pub path-without : (set : List ℕ) → IsPathSet system target set → Holds system (outside (set_of set)) target → ⊥
  path-without set path holds =
      let (n, own, other) = path.1 (events_of (outside (set_of set))) (cut-of (outside (set_of set)) holds) in
      both-ways (set_of set n) own (events-from (outside (set_of set)) n other)

  pub path-from : (set : List ℕ) → IsEventSet system set → (Holds system (outside (set_of set)) target → ⊥) → IsPathSet system target set
  path-from set rises none = (
    rises,
    λ cut is_cut. ⊎_elim
        (λ meets. meets)
        (λ apart. absurd (none (Holds-grows system target (set_of cut) (outside (set_of set)) apart target is_cut.1)))
        (meets_or_apart set cut),
  )

  pub path-exact : (set : List ℕ) → IsPathSet system target set ↔ (IsEventSet system set × (Holds system (outside (set_of set)) target → ⊥))
  path-exact set = ((λ path. (path.0, path-without set path)), (λ both. path-from set both.0 both.1))

  -- ---- and where it is a cut set of the dual

  module _ (free : IsWithoutFeedback system) (inside : target < length system.facts) where
    pub path-to-cut : (set : List ℕ) → IsPathSet system target set → IsCutSet (dual_of system) target set
    path-to-cut set path = (path.0, (dual-holds system is free (set_of set) target inside).1 (path-without set path))

    pub cut-to-path : (set : List ℕ) → IsCutSet (dual_of system) target set → IsPathSet system target set
    cut-to-path set cut = path-from set cut.0 ((dual-holds system is free (set_of set) target inside).0 cut.1)

    pub minimal-paths : (set : List ℕ) → IsMinimalPathSet system target set ↔ IsMinimalCutSet (dual_of system) target set
    minimal-paths set = (
      (λ (path, least). (path-to-cut set path, λ other cut part. least other (cut-to-path other cut) part)),
      (λ (cut, least). (cut-to-path set cut, λ other path part. least other (path-to-cut other path) part)),
    )

  -- ---- each event of a minimal path set is needed

  -- a set without a number
  abbrev less : List ℕ → ℕ → List ℕ
  less set n = filter (λ m. not (eqb m n)) set

  less-part : (set : List ℕ) (n : ℕ) → IsSubset (less set n) set
  less-part set n m h = (and_parts _ _ (sym (set_of-filter (λ k. not (eqb k n)) set m) ∙ h)).0

  less-gone : (set : List ℕ) (n : ℕ) → Has (set_of (less set n)) n → ⊥
  less-gone set n h = both-ways (eqb n n) (eq-eqb n n refl) (and_parts _ _ (sym (set_of-filter (λ k. not (eqb k n)) set n) ∙ h)).1

  less-has : (set : List ℕ) (n m : ℕ) → Has (set_of set) m → eqb m n ≡ false → Has (set_of (less set n)) m
  less-has set n m h apart = set_of-filter (λ k. not (eqb k n)) set m ∙ and_from _ _ h (ap not apart)

  -- the cut set of all events that are not in the set, and the one
  pub needed : (set : List ℕ) (n : ℕ) → IsMinimalPathSet system target set → Has (set_of set) n → (cut : List ℕ) × IsCutSet system target cut × ((m : ℕ) → Has (set_of set) m → Has (set_of cut) m → m ≡ n)
  needed set n (path, least) own = ⊎_elim
      (λ holds. (events_of rest, cut-of rest ((makes_hold-exact system target rest).0 holds), only))
      (λ fails. absurd (less-gone set n (subst (λ (s : List ℕ). Has (set_of s) n) (sym (least (less set n) (path-from (less set n) rises (gone fails)) (less-part set n))) own)))
      (cases_Bool (makes_hold system target rest))
    where
      rest : NumberSet
      rest = outside (set_of (less set n))

      rises : IsEventSet system (less set n)
      rises = RisesWithin-filter (λ m. not (eqb m n)) 0 (length system.events) set path.0

      gone : makes_hold system target rest ≡ false → Holds system rest target → ⊥
      gone fails holds = false≢true (sym fails ∙ (makes_hold-exact system target rest).1 holds)

      only : (m : ℕ) → Has (set_of set) m → Has (set_of (events_of rest)) m → m ≡ n
      only m h k = ⊎_elim (λ same. eqb-true m n same) (λ apart. absurd (both-ways (set_of (less set n) m) (less-has set n m h apart) (events-from rest m k))) (cases_Bool (eqb m n))

-- ---- the listed cut sets are enough

module _ (system : System) (target : ℕ) (listed : List (List ℕ)) (listing : IsListing system target None listed) (covers : (cut : List ℕ) → IsCutSet system target cut → (part : List ℕ) × Contains listed part × IsSubset part cut) where
  pub path-listed : (set : List ℕ) → IsPathSet system target set ↔ (IsEventSet system set × ((cut : List ℕ) → Contains listed cut → Meets set cut))
  path-listed set = (
    (λ path. (path.0, λ cut here. path.1 cut ((listing.exact cut).0 here).0.0)),
    (λ both. (
      both.0,
      λ cut is_cut.
          let (part, here, within) = covers cut is_cut in
          let (n, own, other) = both.1 part here in
          (n, own, within n other),
    )),
  )

-- ---- constant targets

empty-within : (set : List ℕ) → IsSubset [] set
empty-within set n h = absurd (false≢true h)

never-cuts : (system : System) (target : ℕ) → IsConstant system target false → (cut : List ℕ) → IsCutSet system target cut → ⊥
never-cuts system target constant cut (rises, holds) =
    false≢true (sym (constant (set_of cut) (λ n h. (RisesWithin-at 0 (length system.events) cut n rises h).1)) ∙ (makes_hold-exact system target (set_of cut)).1 holds)

pub never-paths : (system : System) (target : ℕ) (set : List ℕ) → IsConstant system target false → IsMinimalPathSet system target set ↔ (set ≡ [])
never-paths system target set constant =
    let empty : IsPathSet system target [] = (tt, λ cut is. absurd (never-cuts system target constant cut is)) in (
      (λ (path, least). sym (least [] empty (empty-within set))),
      (λ e. subst (IsMinimalPathSet system target) (sym e) (empty, λ other path part. only other part)),
    )
  where
    only : (other : List ℕ) → IsSubset other [] → other ≡ []
    only [] part = refl
    only (x ∷ xs) part = absurd (false≢true (part x (set_of-first x xs)))

pub always-paths : (system : System) (target : ℕ) (set : List ℕ) → IsConstant system target true → IsMinimalPathSet system target set → ⊥
always-paths system target set constant (path, least) =
    let holds : Holds system (set_of []) target = (makes_hold-exact system target (set_of [])).0 (constant (set_of []) (λ n h. absurd (false≢true h))) in
    let (n, a, b) = path.1 [] (tt, holds) in false≢true b

-- ---- cut sets are all that path sets hang on

pub paths-carry : (a b : System) (s t : ℕ) → ((set : List ℕ) → IsEventSet a set → IsEventSet b set) → ((cut : List ℕ) → IsCutSet b t cut → IsCutSet a s cut) → (set : List ℕ) → IsPathSet a s set → IsPathSet b t set
paths-carry a b s t events cuts set (rises, meets) = (events set rises, λ cut is. meets cut (cuts cut is))
