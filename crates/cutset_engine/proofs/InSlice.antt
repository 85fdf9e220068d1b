-- Minimal cut sets have events of the slice alone.
use Rattle.std.proofs.Common.{ℕ, ◌≡◌, Bool, true, false, not, ◌||◌, ◌==◌, List, [], ◌∷◌, length, Contains, ⊎_elim, refl, sym, ap, ◌∙◌, subst}
use Rattle.std.proofs.lemmas.Bool.{false≢true}
use Rattle.fault_system.specs.Truth.{NumberSet, Has, member, set_of, occurs, truth}
use Rattle.fault_system.specs.Systems.{System, Holds, applied, IsFact}
use Rattle.fault_system.specs.CutSets.{IsCutSet, IsMinimalCutSet}
use Rattle.fault_system.proofs.NumberSets.{RisesWithin-filter, member-map}
use Rattle.fault_system.specs.declared.formula.FactInfo.{FactInfo}
use Rattle.backward_slice.specs.Slices.{IsSlice}
use Rattle.backward_slice.specs.declared.parts.Slice.{Slice}
use Rattle.zdd_store.specs.inner.Family.{has, is_within}
use Rattle.zdd_store.proofs.Orders.{contains_first, contains_rest, contains_none, first_or_rest}
use Rattle.zdd_families.proofs.Subsets.{has_first, has_rest, has_cases, has_none, within_from, within_has}
use Rattle.cutset_engine.proofs.CutSets.{has-set_of, leave, leave-has, leave-none, leave-within}
use Rattle.fault_system.proofs.Occurring.{truth-grows-on}
use Rattle.cutset_engine.proofs.Rounds.{fact_of}

-- the two words for what is in a list
contains_has : (xs : List ℕ) (n : ℕ) → Contains xs n → has xs n ≡ true
contains_has [] n here = absurd (contains_none n here)
contains_has (x ∷ xs) n here = ⊎_elim (λ e. subst (λ m. has (x ∷ xs) m ≡ true) e (has_first x xs)) (λ r. has_rest x xs n (contains_has xs n r)) (first_or_rest x xs n here)

has_contains : (xs : List ℕ) (n : ℕ) → has xs n ≡ true → Contains xs n
has_contains [] n here = absurd (has_none n here)
has_contains (x ∷ xs) n here = ⊎_elim (λ e. subst (Contains (x ∷ xs)) e (contains_first x xs)) (λ r. contains_rest x xs n (has_contains xs n r)) (has_cases x xs n here)

or_no : (a b : Bool) → b ≡ true → (a || not b) ≡ true → a ≡ true
or_no true b e h = refl
or_no false true e h = absurd (false≢true h)
or_no false false e h = absurd (false≢true e)

or_first : (a b : Bool) → a ≡ true → a || b ≡ true
or_first true b h = refl
or_first false b h = absurd (false≢true h)

or_second : (a b : Bool) → b ≡ false → a || not b ≡ true
or_second true b h = refl
or_second false true h = absurd (false≢true (sym h))
or_second false false h = refl

module _ (system : System) (target : ℕ) (slice : Slice) (is : IsSlice system target slice) where
  -- a fact of the slice depends on facts of the slice alone
  cause : (n m : ℕ) (fact : FactInfo) → Contains slice.facts n → IsFact system n fact → occurs m fact.formula ≡ true → Contains slice.facts m
  cause n m fact here there o = (is.facts m).1 (λ facts causes from. causes n m fact ((is.facts n).0 here facts causes from) there o)

  -- where the target holds, it holds with the events of the slice alone
  pub holds_in_slice : (es es' : NumberSet) → ((n : ℕ) → Contains slice.events n → Has es n → Has es' n) → Holds system es target → Holds system es' target
  holds_in_slice es es' more holds xs closed =
      or_no (xs target) (has slice.facts target) (contains_has slice.facts target ((is.facts target).1 (λ facts causes from. from)))
      (holds (λ n. xs n || not (has slice.facts n)) (λ n a. by n a (has slice.facts n) refl))
    where
      by : (n : ℕ) → Has (member (applied system es (λ m. xs m || not (has slice.facts m)))) n → (b : Bool) → has slice.facts n ≡ b → xs n || not (has slice.facts n) ≡ true
      by n a false outside = or_second (xs n) (has slice.facts n) outside
      by n a true inside =
          let at = fact_of system es (λ m. xs m || not (has slice.facts m)) n a in
          or_first (xs n) (not (has slice.facts n))
          (closed n
          (member-map (λ f. truth es' xs f.formula) system.facts n at.fact at.is
          ∙ truth-grows-on es es' (λ m. xs m || not (has slice.facts m)) xs at.fact.formula
          (λ m o e. more m ((is.events m).1 (n, at.fact, (is.facts n).0 (has_contains slice.facts n inside), at.is, o)) e)
          (λ m o e. or_no (xs m) (has slice.facts m) (contains_has slice.facts m (cause n m at.fact (has_contains slice.facts n inside) at.is o)) e)
          (sym (at.value es) ∙ a)))

  -- each event of a minimal cut set is one of the slice
  pub minimal_in_slice : (set : List ℕ) → IsMinimalCutSet system target set → is_within set slice.events ≡ true
  unfolding leave
  minimal_in_slice set minimal = within_from set slice.events (λ x here. by x here (has slice.events x) refl)
    where
      by : (x : ℕ) → has set x ≡ true → (b : Bool) → has slice.events x ≡ b → has slice.events x ≡ true
      by x here true is_in = is_in
      by x here false outside =
          let rest : IsCutSet system target (leave x set) = (
            RisesWithin-filter (λ n. not (n == x)) 0 (length system.events) set minimal.0.0,
            holds_in_slice (set_of set) (set_of (leave x set))
                (λ n in_slice in_set. sym (has-set_of (leave x set) n)
                ∙ leave-has x set n (λ same. false≢true (sym outside ∙ ap (has slice.events) (sym same) ∙ contains_has slice.events n in_slice)) (has-set_of set n ∙ in_set)) minimal.0.1,
          ) in
          let same : leave x set ≡ set = minimal.1 (leave x set) rest (λ n in_rest. sym (has-set_of set n) ∙ within_has (leave x set) set n (leave-within x set) (has-set_of (leave x set) n ∙ in_rest)) in
          absurd (leave-none x set (subst (λ s. has s x ≡ true) (sym same) here))
