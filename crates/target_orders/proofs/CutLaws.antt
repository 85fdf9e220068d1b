-- Facts hold under the sets that are known of them.
use Rattle.std.proofs.Common.{ℕ, zero, suc, ◌≡◌, ◌<◌, ◌⊎◌, Bool, List, [], length, get_or, replicate, set, eqb, eqb-true, eq-eqb, ⊎_elim, sym, ap, ◌∙◌, refl, subst}
use Rattle.std.proofs.lemmas.Bool.{false≢true, and_parts, cases_Bool, cases_lt, ltb-true, or_cases}
use Rattle.std.proofs.lemmas.List.{get_or-set_same, get_or-set_other, set_past}
use Rattle.fault_system.specs.Truth.{NumberSet, Has, member, set_of}
use Rattle.fault_system.specs.Systems.{System, Holds}
use Rattle.fault_system.specs.CutSets.{IsCutSet}
use Rattle.fault_system.proofs.CutSetLaws.{Holds-grows}
use Rattle.fault_system.proofs.NumberSets.{list_all-at}
use Rattle.target_orders.specs.inner.Alone.{AreAlways}
use Rattle.target_orders.specs.inner.Cuts.{AreCuts, cut_facts}

module _ (system : System) where
  -- the facts whose sets are within a set of events hold under it
  pub cut-holds : (always : List Bool) (sets : List (List ℕ)) (events : NumberSet) → AreAlways system always → AreCuts system sets → (fact : ℕ) → Has (cut_facts (member always) sets events) fact → Holds system events fact
  cut-holds always sets events all cuts fact h = ⊎_elim
      (λ a. Holds-grows system fact (set_of []) events (λ n e. absurd (false≢true e)) fact (all fact a).1)
      (λ b.
      let parts = and_parts _ _ b in
      Holds-grows system fact (set_of (get_or sets fact [])) events (λ n has. list_all-at events (get_or sets fact []) n parts.1 has) fact (cuts fact (ltb-true _ _ parts.0)).1)
      (or_cases (member always fact) _ h)

  -- one more set is known
  pub cuts-more : (sets : List (List ℕ)) (fact : ℕ) (more : List ℕ) → AreCuts system sets → IsCutSet system fact more → AreCuts system (set sets fact more)
  cuts-more sets fact more cuts cut n some = ⊎_elim
      (λ same. ⊎_elim
      (λ inside.
      let here : get_or (set sets fact more) n [] ≡ more = ap (λ k. get_or (set sets fact more) k []) (eqb-true n fact same) ∙ get_or-set_same sets fact more [] inside in
      subst (IsCutSet system n) (sym here) (subst (λ k. IsCutSet system k more) (sym (eqb-true n fact same)) cut))
      (λ past. let as_before : set sets fact more ≡ sets = set_past sets fact more past in
      subst (λ xs. 0 < length (get_or xs n []) → IsCutSet system n (get_or xs n [])) (sym as_before) (cuts n) some)
      (cases_lt fact (length sets)))
      (λ other. let as_before : get_or (set sets fact more) n [] ≡ get_or sets n [] = get_or-set_other sets fact n more [] (λ e. false≢true (sym other ∙ eq-eqb n fact e)) in
      subst (λ xs. 0 < length xs → IsCutSet system n xs) (sym as_before) (cuts n) some)
      (cases_Bool (eqb n fact))

  -- a fact that holds under events that are all in a set holds under that
  pub cut-of : (marks old : List Bool) (events : List ℕ) (fact : ℕ) → ((n : ℕ) → Has (member old) n → ⊥) → ((n : ℕ) → Has (member marks) n → Has (member old) n ⊎ Has (set_of events) n) → Holds system (member marks) fact → Holds system (set_of events) fact
  cut-of marks old events fact none put holds =
      Holds-grows system fact (member marks) (set_of events) (λ n has. ⊎_elim (λ before. absurd (none n before)) (λ here. here) (put n has)) fact holds

-- what was put and then taken is not there
pub none-left : (old marks new : List Bool) (events : List ℕ) → ((n : ℕ) → Has (member old) n → ⊥) → ((n : ℕ) → Has (member marks) n → Has (member old) n ⊎ Has (set_of events) n) → ((n : ℕ) → Has (member new) n → Has (member marks) n × (Has (set_of events) n → ⊥)) → (n : ℕ) → Has (member new) n → ⊥
none-left old marks new events none put taken n has =
    let left = taken n has in
    ⊎_elim (λ before. none n before) (λ here. left.1 here) (put n left.0)

abbrev NoSet : List ℕ → Type 0
NoSet set = set ≡ []

-- at first no set is known
pub none-known : (count fact : ℕ) → NoSet (get_or (replicate count []) fact [])
none-known zero fact = refl
none-known (suc count) zero = refl
none-known (suc count) (suc fact) = none-known count fact
