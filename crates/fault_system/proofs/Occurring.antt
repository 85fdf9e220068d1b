-- The truth of a formula depends on what occurs in it alone, and grows with the events and the facts.
use Rattle.std.proofs.Common.{ℕ, ◌≡◌, Bool, true, List, [], ◌∷◌, map, ◌∙◌, sym, refl, subst}
use Rattle.std.proofs.lemmas.Bool.{eq-eqb, or_left, or_right}
use Rattle.std.specs.List.{list_any}
use Rattle.fault_system.specs.Truth.{NumberSet, Has, truth, truth_step, occurs, occurs_step, occurs_event, occurs_event_step}
use Rattle.fault_system.specs.declared.formula.Formula.{Formula, map-Formula, roll-Formula, fold-roll-Formula, ind-Formula}
use Rattle.fault_system.specs.declared.formula.Formula.TheOpen.{Formula-F, True, Event, Fact, And, Or, AtLeast}
use Rattle.fault_system.proofs.Marks.{Below, Below-all, Below-any, Below-at_least}
use Rattle.fault_system.proofs.TruthLaws.{same_answer}

module _ (es es' xs xs' : NumberSet) where
  abbrev Grows : Formula → Type 0
  Grows f = ((n : ℕ) → occurs_event n f ≡ true → Has es n → Has es' n) → ((n : ℕ) → occurs n f ≡ true → Has xs n → Has xs' n) → truth es xs f ≡ true → truth es' xs' f ≡ true

  abbrev Part : Type 0
  Part = (f : Formula) × Grows f

  abbrev Layer : Formula-F Formula → Type 0
  Layer x = ((n : ℕ) → occurs_event_step n (map-Formula Formula Bool (occurs_event n) x) ≡ true → Has es n → Has es' n) → ((n : ℕ) → occurs_step n (map-Formula Formula Bool (occurs n) x) ≡ true → Has xs n → Has xs' n)
      → truth_step es xs (map-Formula Formula Bool (truth es xs) x) ≡ true → truth_step es' xs' (map-Formula Formula Bool (truth es' xs') x) ≡ true

  parts_below : (ps : List Part) → ((n : ℕ) → list_any (λ b. b) (map (occurs_event n) (map (λ p. p.0) ps)) ≡ true → Has es n → Has es' n) → ((n : ℕ) → list_any (λ b. b) (map (occurs n) (map (λ p. p.0) ps)) ≡ true → Has xs n → Has xs' n)
      → Below (map (truth es xs) (map (λ p. p.0) ps)) (map (truth es' xs') (map (λ p. p.0) ps))
  parts_below [] e x = tt
  parts_below (p ∷ ps) e x = (p.1 (λ n o. e n (or_left _ _ o)) (λ n o. x n (or_left _ _ o)), parts_below ps (λ n o. e n (or_right _ _ o)) (λ n o. x n (or_right _ _ o)))

  layer : (y : Formula-F Part) → Layer (map-Formula Part Formula (λ p. p.0) y)
  layer True e x h = h
  layer (Event n) e x h = e n (eq-eqb n n refl) h
  layer (Fact n) e x h = x n (eq-eqb n n refl) h
  layer (And ps) e x h = Below-all _ _ (parts_below ps e x) h
  layer (Or ps) e x h = Below-any _ _ (parts_below ps e x) h
  layer (AtLeast k ps) e x h = Below-at_least k _ _ (parts_below ps e x) h

  rolled : (y : Formula-F Formula) → Layer y → Grows (roll-Formula y)
  rolled y grows e x h =
      fold-roll-Formula Bool (truth_step es' xs') y
      ∙ grows (λ n o. e n (fold-roll-Formula Bool (occurs_event_step n) y ∙ o)) (λ n o. x n (fold-roll-Formula Bool (occurs_step n) y ∙ o)) (sym (fold-roll-Formula Bool (truth_step es xs) y) ∙ h)

  -- what is true stays true where what occurs in the formula stays
  pub truth-grows-on : (f : Formula) → ((n : ℕ) → occurs_event n f ≡ true → Has es n → Has es' n) → ((n : ℕ) → occurs n f ≡ true → Has xs n → Has xs' n) → truth es xs f ≡ true → truth es' xs' f ≡ true
  truth-grows-on = ind-Formula Grows (λ x y is. rolled x (subst Layer is (layer y)))

  pub truth-grows : ((n : ℕ) → Has es n → Has es' n) → ((n : ℕ) → Has xs n → Has xs' n) → (f : Formula) → truth es xs f ≡ true → truth es' xs' f ≡ true
  truth-grows more_events more_facts f = truth-grows-on f (λ n _. more_events n) (λ n _. more_facts n)

-- it is the same where what occurs in the formula is the same
pub truth-same : (es es' xs xs' : NumberSet) (f : Formula) → ((n : ℕ) → occurs_event n f ≡ true → es n ≡ es' n) → ((n : ℕ) → occurs n f ≡ true → xs n ≡ xs' n) → truth es xs f ≡ truth es' xs' f
truth-same es es' xs xs' f e x = same_answer _ _
    (truth-grows-on es es' xs xs' f (λ n o h. sym (e n o) ∙ h) (λ n o h. sym (x n o) ∙ h))
    (truth-grows-on es' es xs' xs f (λ n o h. e n o ∙ h) (λ n o h. x n o ∙ h))
