-- What occurs in a formula that is in range is in range.
use Rattle.std.proofs.Common.{ℕ, ◌≡◌, ◌<◌, Bool, true, List, [], ◌∷◌, length, map, ⊎_elim, ◌∙◌, sym, subst}
use Rattle.std.proofs.lemmas.Bool.{false≢true, ltb-true, eqb-true, and_parts, or_cases}
use Rattle.std.specs.List.{list_all, list_any}
use Rattle.fault_system.specs.Truth.{occurs, occurs_step, occurs_event, occurs_event_step, in_range, in_range_step}
use Rattle.fault_system.specs.Systems.{System, IsSystem, IsFact}
use Rattle.fault_system.specs.declared.formula.FactInfo.{FactInfo}
use Rattle.std.proofs.lemmas.List.Elements.{All-get_or}
use Rattle.std.proofs.lemmas.Option.{slice_get_within, get_or_from_slice_get}
use Rattle.fault_system.specs.declared.formula.Formula.{Formula, map-Formula, roll-Formula, fold-roll-Formula, ind-Formula}
use Rattle.fault_system.specs.declared.formula.Formula.TheOpen.{Formula-F, True, Event, Fact, And, Or, AtLeast}

module _ (facts events number : ℕ) where
  abbrev Below : Formula → Type 0
  Below f = in_range facts events f ≡ true → occurs number f ≡ true → number < facts

  abbrev Part : Type 0
  Part = (f : Formula) × Below f

  abbrev Layer : Formula-F Formula → Type 0
  Layer x = in_range_step facts events (map-Formula Formula Bool (in_range facts events) x) ≡ true → occurs_step number (map-Formula Formula Bool (occurs number) x) ≡ true → number < facts

  in_parts : (ps : List Part) → list_all (λ b. b) (map (in_range facts events) (map (λ p. p.0) ps)) ≡ true → list_any (λ b. b) (map (occurs number) (map (λ p. p.0) ps)) ≡ true → number < facts
  in_parts [] a o = absurd (false≢true o)
  in_parts (p ∷ ps) a o =
      let all = and_parts _ _ a in
      ⊎_elim (λ here. p.1 all.0 here) (λ there. in_parts ps all.1 there) (or_cases _ _ o)

  layer : (y : Formula-F Part) → Layer (map-Formula Part Formula (λ p. p.0) y)
  layer True a o = absurd (false≢true o)
  layer (Event n) a o = absurd (false≢true o)
  layer (Fact n) a o = subst (λ m. m < facts) (eqb-true _ _ o) (ltb-true _ _ a)
  layer (And ps) a o = in_parts ps a o
  layer (Or ps) a o = in_parts ps a o
  layer (AtLeast k ps) a o = in_parts ps a o

  rolled : (x : Formula-F Formula) → Layer x → Below (roll-Formula x)
  rolled x below a o = below (sym (fold-roll-Formula Bool (in_range_step facts events) x) ∙ a) (sym (fold-roll-Formula Bool (occurs_step number) x) ∙ o)

  -- a fact that occurs in a formula in range is one of so many
  pub occurs-in_range : (f : Formula) → in_range facts events f ≡ true → occurs number f ≡ true → number < facts
  occurs-in_range = ind-Formula Below (λ x y is. rolled x (subst Layer is (layer y)))

module _ (facts events number : ℕ) where
  abbrev EventBelow : Formula → Type 0
  EventBelow f = in_range facts events f ≡ true → occurs_event number f ≡ true → number < events

  abbrev EventPart : Type 0
  EventPart = (f : Formula) × EventBelow f

  abbrev EventLayer : Formula-F Formula → Type 0
  EventLayer x = in_range_step facts events (map-Formula Formula Bool (in_range facts events) x) ≡ true → occurs_event_step number (map-Formula Formula Bool (occurs_event number) x) ≡ true → number < events

  event_in_parts : (ps : List EventPart) → list_all (λ b. b) (map (in_range facts events) (map (λ p. p.0) ps)) ≡ true → list_any (λ b. b) (map (occurs_event number) (map (λ p. p.0) ps)) ≡ true → number < events
  event_in_parts [] a o = absurd (false≢true o)
  event_in_parts (p ∷ ps) a o =
      let all = and_parts _ _ a in
      ⊎_elim (λ here. p.1 all.0 here) (λ there. event_in_parts ps all.1 there) (or_cases _ _ o)

  event_layer : (y : Formula-F EventPart) → EventLayer (map-Formula EventPart Formula (λ p. p.0) y)
  event_layer True a o = absurd (false≢true o)
  event_layer (Event n) a o = subst (λ m. m < events) (eqb-true _ _ o) (ltb-true _ _ a)
  event_layer (Fact n) a o = absurd (false≢true o)
  event_layer (And ps) a o = event_in_parts ps a o
  event_layer (Or ps) a o = event_in_parts ps a o
  event_layer (AtLeast k ps) a o = event_in_parts ps a o

  event_rolled : (x : Formula-F Formula) → EventLayer x → EventBelow (roll-Formula x)
  event_rolled x below a o = below (sym (fold-roll-Formula Bool (in_range_step facts events) x) ∙ a) (sym (fold-roll-Formula Bool (occurs_event_step number) x) ∙ o)

  -- an event that occurs in a formula in range is one of so many
  pub occurs_event-in_range : (f : Formula) → in_range facts events f ≡ true → occurs_event number f ≡ true → number < events
  occurs_event-in_range = ind-Formula EventBelow (λ x y is. event_rolled x (subst EventLayer is (event_layer y)))

-- a fact's formula is in range
pub fact-in_range : (system : System) → IsSystem system → (n : ℕ) (fact : FactInfo) → IsFact system n fact → in_range (length system.facts) (length system.events) fact.formula ≡ true
fact-in_range system is n fact at =
    let here : n < length system.facts = slice_get_within system.facts n fact at in
    subst (λ (f : FactInfo). in_range (length system.facts) (length system.events) f.formula ≡ true) (get_or_from_slice_get system.facts n fact fact at)
    (All-get_or (λ (f : FactInfo). in_range (length system.facts) (length system.events) f.formula ≡ true) system.facts n fact here is.ranged)
