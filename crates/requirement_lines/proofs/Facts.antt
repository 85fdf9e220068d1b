-- Facts that hold under no event, and under some.
use Rattle.std.proofs.Common.{Bool, true, ◌||◌, eqb, eq-eqb, ℕ, zero, suc, ◌+◌, ◌≡◌, ◌<◌, ◌≤◌, ◌⊎◌, inl, inr, List, [], ◌∷◌, length, set, refl, sym, ap, subst, ◌∙◌, arith}
use Rattle.std.specs.Prelude.{◌↔◌, IsTrue}
use Rattle.std.proofs.lemmas.Bool.{cases_lt, or_right}
use Rattle.std.proofs.lemmas.List.{length-set}
use Rattle.plain_values.specs.Numbered.{numbers_below}
use Rattle.plain_values.specs.Rising.{RisesWithin}
use Rattle.plain_values.proofs.Rising.{rises-push}
use Rattle.fault_system.specs.Truth.{NumberSet, Has, member, set_of}
use Rattle.fault_system.specs.Systems.{System, Holds}
use Rattle.fault_system.proofs.CutSetLaws.{Holds-grows}
use Rattle.fault_system.proofs.NumberSets.{RisesWithin-at, contained-in_set, member-set}
use Rattle.dependency_blocks.proofs.AllFacts.{below-contained}
use Rattle.requirement_names.specs.declared.named.SetSentence.{SetSentence}
use Rattle.requirement_names.specs.declared.named.SetSentence.TheVariants.{Order, Mixed, Without, Possible, Never}
use Rattle.requirement_names.specs.inner.Named.{FitsSets}
use Rattle.requirement_verdicts.specs.Meanings.{MayHold}
use Rattle.requirement_verdicts.specs.inner.Verdicts.{HasEventSets}

rises-below : (count : ℕ) → RisesWithin 0 count (numbers_below count)
rises-below zero = tt
rises-below (suc count) =
    let same : count + 1 ≡ suc count = omega arith in
    subst (λ high. RisesWithin 0 high (numbers_below (suc count))) same (rises-push 0 count (numbers_below count) (omega arith) (rises-below count))

module _ (system : System) (fact : ℕ) (all : NumberSet) where
  -- a fact that holds under all events holds under the set of them
  pub some-from_all : ((n : ℕ) → Has all n → n < length system.events) → Holds system all fact → MayHold system fact
  some-from_all few holds =
      let every : List ℕ = numbers_below (length system.events) in
      (every, (rises-below (length system.events), Holds-grows system fact all (set_of every) (λ n has. contained-in_set every n ((below-contained (length system.events) n).1 (few n has))) fact holds))

  -- a fact that holds under some events holds under all
  pub all-from_some : ((n : ℕ) → n < length system.events → Has all n) → MayHold system fact → Holds system all fact
  all-from_some full (set, (rises, holds)) =
      Holds-grows system fact (set_of set) all (λ n has. full n (RisesWithin-at 0 (length system.events) set n rises has).1) fact holds

-- of the numbers below a count that are marked one after the other, one more
pub marked-more : (marks after : List Bool) (n count : ℕ) → after ≡ set marks n true → n < count → (length marks ≡ count) × ((m : ℕ) → m < n → Has (member marks) m)
    → (length after ≡ count) × ((m : ℕ) → m < n + 1 → Has (member after) m)
marked-more marks after n count is less (long, so_far) = (ap length is ∙ length-set marks n true ∙ long, λ m below. subst (λ (bs : List Bool). Has (member bs) m) (sym is) (member-set marks n m within ∙ by m below (cases_lt m n))) where
  within : n < length marks
  within = subst (λ k. n < k) (sym long) less

  by : (m : ℕ) → m < n + 1 → (m < n) ⊎ (n ≤ m) → (member marks m || eqb n m) ≡ true
  by m below (inl before) = ap (λ b. b || eqb n m) (so_far m before)
  by m below (inr last) = or_right (member marks m) (eqb n m) (eq-eqb n m (omega (arith, last, below)))

-- what is read of a list of marks
pub tells-fact : {P : Type 0} {a b : Bool} → a ≡ b → IsTrue b ↔ P → IsTrue a ↔ P
tells-fact same is = ((λ yes_it_is. is.0 (sym same ∙ yes_it_is)), (λ p. same ∙ is.1 p))

-- the exceptions of a sentence that fits are sets of events
pub event-sets : (system : System) (sentence : SetSentence) → FitsSets system sentence → HasEventSets system sentence
event-sets system (Order least except) fits = fits
event-sets system (Mixed group most) fits = tt
event-sets system (Without event) fits = tt
event-sets system Possible fits = tt
event-sets system Never fits = tt
