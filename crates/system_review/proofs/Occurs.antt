-- What a pass over the formulas marks.
use Rattle.std.proofs.Common.{ℕ, zero, suc, [], ◌∷◌, refl, ◌≡◌, ◌<◌, ◌||◌, ◌⊎◌, ◌↔◌, true, false, List, Bool, length, replicate, Some, ⊎_elim, ◌∙◌, sym, ap, arith}
use Rattle.std.proofs.lemmas.Bool.{false≢true, or_cases, or_left, or_right}
use Rattle.std.specs.List.{list_any, slice_get}
use Rattle.fault_system.specs.Truth.{NumberSet, Has, member, occurs}
use Rattle.fault_system.specs.Systems.{System, IsFact}
use Rattle.fault_system.specs.declared.formula.FactInfo.{FactInfo}
use Rattle.fault_system.proofs.TruthLaws.{same_answer}
use Rattle.std.proofs.lemmas.Option.{slice_get_within}
use Rattle.plain_values.specs.Numbered.{numbers_below}
use Rattle.backward_slice.specs.inner.Reach.{IsReach}
use Rattle.backward_slice.specs.declared.parts.Reach.{Reach}
use Rattle.dependency_blocks.proofs.AllFacts.{below-contained}
use Rattle.dependency_blocks.proofs.Passes.{depends_self}
use Rattle.system_review.specs.Occurring.{IsUsedEvent, used_in}
use Rattle.system_review.specs.inner.Occurring.{IsUsedFact}
use Rattle.fault_system.proofs.NumberSets.{member-in, member-replicate}

-- marks after those of one formula were added
module _ (old new : List Bool) (added : NumberSet) (size : length new ≡ length old)
    (marks : (m : ℕ) → m < length old → member new m ≡ member old m || added m) where
  pub added-kept : (m : ℕ) → Has (member old) m → Has (member new) m
  added-kept m h = marks m (member-in old m h) ∙ or_left (member old m) (added m) h

  pub added-from : (m : ℕ) → Has (member new) m → Has (member old) m ⊎ Has added m
  added-from m h = or_cases _ _ (sym (marks m (omega (arith, member-in new m h, size))) ∙ h)

  pub added-done : (m : ℕ) → m < length old → Has added m → Has (member new) m
  added-done m low h = marks m low ∙ or_right (member old m) (added m) h

-- a number has one fact
pub one_fact : (system : System) (n : ℕ) (a b : FactInfo) → IsFact system n a → IsFact system n b → a ≡ b
one_fact system n a b at there = inner a b (sym at ∙ there) where
  inner : (x y : FactInfo) → Some x ≡ Some y → x ≡ y
  inner x y e = cc (e)

-- marks that were just made have no number
pub fresh-none : (marks : List Bool) (size : ℕ) → marks ≡ replicate size false → (n : ℕ) → member marks n ≡ false
fresh-none marks size made n = ap (λ bs. member bs n) made ∙ member-replicate size n

pub fresh-not : (marks : List Bool) (size : ℕ) → marks ≡ replicate size false → (n : ℕ) → Has (member marks) n → ⊥
fresh-not marks size made n h = false≢true (sym (fresh-none marks size made n) ∙ h)

used-at : (number n : ℕ) (facts : List FactInfo) (fact : FactInfo) → slice_get facts n ≡ Some fact → occurs number fact.formula ≡ true → list_any (λ other. occurs number other.formula) facts ≡ true
used-at number n [] fact at o = absurd (cc)
used-at number zero (other ∷ facts) fact at o = let same : other ≡ fact = cc in or_left _ _ (ap (λ (f : FactInfo). occurs number f.formula) same ∙ o)
used-at number (suc n) (other ∷ facts) fact at o = or_right (occurs number other.formula) _ (used-at number n facts fact at o)

used-from : (number : ℕ) (facts : List FactInfo) → list_any (λ other. occurs number other.formula) facts ≡ true → (n : ℕ) × (fact : FactInfo) × (slice_get facts n ≡ Some fact) × (occurs number fact.formula ≡ true)
used-from number [] e = absurd (false≢true e)
used-from number (fact ∷ facts) e = ⊎_elim
    (λ here. (zero, fact, refl, here))
    (λ there. let found = used-from number facts there in (suc found.0, found.1, found.2, found.3))
    (or_cases (occurs number fact.formula) _ e)

-- a set of what occurs is that of the test
pub used-computed : (system : System) (marks : List Bool) → ((n : ℕ) → Has (member marks) n ↔ IsUsedFact system n) → (n : ℕ) → member marks n ≡ used_in system n
used-computed system marks exact number = same_answer (member marks number) (used_in system number)
    (λ has. let used = (exact number).0 has in used-at number used.0 system.facts used.1 used.2 used.3)
    (λ has. (exact number).1 (used-from number system.facts has))

-- the events that some fact reaches are those that occur in formulas
pub reached-used : (system : System) (reach : Reach) → IsReach system (numbers_below (length system.facts)) reach → (e : ℕ) → Has (member reach.events) e ↔ IsUsedEvent system e
reached-used system reach is e = (
  (λ h. let (n, fact, reached, at, o) = (is.events e).0 h in (n, fact, at, o)),
  (λ (n, fact, at, o). (is.events e).1 (n, fact, (n, (below-contained (length system.facts) n).1 (slice_get_within system.facts n fact at), depends_self system n), at, o)),
)
