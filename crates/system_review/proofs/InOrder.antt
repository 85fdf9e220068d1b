-- What follows from a fact, found in an order that passes.
use Rattle.std.proofs.Common.{ℕ, zero, suc, ◌+◌, ◌-◌, ◌≡◌, ◌≤◌, true, ◌&&◌, ◌||◌, eqb, nat_eq, List, [], ◌∷◌, length, Some, ⊎_elim, ◌∙◌, sym, refl, subst, arith}
use Rattle.std.specs.List.{slice_get}
use Rattle.std.proofs.lemmas.Bool.{and_from, and_parts, eq-eqb, eqb-true, or_cases, or_left, or_right}
use Rattle.fault_system.specs.Truth.{NumberSet, Has, member, set_of}
use Rattle.fault_system.specs.Systems.{System, applied}
use Rattle.fault_system.specs.Rounds.{no_event, only}
use Rattle.fault_system.proofs.NumberSets.{same_set}
use Rattle.fault_system.proofs.Occurring.{truth-grows}
use Rattle.fault_system.proofs.TruthLaws.{same_answer}
use Rattle.system_review.specs.Alone.{following}
use Rattle.system_review.specs.inner.Steps.{IsClosedAmong, IsWithin}
use Rattle.system_review.proofs.More.{applied-fact, applied-is}

-- what the formulas say of a fact is said over more facts too
pub applied-grows : (system : System) (some more : NumberSet) → ((n : ℕ) → Has some n → Has more n) → (n : ℕ) → Has (member (applied system no_event some)) n → Has (member (applied system no_event more)) n
applied-grows system some more grows n has =
    let there = applied-fact system no_event some n has in
    applied-is system no_event more n there.0 there.1
    ∙ truth-grows no_event no_event some more (λ e h. h) grows there.0.formula (sym (applied-is system no_event some n there.0 there.1) ∙ has)

-- what stands at a place of a list is in it
pub at-in : (ns : List ℕ) (place n : ℕ) → slice_get ns place ≡ Some n → Has (set_of ns) n
at-in [] place n at = absurd (cc)
at-in (m ∷ ns) zero n at = let same : m ≡ n = cc in or_left _ _ (eq-eqb m n same)
at-in (m ∷ ns) (suc place) n at = or_right (eqb m n) _ (at-in ns place n at)

module _ (system : System) (among : List ℕ) (cause : ℕ) where
  -- what follows in some rounds does so in more
  following-more : (k r n : ℕ) → Has (following system among cause r) n → Has (following system among cause (k + r)) n
  following-more zero r n h = let none : r ≡ zero + r = omega arith in subst (λ (k : ℕ). Has (following system among cause k) n) none h
  following-more (suc k) r n h = let next : suc (k + r) ≡ suc k + r = omega arith in subst (λ (k : ℕ). Has (following system among cause k) n) next (or_left _ _ (following-more k r n h))

  following-least : (r s n : ℕ) → r ≤ s → Has (following system among cause r) n → Has (following system among cause s) n
  following-least r s n few h =
      let all : s - r + r ≡ s = omega (arith, few) in
      subst (λ (k : ℕ). Has (following system among cause k) n) all (following-more (s - r) r n h)

  -- the fact alone
  pub within-first : (facts : NumberSet) → ((n : ℕ) → facts n ≡ nat_eq cause n) → IsWithin system among cause 0 facts
  within-first facts is = record {
    cause_in = is cause ∙ eq-eqb cause cause refl;
    inside = λ n h. eq-eqb n cause (sym (eqb-true cause n (sym (is n) ∙ h)));
  }

  -- there is nothing more
  pub within-same : (rounds : ℕ) (facts : NumberSet) → IsWithin system among cause rounds facts → IsWithin system among cause (rounds + 1) facts
  within-same rounds facts is = record {
    cause_in = is.cause_in;
    inside = λ n h. following-least rounds (rounds + 1) n (omega arith) (is.inside n h);
  }

  -- a fact more
  pub within-next : (rounds number : ℕ) (old new : NumberSet) → Has (set_of among) number → ((n : ℕ) → new n ≡ old n || (nat_eq number n && member (applied system no_event old) number))
      → IsWithin system among cause rounds old → IsWithin system among cause (rounds + 1) new
  within-next rounds number old new there adds is = record {
    cause_in = adds cause ∙ or_left _ _ is.cause_in;
    inside = λ n h. subst (λ (k : ℕ). Has (following system among cause k) n) next (⊎_elim
        (λ was. or_left _ _ (is.inside n was))
        (λ both. let parts = and_parts (nat_eq number n) (member (applied system no_event old) number) both in
        subst (Has (following system among cause (suc rounds))) (eqb-true number n parts.0)
        (or_right (following system among cause rounds number) _ (and_from _ _ there (applied-grows system old (following system among cause rounds) is.inside number parts.1))))
        (or_cases (old n) _ (sym (adds n) ∙ h)));
  } where
    next : suc rounds ≡ rounds + 1
    next = omega arith

  -- what is closed has all that follows
  closed-has : (facts : NumberSet) → Has facts cause → IsClosedAmong system among facts → (r n : ℕ) → Has (following system among cause r) n → Has facts n
  closed-has facts first closed zero n h = subst (Has facts) (sym (eqb-true n cause h)) first
  closed-has facts first closed (suc r) n h = ⊎_elim
      (closed-has facts first closed r n)
      (λ both. let parts = and_parts (set_of among n) (member (applied system no_event (following system among cause r)) n) both in
      closed n parts.0 (applied-grows system (following system among cause r) facts (closed-has facts first closed r) n parts.1))
      (or_cases _ _ h)

  -- what was found in no more rounds than there are facts, and is closed, is all that follows
  pub followed-all : (rounds : ℕ) (facts : NumberSet) → IsWithin system among cause rounds facts → rounds ≤ length among → IsClosedAmong system among facts → facts ≡ following system among cause (length among)
  followed-all rounds facts is few closed = same_set (λ n. same_answer _ _
      (λ h. following-least rounds (length among) n few (is.inside n h))
      (λ h. closed-has facts is.cause_in closed (length among) n h))

  -- where the fact alone makes another one hold, all that follows does
  pub made-at_once : (target : ℕ) → member (applied system no_event (only cause)) target ≡ true → true ≡ member (applied system no_event (following system among cause (length among))) target
  made-at_once target e = sym (applied-grows system (only cause) (following system among cause (length among))
      (λ n h. following-least 0 (length among) n (omega arith) h) target e)
