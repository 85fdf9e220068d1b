-- What is reached from a target by use is what it depends on by the ways to earlier rounds.
use Rattle.std.proofs.Common.{ℕ, zero, suc, ◌≡◌, ◌<◌, Bool, true, List, [], ◌∷◌, length, slice_get, Option, Some, None, All, Contains, ap, ◌∙◌, subst, refl, arith, nat_lt, leb-true}
use Rattle.std.proofs.lemmas.Bool.{false≢true, and_from, and_parts}
use Rattle.fault_system.specs.Truth.{Has, occurs}
use Rattle.fault_system.specs.Systems.{System}
use Rattle.fault_system.specs.Rounds.{time_of}
use Rattle.fault_system.specs.declared.formula.FactInfo.{FactInfo}
use Rattle.fault_system.specs.declared.formula.Formula.{Formula}
use Rattle.backward_slice.specs.inner.Reach.{IsReachBy}
use Rattle.backward_slice.specs.declared.parts.Reach.{Reach}
use Rattle.derivations.specs.Derived.{of_formula, uses_fact}
use Rattle.derivations.specs.inner.Reaching.{AreReached, earlier}

-- a number that has a time is one of the table
pub timed-within : (rounds : List ℕ) (n : ℕ) → 0 < time_of rounds n → n < length rounds
timed-within [] n some = absurd (omega arith)
timed-within (r ∷ rounds) zero some = omega arith
timed-within (r ∷ rounds) (suc n) some = omega (arith, timed-within rounds n some)

-- a fact that is used has an earlier round
pub used-before : (system : System) (rounds : List ℕ) (f g : ℕ) → uses_fact system rounds f g ≡ true → (0 < time_of rounds g) × (time_of rounds g < time_of rounds f)
used-before system rounds f g e =
    let before = (and_parts _ _ e).1 in
    let both = and_parts (nat_lt 0 (time_of rounds g)) (nat_lt (time_of rounds g) (time_of rounds f)) before in
    (leb-true 1 (time_of rounds g) both.0, leb-true (suc (time_of rounds g)) (time_of rounds f) both.1)

of-some : (test : Formula → Bool) (o : Option FactInfo) → of_formula test o ≡ true → (fact : FactInfo) × (o ≡ Some fact) × (test fact.formula ≡ true)
of-some test None e = absurd (false≢true e)
of-some test (Some fact) e = (fact, refl, e)

pub reached-is : (system : System) (rounds : List ℕ) (target : ℕ) (reach : Reach) → IsReachBy system (earlier rounds) (target ∷ []) reach → AreReached system rounds target reach.facts
reached-is system rounds target reach is =
    record {
      size = is.facts_size;
      into = λ n h set first closed.
          let (start, among, by) = (is.facts n).0 h in
          by set (λ f g fact has at o led. closed f g has (and_from _ _ (ap (of_formula (occurs g)) at ∙ o) led)) (subst (Has set) (only start among) first);
      all = λ n reached. (is.facts n).1 (
        target,
        (zero, omega arith, refl),
        (λ set causes has.
            reached set has (λ f g h u.
            let both = and_parts (of_formula (occurs g) (slice_get system.facts f)) (earlier rounds f g) u in
            let (fact, at, o) = of-some (occurs g) (slice_get system.facts f) both.0 in
            causes f g fact h at o both.1)),
      );
    } where
      only : (start : ℕ) → Contains (target ∷ []) start → target ≡ start
      only start (zero, fits, same) = same
      only start (suc k, fits, same) = absurd (omega arith)

-- one number that fits
pub one-fits : (n size : ℕ) → n < size → All (λ k. k < size) (n ∷ [])
one-fits n size h zero d l = h
one-fits n size h (suc k) d l = absurd (omega arith)
