-- A table fits the formulas exactly if it is the table of the rounds.
use Rattle.std.proofs.Common.{ℕ, zero, suc, ◌≡◌, ◌<◌, ◌≤◌, ◌⊎◌, ◌↔◌, Bool, true, false, ◌&&◌, List, [], ◌∷◌, length, map, Option, Some, None, inl, inr, ⊎_elim, ap, ◌∙◌, sym, refl, arith, le-leb, leb-true}
use Rattle.std.specs.Prelude.{slice_get, nat_lt, nat_le}
use Rattle.std.proofs.lemmas.Bool.{false≢true, and_from, and_parts}
use Rattle.fault_system.specs.Truth.{NumberSet, Has, member, truth}
use Rattle.fault_system.specs.Systems.{System, Holds, round, holds_of}
use Rattle.fault_system.specs.Rounds.{IsRoundOf, AreRounds, time_of}
use Rattle.fault_system.specs.inner.Rounds.{FitsTime, IsTable, IsTableTo, ever, within}
use Rattle.fault_system.specs.declared.formula.Formula.{Formula}
use Rattle.fault_system.specs.declared.formula.FactInfo.{FactInfo}
use Rattle.fault_system.proofs.TruthLaws.{same_answer}
use Rattle.fault_system.proofs.Occurring.{truth-grows}
use Rattle.fault_system.proofs.HoldsLaws.{holds_of-exact, holds_of-fixed, round-least, round-more}
use Rattle.fault_system.proofs.NumberSets.{member-map, member-past, member-none, same_set}

-- a time, and when it is at most so much
pub timed : (t r : ℕ) → 0 < t → t ≤ r → nat_lt 0 t && nat_le t r ≡ true
timed t r some early = and_from (nat_lt 0 t) (nat_le t r) (le-leb 1 t (omega arith)) (le-leb t r early)

pub too_early : (t q : ℕ) → q < t → nat_lt 0 t && nat_le t q ≡ false
too_early t q h = same_answer (nat_lt 0 t && nat_le t q) false
    (λ e. let less : t ≤ q = leb-true t q (and_parts (nat_lt 0 t) (nat_le t q) e).1 in absurd (omega arith)) (λ e. absurd (false≢true e))

pub time_parts : (t r : ℕ) → nat_lt 0 t && nat_le t r ≡ true → (0 < t) × (t ≤ r)
time_parts t r e = let both = and_parts (nat_lt 0 t) (nat_le t r) e in (leb-true 1 t both.0, leb-true t r both.1)

within_more : (times : ℕ → ℕ) (q r : ℕ) → q ≤ r → (n : ℕ) → Has (within times q) n → Has (within times r) n
within_more times q r h n e = let parts = time_parts (times n) q e in timed (times n) r parts.0 (omega (arith, parts.1))

within_ever : (times : ℕ → ℕ) (r n : ℕ) → Has (within times r) n → Has (ever times) n
within_ever times r n e = (and_parts (nat_lt 0 (times n)) (nat_le (times n) r) e).0

both_true : (a b : Bool) → b ≡ true → a && b ≡ a
both_true true b e = e
both_true false b e = refl

-- all times are at most so much
pub within_all : (times : ℕ → ℕ) (most : ℕ) → ((n : ℕ) → times n ≤ most) → within times most ≡ ever times
within_all times most h = same_set (λ n. both_true (nat_lt 0 (times n)) (nat_le (times n) most) (le-leb (times n) most (h n)))

le_or_above : (q r : ℕ) → (suc q ≤ r) ⊎ (r ≤ q)
le_or_above zero zero = inr (omega arith)
le_or_above zero (suc r) = inl (omega arith)
le_or_above (suc q) zero = inr (omega arith)
le_or_above (suc q) (suc r) = ⊎_elim (λ h. inl (omega arith)) (λ h. inr (omega arith)) (le_or_above q r)

pub time-past : (facts : List FactInfo) (times : List ℕ) (n : ℕ) → length times ≡ length facts → slice_get facts n ≡ None → time_of times n ≡ 0
time-past [] [] n same e = refl
time-past [] (t ∷ times) n same e = absurd (omega (arith, same))
time-past (f ∷ facts) [] n same e = absurd (omega (arith, same))
time-past (f ∷ facts) (t ∷ times) zero same e = absurd (cc)
time-past (f ∷ facts) (t ∷ times) (suc n) same e = time-past facts times n (omega (arith, same)) e

pub within_none : (times : ℕ → ℕ) (n : ℕ) → within times 0 n ≡ false
within_none times n = none (times n) where
  none : (t : ℕ) → nat_lt 0 t && nat_le t 0 ≡ false
  none zero = refl
  none (suc t) = too_early (suc t) 0 (omega arith)

-- a time that fits is at most one more than so much exactly if the formula is true over the facts of times up to that
module _ (events : NumberSet) (times : ℕ → ℕ) (f : Formula) where
  grows : (q r : ℕ) → q ≤ r → truth events (within times q) f ≡ true → truth events (within times r) f ≡ true
  grows q r h = truth-grows events events (within times q) (within times r) (λ n k. k) (within_more times q r h) f

  pub on_time : (t r : ℕ) → FitsTime events times f t → truth events (within times r) f ≡ true → nat_lt 0 t && nat_le t (suc r) ≡ true
  on_time zero r fits e =
      absurd (false≢true (sym fits ∙ truth-grows events events (within times r) (ever times) (λ n h. h) (within_ever times r) f e))
  on_time (suc zero) r fits e = le-leb 1 (suc r) (omega arith)
  on_time (suc (suc q)) r fits e = ⊎_elim (λ h. timed (suc (suc q)) (suc r) (omega arith) (omega arith))
      (λ h. absurd (false≢true (sym fits.1 ∙ grows r q h e))) (le_or_above q r)

  pub in_time : (t r : ℕ) → FitsTime events times f t → nat_lt 0 t && nat_le t (suc r) ≡ true → truth events (within times r) f ≡ true
  in_time zero r fits e = absurd (false≢true e)
  in_time (suc zero) r fits e = grows 0 r (omega arith) fits
  in_time (suc (suc q)) r fits e = let less = time_parts (suc (suc q)) (suc r) e in grows (suc q) r (omega (arith, less.1)) fits.0

module _ (system : System) (events : NumberSet) (times : List ℕ) where
  -- after r rounds those facts hold that have a time, at most r
  module _ (table : IsTable system events times) where
    next : (r n : ℕ) (o : Option FactInfo) → slice_get system.facts n ≡ o → member (map (λ fact. truth events (within (time_of times) r) fact.formula) system.facts) n ≡ within (time_of times) (suc r) n
    next r n None e = member-past _ system.facts n e ∙ ap (λ t. nat_lt 0 t && nat_le t (suc r)) (sym (time-past system.facts times n table.count e))
    next r n (Some fact) e = member-map _ system.facts n fact e
        ∙ same_answer _ _ (on_time events (time_of times) fact.formula (time_of times n) r (table.each n fact e)) (in_time events (time_of times) fact.formula (time_of times n) r (table.each n fact e))

    table-round : (r n : ℕ) → member (round system events r) n ≡ within (time_of times) r n
    table-round zero n = member-none system.facts n ∙ sym (within_none (time_of times) n)
    table-round (suc r) n =
        ap (λ set. member (map (λ fact. truth events set fact.formula) system.facts) n) (same_set (table-round r)) ∙ next r n (slice_get system.facts n) refl

    is_round : (n t : ℕ) → time_of times n ≡ t → IsRoundOf system events n t
    is_round n zero e = λ holds.
        false≢true (sym (ap (λ k. nat_lt 0 k && nat_le k (length system.facts)) e) ∙ sym (table-round (length system.facts) n) ∙ (holds_of-exact system events n).1 holds)
    is_round n (suc t) e = record {
      there = table-round (suc t) n ∙ ap (λ k. nat_lt 0 k && nat_le k (suc t)) e ∙ timed (suc t) (suc t) (omega arith) (omega arith);
      first = λ q h. table-round q n ∙ ap (λ k. nat_lt 0 k && nat_le k q) e ∙ too_early (suc t) q h;
    }

    pub table-rounds : AreRounds system events times
    table-rounds = record { count = table.count; each = λ n. is_round n (time_of times n) refl }

  -- the rounds of all facts fit
  module _ (table : IsTableTo system events times (length system.facts)) where
    truth-next : (n : ℕ) (fact : FactInfo) → slice_get system.facts n ≡ Some fact → (r : ℕ) → suc r ≤ length system.facts → truth events (within (time_of times) r) fact.formula ≡ within (time_of times) (suc r) n
    truth-next n fact at r h =
        ap (λ set. truth events set fact.formula) (sym (same_set (λ m. table.same r m (omega arith))))
        ∙ sym (member-map (λ f. truth events (member (round system events r)) f.formula) system.facts n fact at) ∙ table.same (suc r) n h

    truth-ever : (n : ℕ) (fact : FactInfo) → slice_get system.facts n ≡ Some fact → truth events (ever (time_of times)) fact.formula ≡ ever (time_of times) n
    truth-ever n fact at =
        let all : member (holds_of system events) ≡ ever (time_of times) = same_set (λ m. table.same (length system.facts) m (omega arith)) ∙ within_all (time_of times) (length system.facts) table.few in
        ap (λ set. truth events set fact.formula) (sym all) ∙ sym (member-map (λ f. truth events (member (holds_of system events)) f.formula) system.facts n fact at)
        ∙ ap (λ marks. member marks n) (sym (holds_of-fixed system events)) ∙ ap (λ set. set n) all

    fits : (n : ℕ) (fact : FactInfo) → slice_get system.facts n ≡ Some fact → (t : ℕ) → time_of times n ≡ t → FitsTime events (time_of times) fact.formula t
    fits n fact at zero e = truth-ever n fact at ∙ ap (nat_lt 0) e
    fits n fact at (suc zero) e = truth-next n fact at 0 (omega (arith, e, table.few n)) ∙ ap (λ k. nat_lt 0 k && nat_le k 1) e
    fits n fact at (suc (suc r)) e = (
      truth-next n fact at (suc r) (omega (arith, e, table.few n)) ∙ ap (λ k. nat_lt 0 k && nat_le k (suc (suc r))) e ∙ timed (suc (suc r)) (suc (suc r)) (omega arith) (omega arith),
      truth-next n fact at r (omega (arith, e, table.few n)) ∙ ap (λ k. nat_lt 0 k && nat_le k (suc r)) e ∙ too_early (suc (suc r)) (suc r) (omega arith),
    )

    pub table-made : IsTable system events times
    table-made = record { count = table.count; each = λ n fact at. fits n fact at (time_of times n) refl }

  module _ (rounds : AreRounds system events times) where
    held : (r n : ℕ) → Has (member (round system events r)) n → Holds system events n
    held r n e xs closed = round-least system events xs closed r n e

    few : (n t : ℕ) → IsRoundOf system events n t → t ≤ length system.facts
    few n zero is = omega arith
    few n (suc t) is = ⊎_elim
        (λ late. absurd (false≢true (sym (is.first (length system.facts) late) ∙ (holds_of-exact system events n).1 (held (suc t) n is.there))))
        (λ h. h) (le_or_above (length system.facts) (suc t))

    same : (r n t : ℕ) → IsRoundOf system events n t → member (round system events r) n ≡ nat_lt 0 t && nat_le t r
    same r n zero is = same_answer _ _ (λ e. absurd (is (held r n e))) (λ e. absurd (false≢true e))
    same r n (suc t) is = same_answer _ _
        (λ e. ⊎_elim (λ late. absurd (false≢true (sym (is.first r late) ∙ e))) (λ h. timed (suc t) r (omega arith) h) (le_or_above r (suc t)))
        (λ e. round-more system events (suc t) r n (time_parts (suc t) r e).1 is.there)

    pub rounds-fit : IsTable system events times
    rounds-fit = table-made record {
      count = rounds.count;
      few = λ n. few n (time_of times n) (rounds.each n);
      same = λ r n _. same r n (time_of times n) (rounds.each n);
    }

-- a fact holds exactly if it has a round
pub ever-holds : (system : System) (events : NumberSet) (times : List ℕ) → AreRounds system events times → (n : ℕ) → Has (ever (time_of times)) n ↔ Holds system events n
ever-holds system events times rounds n = by (time_of times n) (rounds.each n) where
  by : (t : ℕ) → IsRoundOf system events n t → (nat_lt 0 t ≡ true) ↔ Holds system events n
  by zero is = ((λ e. absurd (false≢true e)), (λ h. absurd (is h)))
  by (suc t) is = ((λ _ xs closed. round-least system events xs closed (suc t) n is.there), (λ _. le-leb 1 (suc t) (omega arith)))
