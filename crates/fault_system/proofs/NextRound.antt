-- A table of the rounds so far, to which one round is added fact by fact.
use Rattle.std.proofs.Common.{ℕ, zero, suc, ◌+◌, ◌≡◌, ◌≢◌, ◌<◌, ◌≤◌, true, false, ◌&&◌, List, length, set, replicate, Option, Some, None, ⊎_elim, ap, ◌∙◌, sym, refl, arith, length-set}
use Rattle.std.specs.Prelude.{slice_get, nat_lt, nat_le}
use Rattle.std.proofs.lemmas.Bool.{cases_eq}
use Rattle.std.proofs.lemmas.List.{length-replicate, get_or-set_same, get_or-set_other}
use Rattle.std.proofs.lemmas.Option.{slice_get_within}
use Rattle.fault_system.specs.Truth.{NumberSet, member, truth}
use Rattle.fault_system.specs.Systems.{System, round}
use Rattle.fault_system.specs.Rounds.{time_of}
use Rattle.fault_system.specs.inner.Rounds.{IsTableTo, within}
use Rattle.fault_system.specs.declared.formula.FactInfo.{FactInfo}
use Rattle.fault_system.proofs.NumberSets.{member-map, member-past, member-none, same_set}
use Rattle.fault_system.proofs.HoldsLaws.{round-more}
use Rattle.fault_system.proofs.RoundLaws.{time-past, timed, too_early, within_none}

zero-at : (size n : ℕ) → time_of (replicate size 0) n ≡ 0
zero-at zero n = refl
zero-at (suc size) zero = refl
zero-at (suc size) (suc n) = zero-at size n

-- before the first round no fact has a time
pub table-none : (system : System) (events : NumberSet) (size : ℕ) → size ≡ length system.facts → IsTableTo system events (replicate size 0) 0
table-none system events size e = record {
  count = length-replicate size 0 ∙ e;
  few = λ n. omega (arith, zero-at size n);
  same = λ r n h. let none : r ≡ 0 = omega arith in
      ap (λ k. member (round system events k) n) none ∙ member-none system.facts n ∙ sym (ap (λ k. within (time_of (replicate size 0)) k n) none ∙ within_none (time_of (replicate size 0)) n);
}

module _ (system : System) (events : NumberSet) (old : List ℕ) (most : ℕ) where
  -- the times after the facts below a number: those of one round more have it as their time
  pub record NextTo (now : List ℕ) (number : ℕ) : Type 0 where
    pub size : length now ≡ length old
    pub few : (n : ℕ) → time_of now n ≤ most + 1
    pub same : (r n : ℕ) → r ≤ most → within (time_of now) r n ≡ within (time_of old) r n
    pub kept : (n : ℕ) → number ≤ n → time_of now n ≡ time_of old n
    pub done : (n : ℕ) (fact : FactInfo) → n < number → slice_get system.facts n ≡ Some fact → within (time_of now) (most + 1) n ≡ truth events (within (time_of old) most) fact.formula

  module _ (table : IsTableTo system events old most) where
    pub next-none : NextTo old 0
    next-none = record {
      size = refl;
      few = λ n. omega (arith, table.few n);
      same = λ r n h. refl;
      kept = λ n h. refl;
      done = λ n fact h at. absurd (omega arith);
    }

    true-next : (n : ℕ) (fact : FactInfo) → slice_get system.facts n ≡ Some fact → member (round system events (suc most)) n ≡ truth events (within (time_of old) most) fact.formula
    true-next n fact at =
        member-map (λ f. truth events (member (round system events most)) f.formula) system.facts n fact at
        ∙ ap (λ facts. truth events facts fact.formula) (same_set (λ m. table.same most m (omega arith)))

    module _ (now : List ℕ) (number : ℕ) (fact : FactInfo) (at : slice_get system.facts number ≡ Some fact) (so_far : NextTo now number) where
      -- what the formula says over the times now it says over the old ones
      pub over_old : truth events (within (time_of now) most) fact.formula ≡ truth events (within (time_of old) most) fact.formula
      over_old = ap (λ facts. truth events facts fact.formula) (same_set (λ m. so_far.same most m (omega arith)))

      one_more : (new : List ℕ) → ((n : ℕ) → n ≢ number → time_of new n ≡ time_of now n) → within (time_of new) (most + 1) number ≡ truth events (within (time_of old) most) fact.formula
          → (n : ℕ) (other : FactInfo) → n < number + 1 → slice_get system.facts n ≡ Some other → within (time_of new) (most + 1) n ≡ truth events (within (time_of old) most) other.formula
      one_more new others here n other h there = ⊎_elim
          (λ same. let is : fact ≡ other = some_inner (sym at ∙ ap (slice_get system.facts) (sym same) ∙ there) in
          ap (within (time_of new) (most + 1)) same ∙ here ∙ ap (λ (f : FactInfo). truth events (within (time_of old) most) f.formula) is)
          (λ differ. ap (λ t. nat_lt 0 t && nat_le t (most + 1)) (others n differ) ∙ so_far.done n other (omega (arith, differ)) there)
          (cases_eq n number)
        where
          some_inner : {x y : FactInfo} → Some x ≡ Some y → x ≡ y
          some_inner e = cc

      stays : within (time_of now) (most + 1) number ≡ truth events (within (time_of old) most) fact.formula → NextTo now (number + 1)
      stays here = record {
        size = so_far.size;
        few = so_far.few;
        same = so_far.same;
        kept = λ n h. so_far.kept n (omega arith);
        done = one_more now (λ n _. refl) here;
      }

      -- a fact that has a time keeps it
      pub next-there : time_of now number ≢ 0 → NextTo now (number + 1)
      next-there some =
          let was : time_of now number ≡ time_of old number = so_far.kept number (omega arith) in
          let early : within (time_of old) most number ≡ true = timed (time_of old number) most (omega (arith, some, was)) (table.few number) in
          stays (timed (time_of now number) (most + 1) (omega (arith, some)) (so_far.few number)
          ∙ sym (sym (true-next number fact at) ∙ round-more system events most (suc most) number (omega arith) (table.same most number (omega arith) ∙ early)))

      -- a fact whose formula is not true gets none
      pub next-false : time_of now number ≡ 0 → truth events (within (time_of now) most) fact.formula ≡ false → NextTo now (number + 1)
      next-false none e = stays (ap (λ t. nat_lt 0 t && nat_le t (most + 1)) none ∙ sym (sym over_old ∙ e))

      -- a fact whose formula is true, and which has no time, gets one
      pub next-true : number < length now → time_of now number ≡ 0 → truth events (within (time_of now) most) fact.formula ≡ true → NextTo (set now number (most + 1)) (number + 1)
      next-true fits none e = record {
        size = length-set now number (most + 1) ∙ so_far.size;
        few = λ n. ⊎_elim (λ same. omega (arith, time-is n same)) (λ differ. omega (arith, others n differ, so_far.few n)) (cases_eq n number);
        same = λ r n h. ⊎_elim
            (λ same. ap (λ t. nat_lt 0 t && nat_le t r) (time-is n same) ∙ too_early (most + 1) r (omega arith)
            ∙ sym (ap (λ t. nat_lt 0 t && nat_le t r) (sym (so_far.kept n (omega (arith, same))) ∙ ap (time_of now) same ∙ none)))
            (λ differ. ap (λ t. nat_lt 0 t && nat_le t r) (others n differ) ∙ so_far.same r n h) (cases_eq n number);
        kept = λ n h. others n (λ same. omega (arith, same)) ∙ so_far.kept n (omega arith);
        done = one_more (set now number (most + 1)) others
            (ap (λ t. nat_lt 0 t && nat_le t (most + 1)) (time-is number refl) ∙ timed (most + 1) (most + 1) (omega arith) (omega arith) ∙ sym (sym over_old ∙ e));
      } where
        time-is : (n : ℕ) → n ≡ number → time_of (set now number (most + 1)) n ≡ most + 1
        time-is n same = ap (time_of (set now number (most + 1))) same ∙ get_or-set_same now number (most + 1) 0 fits

        others : (n : ℕ) → n ≢ number → time_of (set now number (most + 1)) n ≡ time_of now n
        others n differ = get_or-set_other now number n (most + 1) 0 differ

    -- after all facts the table has one round more
    pub next-all : (now : List ℕ) (number : ℕ) → length system.facts ≤ number → NextTo now number → IsTableTo system events now (most + 1)
    next-all now number all next = record {
      count = next.size ∙ table.count;
      few = next.few;
      same = λ r n h. ⊎_elim
          (λ last. ap (λ k. member (round system events k) n) (last ∙ plus_one) ∙ at n (slice_get system.facts n) refl ∙ ap (λ k. within (time_of now) k n) (sym last))
          (λ earlier. table.same r n (omega (arith, earlier)) ∙ sym (next.same r n (omega (arith, earlier))))
          (cases_eq r (most + 1));
    } where
      plus_one : most + 1 ≡ suc most
      plus_one = omega arith

      at : (n : ℕ) (found : Option FactInfo) → slice_get system.facts n ≡ found → member (round system events (suc most)) n ≡ within (time_of now) (most + 1) n
      at n None e = member-past (λ f. truth events (member (round system events most)) f.formula) system.facts n e
          ∙ sym (ap (λ t. nat_lt 0 t && nat_le t (most + 1)) (time-past system.facts now n (next.size ∙ table.count) e))
      at n (Some fact) e = true-next n fact e ∙ sym (next.done n fact (omega (arith, all, slice_get_within system.facts n fact e)) e)
