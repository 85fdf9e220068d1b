-- The last stage of a set of facts has exactly those of its facts that hold.
use Rattle.std.proofs.Common.{ℕ, zero, suc, ◌+◌, ◌≡◌, ◌<◌, ◌≤◌, ◌⊎◌, Bool, true, false, cond, ◌&&◌, ◌==◌, List, [], ◌∷◌, map, inl, inr, ⊎_elim, ap, ◌∙◌, sym, subst, refl, arith}
use Rattle.std.proofs.lemmas.Bool.{false≢true, and_right, and_parts, and_from, ne_eqb, eq-eqb}
use Rattle.std.proofs.lemmas.List.Sums.{sum_by-cons}
use Rattle.fault_system.specs.Truth.{NumberSet, Has, member, count_true}
use Rattle.fault_system.specs.Systems.{System, applied, IsClosed, holds_of}
use Rattle.fault_system.specs.declared.formula.FactInfo.{FactInfo}
use Rattle.fault_system.proofs.TruthLaws.{same_answer}
use Rattle.fault_system.proofs.NumberSets.{member-none}
use Rattle.fault_system.proofs.Marks.{Below, Below-member, stay_or_grow}
use Rattle.fault_system.proofs.HoldsLaws.{applied-grows, holds_of-closed, holds_of-exact}
use Rattle.dependency_blocks.specs.Blocks.{BlockNumbers, number_of, size_of}
use Rattle.round_gates.specs.Stages.{in_block}
use Rattle.round_gates.specs.inner.Stages.{kept_marks, joined_marks, stage_truth}

pub member-kept : (inside : NumberSet) (marks : List Bool) (n : ℕ) → member (kept_marks inside marks) n ≡ inside n && member marks n
member-kept inside [] n = sym (and_right (inside n) false refl)
member-kept inside (mark ∷ marks) zero = refl
member-kept inside (mark ∷ marks) (suc n) = member-kept (λ m. inside (suc m)) marks n

and_below : (i b c : Bool) → (b ≡ true → c ≡ true) → i && b ≡ true → i && c ≡ true
and_below true b c h e = h e
and_below false b c h e = e

kept-below : (inside : NumberSet) (bs cs : List Bool) → Below bs cs → Below (kept_marks inside bs) (kept_marks inside cs)
kept-below inside [] [] h = tt
kept-below inside [] (c ∷ cs) h = absurd h
kept-below inside (b ∷ bs) [] h = absurd h
kept-below inside (b ∷ bs) (c ∷ cs) h = (and_below (inside 0) b c h.0, kept-below (λ n. inside (suc n)) bs cs h.1)

none-below : (inside : NumberSet) (f : FactInfo → Bool) (facts : List FactInfo) → Below (map (λ _. false) facts) (kept_marks inside (map f facts))
none-below inside f [] = tt
none-below inside f (fact ∷ facts) = ((λ e. absurd (false≢true e)), none-below (λ n. inside (suc n)) f facts)

module _ (system : System) (events inside : NumberSet) where
  abbrev holds : List Bool
  holds = holds_of system events

  abbrev stage : ℕ → List Bool
  stage r = stage_truth system events inside r

  abbrev joined : ℕ → NumberSet
  joined r = joined_marks inside (stage r) holds

  joined_grows : (bs cs : List Bool) → Below bs cs → (n : ℕ) → Has (joined_marks inside bs holds) n → Has (joined_marks inside cs holds) n
  joined_grows bs cs below n e = by (inside n) e
    where
      by : (i : Bool) → cond i (member bs n) (member holds n) ≡ true → cond i (member cs n) (member holds n) ≡ true
      by true h = Below-member bs cs below n h
      by false h = h

  stage_below : (r : ℕ) → Below (stage r) (stage (suc r))
  stage_below zero = none-below inside _ system.facts
  stage_below (suc r) = kept-below inside _ _ (applied-grows events events _ _ (λ n e. e) (joined_grows _ _ (stage_below r)) system)

  -- in each stage nothing changes any more, or there are as many facts as stages
  stays_or_has : (r : ℕ) → (stage r ≡ stage (suc r)) ⊎ (r < count_true (stage (suc r)))
  stays_or_has zero = ⊎_elim (λ e. inl e) (λ l. inr (omega arith)) (stay_or_grow _ _ (stage_below zero))
  stays_or_has (suc r) = ⊎_elim (λ e. inl (ap (λ marks. kept_marks inside (applied system events (joined_marks inside marks holds))) e))
      (λ before. ⊎_elim (λ e. inl e) (λ l. inr (omega arith)) (stay_or_grow _ _ (stage_below (suc r))))
      (stays_or_has r)

  joined_holds : (marks : List Bool) → ((n : ℕ) → Has (member marks) n → Has (member holds) n) → (n : ℕ) → Has (joined_marks inside marks holds) n → Has (member holds) n
  joined_holds marks right n e = by (inside n) e
    where
      by : (i : Bool) → cond i (member marks n) (member holds n) ≡ true → member holds n ≡ true
      by true h = right n h
      by false h = h

  -- what is true in a stage holds
  pub stage-holds : (r n : ℕ) → Has (member (stage r)) n → Has (member holds) n
  stage-holds zero n e = absurd (false≢true (sym (member-none system.facts n) ∙ e))
  stage-holds (suc r) n e =
      let true_now : Has (member (applied system events (joined r))) n = (and_parts (inside n) _ (sym (member-kept inside _ n) ∙ e)).1 in
      holds_of-closed system events n
      (Below-member _ _ (applied-grows events events _ _ (λ m h. h) (joined_holds (stage r) (stage-holds r)) system) n true_now)

  module _ (most : ℕ) (few : (marks : List Bool) → count_true (kept_marks inside marks) ≤ most) where
    stays : stage most ≡ stage (suc most)
    stays = ⊎_elim (λ e. e) (λ l. absurd (omega (arith, few (applied system events (joined most))))) (stays_or_has most)

    closed : IsClosed system events (joined most)
    closed n e = by (inside n) refl
      where
        by : (i : Bool) → inside n ≡ i → cond i (member (stage most) n) (member holds n) ≡ true
        by true is = ap (λ marks. member marks n) stays ∙ member-kept inside _ n ∙ and_from _ _ is e
        by false is = holds_of-closed system events n
            (Below-member _ _ (applied-grows events events _ _ (λ m h. h) (joined_holds (stage most) (stage-holds most)) system) n e)

    -- what holds of the set is true in the last stage
    pub stage-all : (n : ℕ) → inside n ≡ true → member (stage most) n ≡ member holds n
    stage-all n is = same_answer _ _ (stage-holds most n)
        (λ h. sym (ap (λ i. cond i (member (stage most) n) (member holds n)) is) ∙ (holds_of-exact system events n).0 h (joined most) closed)

-- the marks of a block are no more than its facts
mark_step : (i mark : Bool) (m n : ℕ) → m ≤ n → cond (i && mark) (m + 1) m ≤ cond i 1 0 + n
mark_step true true m n h = omega arith
mark_step true false m n h = omega arith
mark_step false mark m n h = omega arith

none_marked : (i : Bool) → i ≡ false → (marks : List Bool) → count_true (kept_marks (λ _. i) marks) ≤ 0
none_marked true e marks = absurd (false≢true (sym e))
none_marked false e [] = omega arith
none_marked false e (mark ∷ marks) = none_marked false e marks

count-kept : (block : ℕ) → block < 4294967295 → (numbers : BlockNumbers) (marks : List Bool) → count_true (kept_marks (in_block numbers block) marks) ≤ size_of numbers block
count-kept block small [] marks = none_marked (4294967295 == block) (ne_eqb _ _ (λ e. omega arith)) marks
count-kept block small (x ∷ numbers) [] = omega arith
count-kept block small (x ∷ numbers) (mark ∷ marks) =
    let step : cond ((x == block) && mark) (count_true (kept_marks (in_block numbers block) marks) + 1) (count_true (kept_marks (in_block numbers block) marks)) ≤ cond (x == block) 1 0 + size_of numbers block =
    mark_step (x == block) mark _ _ (count-kept block small numbers marks) in
    subst (λ (k : ℕ). count_true (kept_marks (in_block (x ∷ numbers) block) (mark ∷ marks)) ≤ k) (sym (sum_by-cons (λ (n : ℕ). cond (n == block) 1 0) x numbers)) step

pub last-stage : (system : System) (numbers : BlockNumbers) (events : NumberSet) (block fact : ℕ) → block < 4294967295 → number_of numbers fact ≡ block
    → member (stage_truth system events (in_block numbers block) (size_of numbers block)) fact ≡ member (holds_of system events) fact
last-stage system numbers events block fact small is =
    stage-all system events (in_block numbers block) (size_of numbers block) (count-kept block small numbers) fact (eq-eqb _ _ is)
