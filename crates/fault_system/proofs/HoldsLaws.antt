-- What holds is what as many rounds as there are facts give.
use Rattle.std.proofs.Common.{ℕ, zero, suc, ◌+◌, ◌-◌, ◌≡◌, ◌<◌, ◌≤◌, ◌⊎◌, ◌↔◌, Bool, false, List, [], ◌∷◌, map, length, inl, inr, ⊎_elim, ap, sym, subst, arith, ◌∙◌}
use Rattle.std.proofs.lemmas.Bool.{false≢true}
use lib.ListN.{length-map}
use Rattle.fault_system.specs.Truth.{NumberSet, Has, member, count_true, truth}
use Rattle.fault_system.specs.Systems.{System, applied, IsClosed, Holds, round, holds_of}
use Rattle.fault_system.specs.declared.formula.FactInfo.{FactInfo}
use Rattle.fault_system.proofs.Marks.{Below, Below-member, stay_or_grow}
use Rattle.fault_system.proofs.NumberSets.{member-none}
use Rattle.fault_system.proofs.Occurring.{truth-grows}
use Rattle.fault_system.proofs.TruthLaws.{count_true-le}

module _ (es es' xs xs' : NumberSet) (more_events : (n : ℕ) → Has es n → Has es' n) (more_facts : (n : ℕ) → Has xs n → Has xs' n) where
  facts_below : (facts : List FactInfo) → Below (map (λ fact. truth es xs fact.formula) facts) (map (λ fact. truth es' xs' fact.formula) facts)
  facts_below [] = tt
  facts_below (fact ∷ facts) = (truth-grows es es' xs xs' more_events more_facts fact.formula, facts_below facts)

  pub applied-grows : (system : System) → Below (applied system es xs) (applied system es' xs')
  applied-grows system = facts_below system.facts

none_below : (f : FactInfo → Bool) (facts : List FactInfo) → Below (map (λ _. false) facts) (map f facts)
none_below f [] = tt
none_below f (fact ∷ facts) = ((λ e. absurd (false≢true e)), none_below f facts)

module _ (system : System) (es : NumberSet) where
  pub length-round : (r : ℕ) → length (round system es r) ≡ length system.facts
  length-round zero = length-map system.facts _
  length-round (suc r) = length-map system.facts _

  pub round_below : (r : ℕ) → Below (round system es r) (round system es (suc r))
  round_below zero = none_below _ system.facts
  round_below (suc r) = applied-grows es es _ _ (λ n e. e) (Below-member _ _ (round_below r)) system

  -- what holds after some rounds holds after more
  pub round-more : (q r n : ℕ) → q ≤ r → Has (member (round system es q)) n → Has (member (round system es r)) n
  round-more q r n h e = from r (r - q) (omega arith) where
    from : (r d : ℕ) → r ≡ q + d → Has (member (round system es r)) n
    from r zero is = let same : r ≡ q = omega (arith, is) in subst (λ k. Has (member (round system es k)) n) (sym same) e
    from zero (suc d) is = absurd (omega (arith, is))
    from (suc r) (suc d) is = Below-member _ _ (round_below r) n (from r d (omega (arith, is)))

  -- after each round nothing changes any more, or there are as many facts as rounds
  stays_or_has : (r : ℕ) → (round system es r ≡ round system es (suc r)) ⊎ (r < count_true (round system es (suc r)))
  stays_or_has zero = ⊎_elim (λ e. inl e) (λ l. inr (omega arith)) (stay_or_grow _ _ (round_below zero))
  stays_or_has (suc r) = ⊎_elim (λ e. inl (ap (λ marks. applied system es (member marks)) e))
      (λ before. ⊎_elim (λ e. inl e) (λ l. inr (omega arith)) (stay_or_grow _ _ (round_below (suc r))))
      (stays_or_has r)

  pub holds_of-fixed : holds_of system es ≡ applied system es (member (holds_of system es))
  holds_of-fixed = ⊎_elim (λ e. e) (λ l. absurd (omega (arith, count_true-le (round system es (suc (length system.facts))), length-round (suc (length system.facts)))))
      (stays_or_has (length system.facts))

  pub holds_of-closed : IsClosed system es (member (holds_of system es))
  holds_of-closed n = subst (λ marks. Has (member marks) n → Has (member (holds_of system es)) n) holds_of-fixed (λ e. e)

  pub round-least : (xs : NumberSet) → IsClosed system es xs → (r n : ℕ) → Has (member (round system es r)) n → Has xs n
  round-least xs closed zero n e = absurd (false≢true (sym (member-none system.facts n) ∙ e))
  round-least xs closed (suc r) n e = closed n (Below-member _ _ (applied-grows es es _ _ (λ m h. h) (round-least xs closed r) system) n e)

  -- what is in each closed set is what that many rounds give
  pub holds_of-exact : (n : ℕ) → Has (member (holds_of system es)) n ↔ Holds system es n
  holds_of-exact n = ((λ e xs closed. round-least xs closed (length system.facts) n e), (λ h. h (member (holds_of system es)) holds_of-closed))
