-- Facts that never come about may be taken away.
use Rattle.std.proofs.Common.{ℕ, ◌≡◌, ◌↔◌, Bool, true, false, [], ⊎_elim, ap, ◌∙◌, sym, refl, arith}
use Rattle.std.specs.Prelude.{◌&&◌, cond}
use Rattle.std.proofs.lemmas.Bool.{false≢true, and_parts}
use Rattle.std.proofs.lemmas.Option.{slice_get_cases, slice_get_within}
use Rattle.fault_system.specs.Truth.{NumberSet, Has, member, truth}
use Rattle.fault_system.specs.Systems.{System, IsFact, Holds, IsClosed, holds_of}
use Rattle.fault_system.specs.declared.formula.FactInfo.{FactInfo}
use Rattle.fault_system.specs.declared.formula.Formula.{Formula}
use Rattle.fault_system.specs.declared.formula.Formula.TheVariants.{Or}
use Rattle.fault_system.proofs.HoldsLaws.{holds_of-closed, holds_of-exact}
use Rattle.fault_system.proofs.Occurring.{truth-grows}
use Rattle.fault_system.proofs.TruthLaws.{truth-Or}
use Rattle.system_review.specs.inner.Possible.{IsPossible}
use Rattle.system_review.proofs.More.{applied-fact, applied-is}
use Rattle.review_laws.specs.inner.Emptied.{IsEmptied}

-- a formula that is taken away is never true
left-true : (events facts : NumberSet) (gone : Bool) (formula : Formula) → truth events facts (cond gone (Or []) formula) ≡ true → truth events facts formula ≡ true
left-true events facts true formula holds = absurd (false≢true (sym (truth-Or events facts []) ∙ holds))
left-true events facts false formula holds = holds

-- one that is not stays
stays : (gone : Bool) (formula : Formula) → (gone ≡ true → ⊥) → cond gone (Or []) formula ≡ formula
stays true formula here = absurd (here refl)
stays false formula here = refl

both : (a b : Bool) → a ≡ true → b ≡ true → a && b ≡ true
both a b x y = cc

module _ (silent : NumberSet) (system emptied : System) (is : IsEmptied silent system emptied) (never : (n : ℕ) → Has silent n → IsPossible system n → ⊥) (events : NumberSet) where
  -- what is closed under the system is closed under what is left of it
  still-closed : (facts : NumberSet) → IsClosed system events facts → IsClosed emptied events facts
  still-closed facts closed n has =
      let there = applied-fact emptied events facts n has in
      let here = is.each n there.0 there.1 in
      let whole = ap (truth events facts) (sym here.2) ∙ sym (applied-is emptied events facts n there.0 there.1) ∙ has in
      closed n (applied-is system events facts n here.0 here.1 ∙ left-true events facts (silent n) here.0.formula whole)

  abbrev held : NumberSet
  held = member (holds_of system events)

  module _ (facts : NumberSet) (closed : IsClosed emptied events facts) where
    -- what holds, of these facts
    abbrev among : NumberSet
    among n = facts n && held n

    held-at : (n : ℕ) (before : FactInfo) → IsFact system n before → truth events among before.formula ≡ true → Has held n
    held-at n before at true_here =
        holds_of-closed system events n (applied-is system events held n before at
        ∙ truth-grows events events among held (λ e h. h) (λ m h. (and_parts _ _ h).1) before.formula true_here)

    left-at : (n : ℕ) (before : FactInfo) → IsFact system n before → truth events among before.formula ≡ true → Has held n → Has facts n
    left-at n before at true_here holds = ⊎_elim
        (λ (fact, low, read, same).
        let here = is.each n fact read in
        let again : here.0 ≡ before = cc (here.1, at) in
        let stands : truth events facts fact.formula ≡ true = ap (truth events facts) (here.2 ∙ stays (silent n) here.0.formula (λ gone. never n gone (events, (holds_of-exact system events n).0 holds)) ∙ ap (λ (f : FactInfo). f.formula) again)
        ∙ truth-grows events events among facts (λ e h. h) (λ m h. (and_parts _ _ h).0) before.formula true_here in
        closed n (applied-is emptied events facts n fact read ∙ stands))
        (λ (past, none). absurd (omega (arith, past, is.size, slice_get_within system.facts n before at)))
        (slice_get_cases emptied.facts n).1

    among-closed : IsClosed system events among
    among-closed n has =
        let there = applied-fact system events among n has in
        let true_here = sym (applied-is system events among n there.0 there.1) ∙ has in
        let holds = held-at n there.0 there.1 true_here in
        both (facts n) (held n) (left-at n there.0 there.1 true_here holds) holds

  pub same-without : (n : ℕ) → Holds system events n ↔ Holds emptied events n
  same-without n = (
    (λ holds facts closed. (and_parts _ _ (holds (among facts closed) (among-closed facts closed))).0),
    (λ holds facts closed. holds facts (still-closed facts closed)),
  )
