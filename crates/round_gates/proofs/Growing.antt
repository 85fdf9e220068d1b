-- A target that holds under no event always holds, and one that does not hold under all events never does.
use Rattle.std.proofs.Common.{ℕ, ◌≡◌, ◌<◌, ◌↔◌, Bool, true, false, List, length, replicate, ap, ◌∙◌, sym, refl, arith, rules, tests, nat_lt}
use Rattle.std.proofs.lemmas.Bool.{false≢true, ltb-true}
use Rattle.fault_system.specs.Truth.{NumberSet, Has, member}
use Rattle.fault_system.specs.Systems.{System, holds_of}
use Rattle.fault_system.specs.CutSets.{makes_hold}
use Rattle.fault_system.proofs.Marks.{Below-member}
use Rattle.fault_system.proofs.NumberSets.{member-in, member-replicate}
use Rattle.fault_system.proofs.HoldsLaws.{applied-grows, holds_of-closed, holds_of-exact}
use Rattle.round_gates.specs.Staged.{IsConstant, IsVarying}
use Rattle.round_gates.specs.Targets.{IsConstantly, all_events, no_events}

-- what holds under some events holds under more
pub holds-grow : (system : System) (es more : NumberSet) → ((n : ℕ) → Has es n → Has more n) → (n : ℕ) → Has (member (holds_of system es)) n → Has (member (holds_of system more)) n
holds-grow system es more in_more n e =
    (holds_of-exact system es n).0 e (member (holds_of system more))
    (λ m h. holds_of-closed system more m (Below-member _ _ (applied-grows es more (member (holds_of system more)) (member (holds_of system more)) in_more (λ k i. i) system) m h))

not_both : (b : Bool) → (b ≡ true → ⊥) → b ≡ false
not_both true h = absurd (h refl)
not_both false h = refl

module _ (system : System) (target : ℕ) where
  pub always : (none : List Bool) → none ≡ replicate (length system.events) false → makes_hold system target (member none) ≡ true → IsConstant system target true
  always none is e events inside = holds-grow system (member none) events (λ n h. absurd (false≢true (sym (ap (λ bits. member bits n) is ∙ member-replicate (length system.events) n) ∙ h))) target e

  pub never : (all : List Bool) → ((n : ℕ) → n < length system.events → member all n ≡ true) → makes_hold system target (member all) ≡ false → IsConstant system target false
  never all each e events inside = not_both _ (λ h. false≢true (sym e ∙ holds-grow system events (member all) (λ n i. each n (inside n i)) target h))

  pub varies : (none all : List Bool) → length none ≡ length system.events → length all ≡ length system.events → makes_hold system target (member none) ≡ false → makes_hold system target (member all) ≡ true → IsVarying system target
  varies none all long_none long_all e f true constant = false≢true (sym e ∙ constant (member none) (λ n h. let i : n < length none = member-in none n h in omega arith))
  varies none all long_none long_all e f false constant = false≢true (sym (constant (member all) (λ n h. let i : n < length all = member-in all n h in omega arith)) ∙ f)

  -- a target is constant exactly where it holds under no event, or does not hold under all
  pub constantly : (is : Bool) → IsConstant system target is ↔ IsConstantly system target is
  constantly true = (
    (λ constant. (holds_of-exact system no_events target).0 (constant no_events (λ n h. absurd (false≢true h)))),
    (λ holds events inside. holds-grow system no_events events (λ n h. absurd (false≢true h)) target ((holds_of-exact system no_events target).1 holds)),
  )
  constantly false = (
    (λ constant holds. false≢true (sym (constant (all_events system) (λ n h. ltb-true _ _ h)) ∙ (holds_of-exact system (all_events system) target).1 holds)),
    (λ fails events inside. not_both _ (λ h. fails ((holds_of-exact system (all_events system) target).0 (holds-grow system events (all_events system) (λ n i. below n (length system.events) (inside n i)) target h)))),
  )
    where
      below : (a b : ℕ) → a < b → nat_lt a b ≡ true
      below a b h = search (rules, tests)

  -- and so in one way at most
  pub one-constant : (a b : Bool) → IsConstant system target a → IsConstant system target b → a ≡ b
  one-constant a b first second = sym (first no_events (λ n h. absurd (false≢true h))) ∙ second no_events (λ n h. absurd (false≢true h))
