-- A phase whose parts are decided has one end at most.
use Rattle.std.proofs.Common.{◌≡◌, inl, inr, Result, Ok, Err, sym, ◌∙◌, subst}
use Rattle.phases.specs.Phases.{Phase, yields, tells, chains, Passed, Stopped, Passes, Stops, IsDue}
use Rattle.phases.specs.inner.Phases.{IsDecided, IsSameEnd}
use Rattle.phases.specs.declared.status.Status.{Status}

one_passed : {A : Type 0} (Same : Status → Status → Type 0) (phase : Phase A) → IsDecided Same phase → (a b : A) → Passed phase a → Passed phase b → a ≡ b
one_passed Same (yields x) decided a b p q = p ∙ sym q
one_passed Same (tells Is Ends) decided a b p q = decided.one_value a b p q
one_passed Same (chains {A = A} first later) decided a b p q =
    let same : p.0 ≡ q.0 = one_passed Same first decided.0 p.0 q.0 p.1 q.1 in
    one_passed Same (later q.0) (decided.1 q.0 q.1) a b (subst (λ (x : A). Passed (later x) a) same p.2) q.2

passed_or_stopped : {A : Type 0} (Same : Status → Status → Type 0) (phase : Phase A) → IsDecided Same phase → (a : A) (status : Status) → Passed phase a → Stopped phase status → ⊥
passed_or_stopped Same (yields x) decided a status p s = s
passed_or_stopped Same (tells Is Ends) decided a status p s = decided.apart a status p s
passed_or_stopped Same (chains {A = A} first later) decided a status p s =
    elim s [
      | inl t ↦ passed_or_stopped Same first decided.0 p.0 status p.1 t
      | inr t ↦
          let same : p.0 ≡ t.0 = one_passed Same first decided.0 p.0 t.0 p.1 t.1 in
          passed_or_stopped Same (later t.0) (decided.1 t.0 t.1) a status (subst (λ (x : A). Passed (later x) a) same p.2) t.2
    ]

one_stopped : {A : Type 0} (Same : Status → Status → Type 0) (phase : Phase A) → IsDecided Same phase → (a b : Status) → Stopped phase a → Stopped phase b → Same a b
one_stopped Same (yields x) decided a b s t = absurd s
one_stopped Same (tells Is Ends) decided a b s t = decided.one_stop a b s t
one_stopped Same (chains {A = A} first later) decided a b s t =
    elim s [
      | inl p ↦ elim t [
        | inl q ↦ one_stopped Same first decided.0 a b p q
        | inr q ↦ absurd (passed_or_stopped Same first decided.0 q.0 a q.1 p)
      ]
      | inr p ↦ elim t [
        | inl q ↦ absurd (passed_or_stopped Same first decided.0 p.0 b p.1 q)
        | inr q ↦
            let same : p.0 ≡ q.0 = one_passed Same first decided.0 p.0 q.0 p.1 q.1 in
            one_stopped Same (later q.0) (decided.1 q.0 q.1) a b (subst (λ (x : A). Stopped (later x) a) same p.2) q.2
      ]
    ]

pub one_value : {A : Type 0} (Same : Status → Status → Type 0) (phase : Phase A) → IsDecided Same phase → (a b : A) → Passes phase a → Passes phase b → a ≡ b
one_value Same phase decided a b p q = one_passed Same phase decided a b p.passed q.passed

pub not_both : {A : Type 0} (Same : Status → Status → Type 0) (phase : Phase A) → IsDecided Same phase → (a : A) (status : Status) → Passes phase a → Stops phase status → ⊥
not_both Same phase decided a status p s = passed_or_stopped Same phase decided a status p.passed s.stopped

pub one_stop : {A : Type 0} (Same : Status → Status → Type 0) (phase : Phase A) → IsDecided Same phase → (a b : Status) → Stops phase a → Stops phase b → Same a b
one_stop Same phase decided a b s t = one_stopped Same phase decided a b s.stopped t.stopped

-- one end is due
pub one_due : {A : Type 0} (Same : Status → Status → Type 0) (phase : Phase A) → IsDecided Same phase → (a b : Result A Status) → IsDue phase a → IsDue phase b → IsSameEnd Same a b
one_due Same phase decided (Ok x) (Ok y) p q = one_value Same phase decided x y p q
one_due Same phase decided (Ok x) (Err t) p q = not_both Same phase decided x t p q
one_due Same phase decided (Err s) (Ok y) p q = not_both Same phase decided y s q p
one_due Same phase decided (Err s) (Err t) p q = one_stop Same phase decided s t p q
