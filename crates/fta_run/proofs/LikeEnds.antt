-- The ends of a phase whose parts but the last are decided are alike.
use Rattle.std.proofs.Common.{◌≡◌, inl, inr, Result, Ok, Err, sym, subst}
use Rattle.phases.specs.Phases.{Phase, yields, tells, chains, Passed, Stopped, IsDue}
use Rattle.phases.specs.inner.Phases.{IsDecided}
use Rattle.phases.specs.declared.status.Status.{Status}
use Rattle.phases.proofs.Decided.{not_both, one_stop, one_value}
use Rattle.fta_run.specs.inner.OneEnd.{IsDecidedButLast, IsLikeEnd}

module _ (Same : Status → Status → Type 0) where
  -- a phase that is decided is so but for its last part
  pub opened : {A : Type 0} (phase : Phase A) → IsDecided Same phase → IsDecidedButLast Same phase
  opened (yields x) decided = tt
  opened (tells Is Ends) decided = (decided.apart, decided.one_stop)
  opened (chains {A = A} first later) decided = (decided.0, λ x passed. opened (later x) (decided.1 x passed))

  same_passed : {A : Type 0} (phase : Phase A) → IsDecided Same phase → (a b : A) → Passed phase a → Passed phase b → a ≡ b
  same_passed phase decided a b p q = one_value Same phase decided a b (record { passed = p }) (record { passed = q })

  apart : {A : Type 0} (phase : Phase A) → IsDecidedButLast Same phase → (a : A) (status : Status) → Passed phase a → Stopped phase status → ⊥
  apart (yields x) decided a status p s = s
  apart (tells Is Ends) decided a status p s = decided.0 a status p s
  apart (chains {A = A} first later) decided a status p s =
      elim s [
        | inl t ↦ not_both Same first decided.0 p.0 status (record { passed = p.1 }) (record { stopped = t })
        | inr t ↦
            let same : p.0 ≡ t.0 = same_passed first decided.0 p.0 t.0 p.1 t.1 in
            apart (later t.0) (decided.1 t.0 t.1) a status (subst (λ (x : A). Passed (later x) a) same p.2) t.2
      ]

  one_stopped : {A : Type 0} (phase : Phase A) → IsDecidedButLast Same phase → (a b : Status) → Stopped phase a → Stopped phase b → Same a b
  one_stopped (yields x) decided a b s t = absurd s
  one_stopped (tells Is Ends) decided a b s t = decided.1 a b s t
  one_stopped (chains {A = A} first later) decided a b s t =
      elim s [
        | inl p ↦ elim t [
          | inl q ↦ one_stop Same first decided.0 a b (record { stopped = p }) (record { stopped = q })
          | inr q ↦ absurd (not_both Same first decided.0 q.0 a (record { passed = q.1 }) (record { stopped = p }))
        ]
        | inr p ↦ elim t [
          | inl q ↦ absurd (not_both Same first decided.0 p.0 b (record { passed = p.1 }) (record { stopped = q }))
          | inr q ↦
              let same : p.0 ≡ q.0 = same_passed first decided.0 p.0 q.0 p.1 q.1 in
              one_stopped (later q.0) (decided.1 q.0 q.1) a b (subst (λ (x : A). Stopped (later x) a) same p.2) q.2
        ]
      ]

  pub alike : {A : Type 0} (phase : Phase A) → IsDecidedButLast Same phase → (a b : Result A Status) → IsDue phase a → IsDue phase b → IsLikeEnd Same a b
  alike phase decided (Ok x) (Ok y) p q = tt
  alike phase decided (Ok x) (Err t) p q = apart phase decided x t p.passed q.stopped
  alike phase decided (Err s) (Ok y) p q = apart phase decided y s q.passed p.stopped
  alike phase decided (Err s) (Err t) p q = one_stopped phase decided s t p.stopped q.stopped
