-- Facts that hold under one event alone.
use Rattle.std.proofs.Common.{ℕ, ◌-◌, ◌≡◌, ◌≤◌, ◌⊎◌, Bool, List, [], ◌∷◌, ⊎_elim, ◌∙◌, sym, subst, arith, eqb-true}
use Rattle.std.proofs.lemmas.Bool.{false≢true, or_cases}
use Rattle.fault_system.specs.Truth.{Has, member, set_of}
use Rattle.fault_system.specs.Systems.{System, Holds}
use Rattle.fault_system.specs.Rounds.{time_of}
use Rattle.fault_system.proofs.CutSetLaws.{Holds-grows}
use Rattle.fault_system.proofs.NumberSets.{set_of-first}
use Rattle.target_orders.specs.Orders.{HoldsWithin}
use Rattle.target_orders.specs.inner.Alone.{AreAlone, AreAlways, IsWalk, held_set}
use Rattle.target_orders.specs.declared.alone.Walk.{Walk}

module _ (system : System) (stamp : ℕ) (walk : Walk) (is : IsWalk system stamp walk) where
  -- the facts with the stamp of an event hold under it, and those that hold under none
  pub held-holds : (always : List Bool) → AreAlways system always → (m : ℕ) → Has (held_set (member always) walk.stamps.items stamp) m → Holds system (member walk.events) m
  held-holds always all m h = ⊎_elim
      (λ a. Holds-grows system m (set_of []) (member walk.events) (λ n e. absurd (false≢true e)) m (all m a).1)
      (λ s. is.held m (eqb-true (time_of walk.stamps.items m) stamp s))
      (or_cases (member always m) _ h)

  -- what holds under the event that is looked at holds within one event
  alone-of : (n : ℕ) → Holds system (member walk.events) n → HoldsWithin system n 1
  alone-of n holds =
      let event : ℕ = stamp - 1 in (
        event ∷ [],
        (
          (omega arith, omega (arith, is.some, is.there), tt),
          Holds-grows system n (member walk.events) (set_of (event ∷ []))
              (λ k h. let same : event ≡ k = omega (arith, is.only k h, is.some) in subst (Has (set_of (event ∷ []))) same (set_of-first event [])) n holds,
        ),
        omega arith,
      )

  pub alone-put : (old new : List Bool) (fact : ℕ) → ((n : ℕ) → Has (member new) n → Has (member old) n ⊎ (fact ≡ n)) → AreAlone system old → Holds system (member walk.events) fact → AreAlone system new
  alone-put old new fact grows was holds n h =
      ⊎_elim (λ o. was n o) (λ e. subst (λ (k : ℕ). HoldsWithin system k 1) e (alone-of fact holds)) (grows n h)

  -- one more fact has the stamp
  pub stamped-few : (stamps : List ℕ) (fact : ℕ) → ((n : ℕ) → (time_of stamps n ≡ time_of walk.stamps.items n) ⊎ ((n ≡ fact) × (time_of stamps n ≡ stamp))) → (n : ℕ) → time_of stamps n ≤ stamp
  stamped-few stamps fact written n = ⊎_elim (λ e. omega (arith, e, is.few n)) (λ e. omega (arith, e.1)) (written n)

  pub stamped-held : (stamps : List ℕ) (fact : ℕ) → ((n : ℕ) → (time_of stamps n ≡ time_of walk.stamps.items n) ⊎ ((n ≡ fact) × (time_of stamps n ≡ stamp))) → Holds system (member walk.events) fact → (n : ℕ) → time_of stamps n ≡ stamp → Holds system (member walk.events) n
  stamped-held stamps fact written holds n e =
      ⊎_elim (λ same. is.held n (sym same ∙ e)) (λ new. subst (Holds system (member walk.events)) (sym new.0) holds) (written n)
