-- The text of the derivation by rounds is confirmed, and there is one such derivation.
use Rattle.std.proofs.Common.{ℕ, ◌+◌, ◌≡◌, ◌<◌, ◌≤◌, List, [], ◌∷◌, ◌++◌, length, length-append, refl, arith, leb-true}
use Rattle.fault_system.specs.Truth.{NumberSet}
use Rattle.fault_system.specs.Systems.{System, IsSystem, Holds}
use Rattle.fault_system.specs.Rounds.{time_of}
use Rattle.fault_system.proofs.RoundLaws.{ever-holds}
use Rattle.derivations.specs.declared.derivation.Firing.{Firing}
use Rattle.derivations.specs.Text.{event_names, fact_names, line_of, lines_of}
use Rattle.derivations.specs.inner.Text.{IsConfirmed}
use Rattle.derivations.specs.Derived.{IsByRounds}
use Rattle.derivations.proofs.ByRounds.{derivation-good, derivation-lines}

-- each line has a byte
lines-long : (facts names : List (List ℕ)) (number : ℕ) (steps : List Firing) → length steps ≤ length (lines_of facts names number steps)
lines-long facts names number [] = omega arith
lines-long facts names number (step ∷ steps) =
    let line = line_of facts names number step in
    let more = lines_of facts names (number + 1) steps in
    let long : length (line ++ (10 ∷ more)) ≡ length line + length (10 ∷ more) = length-append line (10 ∷ more) in
    let rest : length steps ≤ length more = lines-long facts names (number + 1) steps in
    omega (arith, long, rest)

pub confirmed-text : (system : System) (target : ℕ) (events : NumberSet) (steps : List Firing) → IsSystem system → Holds system events target → IsByRounds system events target steps → IsConfirmed system target events (lines_of (fact_names system) (event_names system) 0 steps) steps
confirmed-text system target events steps is_system holds is =
    let some : 0 < time_of is.rounds target = leb-true 1 (time_of is.rounds target) ((ever-holds system events is.rounds is.are_rounds target).1 holds) in
    record {
      text = record { lines = derivation-lines system events is.rounds target steps is_system is.are_rounds some is.derivation; text = refl };
      good = derivation-good system events is.rounds target steps is_system is.are_rounds some is.derivation;
      few = lines-long (fact_names system) (event_names system) 0 steps;
    }
