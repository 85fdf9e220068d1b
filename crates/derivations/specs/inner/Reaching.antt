-- What is reached from a target by use.
use Rattle.std.specs.Prelude.{ℕ, ◌≡◌, Bool, List, length}
use Rattle.fault_system.specs.Truth.{NumberSet, Has, member}
use Rattle.fault_system.specs.Systems.{System}
use Rattle.fault_system.specs.Rounds.{time_of}
use Rattle.derivations.specs.Derived.{IsReached, is_before_round}

-- from a fact, those of earlier rounds
abbrev pub earlier : List ℕ → ℕ → NumberSet
earlier rounds fact = is_before_round rounds (time_of rounds fact)

-- exactly those facts are marked that are reached from the target
pub record AreReached (system : System) (rounds : List ℕ) (target : ℕ) (marks : List Bool) : Type 0 where
  pub size : length marks ≡ length system.facts
  pub into : (n : ℕ) → Has (member marks) n → IsReached system rounds target n
  pub all : (n : ℕ) → IsReached system rounds target n → Has (member marks) n
