-- A fact holds exactly where it has a round.
use Rattle.std.proofs.Common.{ℕ, zero, suc, ◌≡◌, ◌<◌, List, subst, arith}
use Rattle.fault_system.specs.Truth.{NumberSet}
use Rattle.fault_system.specs.Systems.{System, Holds}
use Rattle.fault_system.specs.Rounds.{AreRounds, IsRoundOf, time_of}
use Rattle.fault_system.proofs.HoldsLaws.{round-least}

by-round : (system : System) (events : NumberSet) (n r : ℕ) → IsRoundOf system events n r → 0 < r → Holds system events n
by-round system events n zero is some = absurd (omega arith)
by-round system events n (suc r) is some = λ facts closed. round-least system events facts closed (suc r) n is.there

pub none-held : (system : System) (events : NumberSet) (rounds : List ℕ) (n : ℕ) → AreRounds system events rounds → time_of rounds n ≡ 0 → Holds system events n → ⊥
none-held system events rounds n are none = subst (IsRoundOf system events n) none (are.each n)

pub some-holds : (system : System) (events : NumberSet) (rounds : List ℕ) (n : ℕ) → AreRounds system events rounds → 0 < time_of rounds n → Holds system events n
some-holds system events rounds n are some = by-round system events n (time_of rounds n) (are.each n) some
