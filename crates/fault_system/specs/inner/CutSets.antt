-- Beside specs/CutSets.antt: what no clause of `run` reaches.
use Rattle.std.specs.Prelude.{ℕ, Bool, List, ◌==◌, ◌&&◌, not}
use Rattle.std.specs.List.{list_all}
use Rattle.fault_system.specs.Truth.{NumberSet, set_of}
use Rattle.fault_system.specs.Systems.{System}
use Rattle.fault_system.specs.CutSets.{makes_hold}

-- a set without one number
abbrev pub without : NumberSet → ℕ → NumberSet
without set number n = set n && not (n == number)

-- whether the target holds under these events, and under them without any one of them does not
abbrev pub is_minimal : System → ℕ → List ℕ → Bool
is_minimal system target set =
    makes_hold system target (set_of set) && list_all (λ n. not (makes_hold system target (without (set_of set) n))) set
