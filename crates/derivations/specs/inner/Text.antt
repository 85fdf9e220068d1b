-- Beside specs/Text.antt: what no clause of `run` reaches.
use Rattle.std.specs.Prelude.{ℕ, ◌<◌, ◌≤◌, ◌≡◌, ◌==◌, ◌&&◌, not, Bool, true, false, List, [], ◌∷◌, length}
use Rattle.std.specs.List.{list_all}
use Rattle.fault_system.specs.Truth.{NumberSet}
use Rattle.fault_system.specs.Systems.{System}
use Rattle.derivations.specs.declared.derivation.Firing.{Firing}
use Rattle.derivations.specs.Steps.{IsGood}
use Rattle.derivations.specs.Text.{fact_names, event_names, name_at, IsTextOf}

-- neither a blank nor a line feed
abbrev pub is_plain : ℕ → Bool
is_plain byte = not (byte == 32) && not (byte == 10)

-- a name that can stand in a line: it is not empty, does not begin with `#`, and has no blank and no line feed
abbrev pub is_line_name : List ℕ → Bool
is_line_name [] = false
is_line_name (byte ∷ bytes) = not (byte == 35) && list_all is_plain (byte ∷ bytes)

-- each of these names can stand in a line
abbrev pub AreLineNames : List (List ℕ) → Type 0
AreLineNames names = (n : ℕ) → n < length names → is_line_name (name_at names n) ≡ true

-- a text is that of a good derivation of a target, whose steps are no more than its bytes
pub record IsConfirmed (system : System) (target : ℕ) (events : NumberSet) (bytes : List ℕ) (steps : List Firing) : Type 0 where
  pub text : IsTextOf (fact_names system) (event_names system) events bytes steps
  pub good : IsGood system target events steps
  pub few : length steps ≤ length bytes
