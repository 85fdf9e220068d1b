-- Beside specs/Rows.antt: what no clause of `run` reaches.
use Rattle.std.specs.Prelude.{ℕ, ◌<◌, ◌↔◌, ◌==◌, ◌&&◌, ◌||◌, Bool, List, [], ◌∷◌, length, nat_lt, IsTrue, Contains}
use Rattle.std.specs.List.{AllByRecursion}
use Rattle.fault_system.specs.Systems.{System, Holds}
use Rattle.fault_system.specs.Rounds.{IsLeastRound, no_event, only}
use Rattle.fmea_rows.specs.declared.row.Row.{Row}

-- A row: the effect holds under the event alone, it does not hold under no event, and under the event alone it comes to hold in
-- this round: after so many applications of all formulas at once, from no fact, and after no fewer.
pub record IsRow (system : System) (effects : List ℕ) (row : Row) : Type 0 where
  pub event_in : row.event < length system.events
  pub effect_in : Contains effects row.effect
  pub alone : Holds system (only row.event) row.effect
  pub needed : Holds system no_event row.effect → ⊥
  pub first : IsLeastRound system (only row.event) row.effect row.round

-- a row stands before another: its event has the lower number, or they are of one event and its effect has
abbrev pub is_row_before : Row → Row → Bool
is_row_before a b = nat_lt a.event b.event || ((a.event == b.event) && nat_lt a.effect b.effect)

-- each row stands before all that follow it
abbrev pub IsInRowOrder : List Row → Type 0
IsInRowOrder [] = Unit {0}
IsInRowOrder (row ∷ rows) = AllByRecursion (λ other. IsTrue (is_row_before row other)) rows × IsInRowOrder rows

-- the rows of a system over some effects: exactly these, each once, by event and then by effect
pub record AreRows (system : System) (effects : List ℕ) (rows : List Row) : Type 0 where
  pub exact : (row : Row) → Contains rows row ↔ IsRow system effects row
  pub ordered : IsInRowOrder rows
