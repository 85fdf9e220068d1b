-- Beside specs/Text.antt: what no clause of `run` reaches.
use Rattle.std.specs.Prelude.{ℕ, List, All, Contains}
use Rattle.fault_system.specs.Systems.{System}

-- ---- what is asked of the names

-- a field that stands in a line as it is: it holds neither a comma nor a quotation mark, a line feed or a carriage return
pub record IsPlainField (field : List ℕ) : Type 0 where
  pub no_comma : Contains field 44 → ⊥
  pub no_quote : Contains field 34 → ⊥
  pub no_line_feed : Contains field 10 → ⊥
  pub no_return : Contains field 13 → ⊥

-- the names of facts and of events stand in a line as they are
pub record HasFieldNames (system : System) : Type 0 where
  pub facts : All (λ fact. IsPlainField fact.name) system.facts
  pub events : All (λ event. IsPlainField event.name) system.events
