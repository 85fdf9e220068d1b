-- Beside specs/Flat.antt: what no clause of `run` reaches.
use Rattle.std.specs.Prelude.{◌≡◌, None}
use Rattle.fault_system.specs.Systems.{System}
use Rattle.fact_formulas.specs.Numbered.{Numbered}
use Rattle.fact_formulas.specs.Flat.{system_by, places_refusal}

-- ---- places

-- This is the system of a model whose facts and events are numbered, and its formulas do not have too many places.
pub record Flattened (numbered : Numbered) (system : System) : Type 0 where
  pub equals : system ≡ system_by numbered
  pub few : places_refusal numbered ≡ None
