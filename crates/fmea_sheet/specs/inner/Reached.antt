-- What the cells of a sheet mean, by what holds.
use Rattle.std.specs.Prelude.{ℕ, Contains}
use Rattle.fault_system.specs.Systems.{Holds}
use Rattle.fault_system.specs.Rounds.{no_event, only}
use Rattle.model_phases.specs.declared.flat.FlatModel.{FlatModel}

-- An event reaches an effect alone: it is an effect of the model, it holds under this event and no other, and it does not hold without any event.
pub record IsReachedAlone (model : FlatModel) (event fact : ℕ) : Type 0 where
  pub is_effect : Contains model.effects fact
  pub alone : Holds model.system (only event) fact
  pub needed : Holds model.system no_event fact → ⊥
