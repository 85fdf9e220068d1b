-- What a model is as a system, whatever its texts are.
use Rattle.std.specs.Prelude.{◌≡◌, length, All}
use Rattle.aadl_syntax.specs.Form.{IsNumber}
use Rattle.plain_values.specs.Rising.{RisesWithin}
use Rattle.fault_system.specs.Systems.{System, IsSystem}
use Rattle.model_facts.specs.Laws.{IsPlain}
use Rattle.model_phases.specs.declared.flat.FlatModel.{FlatModel}

-- Each number in a formula is that of a fact or an event, no two facts and no two events have one name, and all names are plain.
pub record IsPlainSystem (system : System) : Type 0 where
  pub is_system : IsSystem system
  pub fact_names : All (λ fact. IsPlain fact.name) system.facts
  pub event_names : All (λ event. IsPlain event.name) system.events

-- The system of a model is plain, its effects are facts of it and rise, and each event has a rate, which is a number.
pub record IsPlainModel (model : FlatModel) : Type 0 where
  pub system : IsPlainSystem model.system
  pub rise : RisesWithin 0 (length model.system.facts) model.effects
  pub each : length model.rates ≡ length model.system.events
  pub numbers : All (λ rate. IsNumber rate.text) model.rates
