-- A model with its facts and events in order, and its system, whose names are plain.
use Rattle.model_facts.specs.Assembly.{Assembly}
use Rattle.fact_formulas.specs.inner.Models.{IsSystemOf}
use Rattle.fact_formulas.specs.declared.numbered.NumberedModel.{NumberedModel}
use Rattle.model_phases.specs.Named.{IsPlainSystem}

-- It is the system of the model with its facts, events and effects, and its names are plain.
pub record IsNumbered (assembly : Assembly) (model : NumberedModel) : Type 0 where
  pub is : IsSystemOf assembly model
  pub plain : IsPlainSystem model.system
