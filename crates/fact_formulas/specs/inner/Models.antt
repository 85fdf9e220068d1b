-- A model with its facts and events in order, and its system.
use Rattle.std.specs.Prelude.{◌≡◌, length}
use Rattle.plain_values.specs.Rising.{RisesWithin}
use Rattle.model_facts.specs.Assembly.{Assembly, universe_of}
use Rattle.model_facts.specs.Effects.{effects_of}
use Rattle.model_facts.specs.Facts.{events_of, facts_of}
use Rattle.fact_formulas.specs.Flat.{system_of}
use Rattle.fact_formulas.specs.declared.numbered.NumberedModel.{NumberedModel}

-- These are the universe, the facts, the events and the system of a model, and its effects of failures.
pub record IsSystemOf (assembly : Assembly) (model : NumberedModel) : Type 0 where
  pub universe : model.universe ≡ universe_of assembly
  pub facts : model.facts ≡ facts_of assembly model.universe
  pub events : model.events ≡ events_of assembly
  pub system : model.system ≡ system_of assembly
  pub effects : model.effects ≡ effects_of assembly
  pub rise : RisesWithin 0 (length model.system.facts) model.effects
