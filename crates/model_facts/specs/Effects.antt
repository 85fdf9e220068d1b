-- The effects of failures among the facts of a model: what an FMEA table asks of.
use Rattle.std.specs.Prelude.{ℕ, Bool, true, false, not, cond, List, [], ◌∷◌, slice_index_or}
use Rattle.plain_values.specs.Numbered.{numbered_from}
use Rattle.error_models.specs.declared.model.ErrorModel.{ErrorModel}
use Rattle.model_facts.specs.Assembly.{Assembly, model_at, universe_of}
use Rattle.model_facts.specs.Facts.{facts_of}
use Rattle.model_facts.specs.declared.keys.FactKey.{FactKey}
use Rattle.model_facts.specs.declared.keys.FactKind.{FactKind}
use Rattle.model_facts.specs.declared.keys.FactKind.TheVariants.{State, Enters, Exits}

-- whether a fact of a component with this model is an effect: that it is in a state that is no initial one, or that an error exits
abbrev pub is_effect_kind : ErrorModel → FactKind → Bool
is_effect_kind model (State state) = not (slice_index_or model.states.always state false)
is_effect_kind model (Enters point type) = false
is_effect_kind model (Exits point type) = true

-- whether a fact is an effect
abbrev pub is_effect : Assembly → FactKey → Bool
is_effect assembly fact = is_effect_kind (model_at assembly fact.owner) fact.kind

-- the number of a fact, if it is an effect
abbrev pub effect_number : Assembly → ℕ → FactKey → List ℕ
effect_number assembly number fact = cond (is_effect assembly fact) (number ∷ []) []

-- the numbers of the effects among facts, rising
abbrev pub effects_among : Assembly → List FactKey → List ℕ
effects_among assembly facts = numbered_from (effect_number assembly) 0 facts

-- The effects of a model: the numbers of its facts that a component is in a state which is not an initial one, and that an error
-- exits at a point. They rise.
abbrev pub effects_of : Assembly → List ℕ
effects_of assembly = effects_among assembly (facts_of assembly (universe_of assembly))
