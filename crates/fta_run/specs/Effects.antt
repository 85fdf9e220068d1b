-- The effects that an FMEA table asks of, and the facts that are told as targets.
use Rattle.std.specs.Prelude.{ℕ, Bool, false, List, cond, filter, length}
use Rattle.plain_values.specs.Numbered.{numbers_below}
use Rattle.fact_formulas.specs.Flat.{is_of_root}
use Rattle.model_phases.specs.declared.flat.FlatModel.{FlatModel}

-- The effects that are asked of: those of all components, or those of the root.
abbrev pub asked_effects : Bool → FlatModel → List ℕ
asked_effects all model = cond all model.effects (filter (is_of_root model.system) model.effects)

-- The facts that are told as targets: all, or the effects of the root.
abbrev pub asked_targets : Bool → FlatModel → List ℕ
asked_targets all model = cond all (numbers_below (length model.system.facts)) (asked_effects false model)
