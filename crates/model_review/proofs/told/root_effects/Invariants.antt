use Rattle.std.proofs.Common.{◌≡◌, filter, take}
use Rattle.fact_formulas.specs.Flat.{is_of_root}
use Rattle.model_review.proofs.told.root_effects.Given as goal

abbrev pub invariant-loop-effect : goal.invariant-loop-effect
invariant-loop-effect l = l.found ≡ filter (is_of_root l.system) (take l.effect-index l.effects)
