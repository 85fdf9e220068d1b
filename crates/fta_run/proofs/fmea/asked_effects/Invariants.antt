use Rattle.std.proofs.Common.{◌≡◌, ◌||◌, filter, take}
use Rattle.fact_formulas.specs.Flat.{is_of_root}
use Rattle.fta_run.proofs.fmea.asked_effects.Given as goal

abbrev pub invariant-loop-effect : goal.invariant-loop-effect
invariant-loop-effect l = l.effects ≡ filter (λ number. l.all || is_of_root l.model.system number) (take l.effect-index l.effect-items)
