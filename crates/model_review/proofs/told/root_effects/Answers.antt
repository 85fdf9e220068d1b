use Rattle.std.proofs.Common.{length, filter, ap, ◌∙◌}
use Rattle.std.proofs.lemmas.List.{take_all}
use Rattle.plain_values.proofs.Rising.{rises-as}
use Rattle.fact_formulas.specs.Flat.{is_of_root}
use Rattle.model_review.proofs.Rising.{rises-filter}
use Rattle.model_review.proofs.told.root_effects.Goals as goal

pub returns-clause-rise : goal.returns-clause-rise
returns-clause-rise c =
    let root = is_of_root c.args.system.now in
    let most = length c.args.system.now.facts in
    rises-as 0 most (filter root c.args.effects.now) c.loop-effect.found
    (c.loop-effect.invariant ∙ ap (filter root) (take_all c.loop-effect.effect-index c.args.effects.now c.loop-effect-test.false))
    (rises-filter root 0 most c.args.effects.now c.requires.rise)
