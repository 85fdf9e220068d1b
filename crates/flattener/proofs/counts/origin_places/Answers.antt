use Rattle.std.proofs.Common.{ap, ◌∙◌}
use Rattle.error_behavior.specs.declared.steps.Origin.{Origin}
use Rattle.fact_formulas.specs.Flat.{places}
use Rattle.fact_formulas.specs.Formulas.{origin_formula}
use Rattle.flattener.proofs.Caps.{one-of}
use Rattle.flattener.proofs.Places.{places-True}
use Rattle.flattener.proofs.counts.origin_places.Goals as goal

pub returns-in-Always : goal.returns-in-Always
returns-in-Always c =
    one-of _ (ap (λ (origin : Origin). places (origin_formula c.args.site.now origin)) c.in-Always.is ∙ places-True)
