use Rattle.std.proofs.Common.{ap, sym, length, ◌∙◌}
use Rattle.propagation_points.specs.declared.held.Held.{Held}
use Rattle.fact_formulas.specs.Flat.{places}
use Rattle.fact_formulas.specs.Formulas.{held_formula}
use Rattle.flattener.specs.inner.Tables.{capped}
use Rattle.flattener.proofs.Caps.{one-of}
use Rattle.flattener.proofs.Places.{held-any, held-one}
use Rattle.flattener.proofs.counts.held_places.Goals as goal

pub returns-in-One : goal.returns-in-One
returns-in-One c =
    one-of _ (ap (λ (held : Held). places (held_formula c.args.site.now held)) c.in-One.is ∙ held-one c.args.site.now c.in-One.field-0)

pub returns-in-Any : goal.returns-in-Any
returns-in-Any c =
    c.one_more.ensures _ (c.count_capped.ensures ∙ ap (λ states. capped (length states)) c.items.ensures.items)
    ∙ ap capped (sym (ap (λ (held : Held). places (held_formula c.args.site.now held)) c.in-Any.is ∙ held-any c.args.site.now c.in-Any.states))
