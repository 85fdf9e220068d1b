use Rattle.std.proofs.Common.{ap, sym, ◌∙◌}
use Rattle.flattener.specs.inner.Tables.{capped}
use Rattle.flattener.proofs.Places.{emission-none, emission-some}
use Rattle.flattener.proofs.counts.emission_places.Goals as goal

pub returns-in-Some : goal.returns-in-Some
returns-in-Some c =
    c.one_more.ensures _ (c.plus.ensures _ _ c.origin_places-origin.ensures c.cause_places.ensures) ∙ ap capped (sym (emission-some c.args.site.now c.args.emission.now _ c.in-Some.is))

pub returns-in-None : goal.returns-in-None
returns-in-None c =
    c.one_more-in-None.ensures _ c.origin_places-origin.ensures ∙ ap capped (sym (emission-none c.args.site.now c.args.emission.now c.in-None.is))
