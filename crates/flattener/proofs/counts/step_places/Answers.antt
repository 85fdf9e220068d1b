use Rattle.std.proofs.Common.{ap, sym, ◌∙◌}
use Rattle.flattener.specs.inner.Tables.{capped}
use Rattle.flattener.proofs.Places.{step-places}
use Rattle.flattener.proofs.counts.step_places.Goals as goal

pub returns : goal.returns
returns c = c.one_more.ensures _ (c.plus.ensures _ _ c.origin_places-origin.ensures c.cause_places.ensures) ∙ ap capped (sym (step-places c.args.site.now c.args.step.now))
