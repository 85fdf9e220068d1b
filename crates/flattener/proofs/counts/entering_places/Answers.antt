use Rattle.std.proofs.Common.{ap, sym, ◌∙◌}
use Rattle.flattener.specs.inner.Tables.{capped}
use Rattle.flattener.proofs.Places.{entering-places}
use Rattle.flattener.proofs.counts.entering_places.Goals as goal

pub returns : goal.returns
returns c = c.one_more.ensures _ c.reached_count.ensures ∙ ap capped (sym (entering-places c.args.site.now c.args.reached.now))
