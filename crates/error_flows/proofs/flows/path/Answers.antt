use Rattle.std.proofs.Common.{◌++◌, ap, ◌∙◌}
use Rattle.plain_values.specs.declared.refusal.Code.TheVariants.{Mapping}
use Rattle.noted_refusals.specs.inner.Noted.{noting}
use Rattle.noted_refusals.proofs.Laws.{noted-more}
use Rattle.plain_values.specs.Refusal.{refused_there}
use Rattle.propagation_points.specs.Settings.{refusals_in}
use Rattle.error_flows.proofs.flows.path.Goals as goal

pub returns-clause-noted : goal.returns-clause-noted
returns-clause-noted c =
    let table = c.args.reading.now.types in
    let setting = c.args.setting.now in
    let start = refusals_in table setting c.args.start.now in
    let end = refusals_in table setting c.args.end.now in
    let mapping = refused_there Mapping c.args.mapping in
    c.note_at.ensures
    ∙ noted-more c.reached.new.reading.refusals c.reached-2.new.reading.refusals end mapping (c.in_ok-to.ensures.noted ∙ ap (λ types. noting c.reached.new.reading.refusals (refusals_in types setting c.args.end.now)) c.in_ok-from.ensures.kept)
    ∙ noted-more c.args.reading.now.refusals c.reached.new.reading.refusals start (end ++ mapping) c.in_ok-from.ensures.noted
