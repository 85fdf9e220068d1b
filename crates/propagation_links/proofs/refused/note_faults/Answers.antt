use Rattle.std.proofs.Common.{◌++◌, true, flat_map, ap, ◌∙◌}
use Rattle.plain_values.specs.declared.refusal.Code.TheVariants.{ConnectionError}
use Rattle.noted_refusals.specs.inner.Noted.{noting}
use Rattle.noted_refusals.proofs.Laws.{noted-more}
use Rattle.plain_values.specs.Refusal.{refused_so}
use Rattle.propagation_links.specs.Refused.{connection_refusals, path_refusals}
use Rattle.propagation_links.proofs.refused.note_faults.Goals as goal

pub returns : goal.returns
returns c =
    let effective = c.args.effective.now in
    let connections = flat_map (connection_refusals c.args.pointed.now c.args.number) effective.members.connections in
    let paths = flat_map (path_refusals c.args.pointed.now c.args.number) effective.propagations.user_paths in
    let blocks = flat_map (refused_so true ConnectionError) effective.others.connection_errors in
    let first = c.note_connections.ensures ∙ ap (λ items. noting c.args.refusals.now (flat_map (connection_refusals c.args.pointed.now c.args.number) items)) c.items.ensures.items in
    let second = c.note_paths.ensures ∙ ap (λ items. noting c.note_connections.new.refusals (flat_map (path_refusals c.args.pointed.now c.args.number) items)) c.items-2.ensures.items in
    let third = c.note_connection_errors.ensures ∙ ap (λ spots. noting c.note_paths.new.refusals (flat_map (refused_so true ConnectionError) spots)) c.items-3.ensures.items in
    third ∙ noted-more c.note_connections.new.refusals c.note_paths.new.refusals paths blocks second ∙ noted-more c.args.refusals.now c.note_connections.new.refusals connections (paths ++ blocks) first
