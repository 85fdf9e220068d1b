use Rattle.std.proofs.Common.{◌++◌, Some, ap, ◌∙◌, sym, slice_get}
use Rattle.std.proofs.lemmas.Option.{slice_get_past, slice_get-get_or}
use Rattle.open_psa_writer.specs.Mef.{end_text, middle_text}
use Rattle.open_psa_writer.specs.inner.TreeMef.{events_text}
use Rattle.open_psa_writer.proofs.TreeLeft.{no-step, other-step}
use Rattle.open_psa_writer.proofs.tree_lines.put_other.Goals as goal

pub returns-in_ok-push_group-in-Some-clause-line : goal.returns-in_ok-push_group-in-Some-clause-line
returns-in_ok-push_group-in-Some-clause-line c = λ rates.
    let system = c.args.system.now in
    let tree = c.args.tree.now in
    let place = c.past_top-at.result in
    let gate = c.in-Some.gate.now in
    other-step system tree c.args.at place c.narrow.result gate (middle_text ++ (events_text system rates tree.events 0 ++ end_text)) c.past_top-at.ensures c.narrow.ensures
    (ap (λ gates. slice_get gates place) (sym c.items-gates.ensures.items)
    ∙ slice_get-get_or c.items-gates.result.now place gate c.in-Some.ensures.lookup.3.0
    ∙ ap Some (sym (c.in-Some.ensures.lookup.3.1 gate)))
    c.clear.ensures.items c.in_ok-push_group-in-Some.ensures

pub returns-in_ok-extend_from_slice-in-None-clause-line : goal.returns-in_ok-extend_from_slice-in-None-clause-line
returns-in_ok-extend_from_slice-in-None-clause-line c = λ rates.
    let system = c.args.system.now in
    let tree = c.args.tree.now in
    let place = c.past_top-at.result in
    no-step system tree c.args.at place middle_text (events_text system rates tree.events 0 ++ end_text) c.past_top-at.ensures
    (ap (λ gates. slice_get gates place) (sym c.items-gates.ensures.items) ∙ slice_get_past c.items-gates.result.now place c.in-None.ensures.lookup.3)
    c.clear.ensures.items c.in_ok-extend_from_slice-in-None.ensures.items
