use Rattle.std.proofs.Common.{◌≡◌, ◌++◌, flat_map, option_copied, slice_get, ap, ◌∙◌}
use Rattle.noted_refusals.specs.inner.Noted.{noting}
use Rattle.used_sets.specs.Used.{set_fault}
use Rattle.used_sets.proofs.faults.note_item.Goals as goal

pub returns-clause-noted : goal.returns-clause-noted
returns-clause-noted g c =
    let item = c.args.item.now in
    let scopes = c.args.scopes.now in
    let written : c.add_sets.new.written ≡ g.T.HasSets.sets item.item = c.in_ok-add_sets.ensures ∙ (λ i. c.new-sets.ensures i ++ g.T.HasSets.sets (c.item.ensures i)) in
    let scope : option_copied c.scope_at.result ≡ slice_get scopes item.scope = c.scope_at.ensures ∙ ap (slice_get scopes) c.scope.ensures in
    c.in_ok-note_sets.ensures.noted ∙ (λ i. noting c.args.reading.now.refusals (flat_map (set_fault c.args.reading.now.types (scope i)) (written i)))
