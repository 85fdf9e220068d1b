use Rattle.std.proofs.Common.{◌≡◌, ◌∙◌}
use Rattle.noted_refusals.specs.inner.Noted.{noting}
use Rattle.noted_refusals.proofs.Laws.{noted-four}
use Rattle.used_sets.specs.Sets.{composite_sets, event_sets, outgoing_sets, transition_sets}
use Rattle.used_sets.specs.Used.{items_refusals}
use Rattle.used_sets.proofs.faults.note_behavior.Goals as goal

pub returns-clause-noted : goal.returns-clause-noted
returns-clause-noted c =
    let table = c.args.reading.now.types in
    let scopes = c.args.scopes.now in
    let behavior = c.args.behavior.now in
    let one : c.note_items.new.reading.types ≡ table = c.in_ok-note_items.ensures.kept in
    let two : c.note_items-2.new.reading.types ≡ table = c.in_ok-note_items-2.ensures.kept ∙ one in
    let three : c.note_items-3.new.reading.types ≡ table = c.in_ok-note_items-3.ensures.kept ∙ two in
    noted-four c.args.reading.now.refusals c.note_items.new.reading.refusals c.note_items-2.new.reading.refusals (items_refusals event_sets table scopes behavior.events) (items_refusals transition_sets table scopes behavior.transitions)
    (c.in_ok-note_items.ensures.noted ∙ (λ i. noting c.args.reading.now.refusals (items_refusals event_sets table scopes (c.items-events.ensures.items i))))
    (c.in_ok-note_items-2.ensures.noted ∙ (λ i. noting c.note_items.new.reading.refusals (items_refusals transition_sets (one i) scopes (c.items-transitions.ensures.items i))))
    c.note_items-3.new.reading.refusals c.note_items-4.new.reading.refusals (items_refusals outgoing_sets table scopes behavior.outgoing) (items_refusals composite_sets table scopes behavior.composites)
    (c.in_ok-note_items-3.ensures.noted ∙ (λ i. noting c.note_items-2.new.reading.refusals (items_refusals outgoing_sets (two i) scopes (c.items-outgoing.ensures.items i))))
    (c.in_ok-note_items-4.ensures.noted ∙ (λ i. noting c.note_items-3.new.reading.refusals (items_refusals composite_sets (three i) scopes (c.items-composites.ensures.items i))))
