use Rattle.std.proofs.Common.{◌≡◌, ap, ◌∙◌}
use Rattle.noted_refusals.specs.inner.Noted.{noting}
use Rattle.noted_refusals.proofs.Laws.{noted-three}
use Rattle.error_behavior.specs.Behavior.{clause_event_refusals, clause_transition_refusals, machine_refusals}
use Rattle.error_behavior.proofs.behavior.steps_of.Goals as goal

pub returns-clause-noted : goal.returns-clause-noted
returns-clause-noted c =
    let table = c.args.reading.now.types in
    let words = c.args.words.now in
    let texts = c.args.texts.now in
    let behavior = c.args.effective.now.behavior in
    let same : c.profile-profile.result ≡ table.profile = c.profile-profile.ensures ∙ ap (λ types. types.profile) c.in_ok-steps.ensures.kept in
    noted-three c.args.reading.now.refusals c.machine_steps.new.reading.refusals c.note_clause_events.new.refusals (machine_refusals table words texts c.args.machine.now) (clause_event_refusals table.profile behavior.events) c.in_ok-steps.ensures.noted
    (c.note_clause_events.ensures ∙ (λ i. noting c.machine_steps.new.reading.refusals (clause_event_refusals (same i) (c.items.ensures.items i))))
    c.add_clause_steps.new.reading.refusals (clause_transition_refusals table words texts behavior.transitions)
    (c.in_ok-add_clause_steps.ensures.noted ∙ (λ i. noting c.note_clause_events.new.refusals (clause_transition_refusals (c.in_ok-steps.ensures.kept i) words texts (c.items-transitions.ensures.items i))))
