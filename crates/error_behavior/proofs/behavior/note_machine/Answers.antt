use Rattle.std.proofs.Common.{flat_map, ap, ◌∙◌}
use Rattle.noted_refusals.specs.inner.Noted.{noting}
use Rattle.plain_values.specs.declared.refusal.Code.TheVariants.{MachineExtends, Mapping}
use Rattle.plain_values.specs.Refusal.{refused_there}
use Rattle.noted_refusals.proofs.Laws.{noted-three}
use Rattle.error_machines.specs.States.{event_refusals}
use Rattle.error_behavior.proofs.behavior.note_machine.Goals as goal

pub returns : goal.returns
returns c =
    let decl = c.args.decl.now in
    noted-three c.args.refusals.now c.note_at.new.self c.note_at-2.new.self (refused_there MachineExtends decl.extends) (refused_there Mapping decl.transforms) c.note_at.ensures c.note_at-2.ensures
    c.note_events.new.refusals (flat_map (event_refusals c.args.profile) decl.events) (c.note_events.ensures ∙ ap (λ events. noting c.note_at-2.new.self (flat_map (event_refusals c.args.profile) events)) c.items.ensures.items)
