use Rattle.std.proofs.Common.{◌++◌, sym, ◌∙◌}
use Rattle.event_lines.specs.Text.{event_line}
use Rattle.event_lines.proofs.Lines.{lines_more}
use Rattle.event_lines.proofs.text.events_text.Goals as goal

pub loop-event-preserved : goal.loop-event-preserved
loop-event-preserved c =
    let line = event_line c.args.names.now c.args.model.now in
    c.in_ok-push_line.ensures ∙ (λ i. c.loop-event.invariant i ++ line c.loop-event.event) ∙ sym (lines_more line c.loop-event.event)
