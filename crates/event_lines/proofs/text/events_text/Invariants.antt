use Rattle.std.proofs.Common.{◌≡◌}
use Rattle.std.specs.List.{flat_map}
use Rattle.plain_values.specs.Numbered.{numbers_below}
use Rattle.event_lines.specs.Text.{event_line}
use Rattle.event_lines.proofs.text.events_text.Given as goal

abbrev pub invariant-loop-event : goal.invariant-loop-event
invariant-loop-event l = l.text.items ≡ flat_map (event_line l.names l.model) (numbers_below l.event)
