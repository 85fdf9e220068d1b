use Rattle.std.proofs.Common.{sym, ◌∙◌}
use Rattle.rate_keys.specs.Keys.{names_event}
use Rattle.rate_keys.proofs.NamesLaws.{any-at}
use Rattle.rate_keys.proofs.names.EventNames.+condition.Goals as goal

pub name_event-returns-then-names_event : goal.name_event-returns-then-names_event
name_event-returns-then-names_event t c = sym (any-at (names_event c.args.self.now) c.args.parts.now c.loop-part.part-index c.part-item.result c.loop-part-test.true c.part-item.is (sym c.names_event.ensures ∙ c.if-names_event.true))
