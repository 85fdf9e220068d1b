use Rattle.std.proofs.Common.{take}
use Rattle.std.specs.Prelude.{vec_capacity}
use Rattle.cutset_lister.specs.inner.Scanning.{AddsText, names_text}
use Rattle.cutset_lister.proofs.tokens.push_names.Given as goal

abbrev pub invariant-loop-event : goal.invariant-loop-event
invariant-loop-event l = AddsText (names_text l.system (take l.event-index l.events)) l.fn.to.items l.to.items (vec_capacity l.fn.to) (vec_capacity l.to)
