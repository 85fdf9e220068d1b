use Rattle.std.proofs.Common.{take}
use Rattle.std.specs.Prelude.{vec_capacity}
use Rattle.cutset_lister.specs.inner.Scanning.{AddsText}
use Rattle.cutset_lister.specs.SetText.{quoted_name}
use Rattle.std.specs.List.{flat_map}
use Rattle.cutset_lister.proofs.tokens.push_quoted_names.Given as goal

abbrev pub invariant-loop-event : goal.invariant-loop-event
invariant-loop-event l = AddsText (flat_map (quoted_name l.system) (take l.event-index l.events)) l.fn.to.items l.to.items (vec_capacity l.fn.to) (vec_capacity l.to)
