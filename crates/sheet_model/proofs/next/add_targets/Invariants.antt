use Rattle.std.proofs.Common.{take}
use Rattle.sheet_model.specs.inner.Felt.{AddsTargets}
use Rattle.sheet_model.proofs.next.add_targets.Given as goal

abbrev pub invariant-loop-link : goal.invariant-loop-link
invariant-loop-link l = AddsTargets (take l.link-index l.links) l.initial.lists l.lists
