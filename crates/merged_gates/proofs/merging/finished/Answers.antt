use Rattle.std.proofs.Common.{ap, ◌∙◌, ℕ}
use Rattle.round_gates.specs.Trees.{events_in}
use Rattle.merged_gates.proofs.Tested.{tested-moved}
use Rattle.merged_gates.proofs.merging.finished.Goals as goal

pub returns-then-tested : goal.returns-then-tested
returns-then-tested c = record {
  from = c.items-numbers.result.now;
  tested = tested-moved _ _ _ _ _ _ _ c.items-before.ensures.items (c.in_ok-tested.ensures c.if-tested.true);
  events = c.in_ok-events.ensures ∙ ap (λ (n : ℕ). events_in n c.items-kept.result.now) c.events.ensures.count ∙ ap (events_in _) c.items-kept.ensures.items;
}
