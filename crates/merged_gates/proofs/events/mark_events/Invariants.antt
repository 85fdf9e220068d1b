use Rattle.std.proofs.Common.{◌≡◌, ◌<◌, ◌||◌, ℕ, length, take}
use Rattle.std.specs.List.{list_any}
use Rattle.fault_system.specs.Truth.{member}
use Rattle.round_gates.specs.Trees.{is_event}
use Rattle.merged_gates.proofs.events.mark_events.Given as goal

abbrev pub invariant-loop-input : goal.invariant-loop-input
invariant-loop-input l = record {
  size : length l.marks ≡ length l.fn.marks;
  marks : (n : ℕ) → n < length l.fn.marks → member l.marks n ≡ member l.fn.marks n || list_any (is_event n) (take l.input-index l.inputs);
}
