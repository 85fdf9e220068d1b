use Rattle.std.proofs.Common.{ℕ, ◌≡◌, ◌<◌, ◌||◌, ◌&&◌, map, take, length}
use Rattle.std.specs.List.{list_any}
use Rattle.fault_system.specs.Truth.{member, occurs_event, truth}
use Rattle.fault_system.specs.Rounds.{only}
use Rattle.system_review.proofs.single.+tried.Given as goal

abbrev pub invariant-mark_tried_of-loop-part : goal.invariant-mark_tried_of-loop-part
invariant-mark_tried_of-loop-part l = record {
  size : length l.marks ≡ length l.fn.marks;
  marks : (m : ℕ) → m < length l.fn.marks
      → member l.marks m ≡ (member l.fn.marks m || (list_any (λ part. part) (map (occurs_event m) (take l.part-index l.parts)) && truth (only m) (member l.facts) l.whole));
}
