use Rattle.std.proofs.Common.{ℕ, ◌≡◌, ◌<◌, ◌||◌, false, map, take, length}
use Rattle.std.specs.List.{list_any}
use Rattle.fault_system.specs.Truth.{member, truth}
use Rattle.fault_system.specs.Rounds.{no_event, only}
use Rattle.system_review.proofs.single.+singles.Given as goal

abbrev pub invariant-mark_single_of-loop-part : goal.invariant-mark_single_of-loop-part
invariant-mark_single_of-loop-part l = record {
  size : length l.marks ≡ length l.fn.marks;
  marks : list_any (λ part. part) (map (truth no_event (member l.facts)) l.parts) ≡ false → (m : ℕ) → m < length l.fn.marks
      → member l.marks m ≡ (member l.fn.marks m || list_any (λ part. part) (map (truth (only m) (member l.facts)) (take l.part-index l.parts)));
}
