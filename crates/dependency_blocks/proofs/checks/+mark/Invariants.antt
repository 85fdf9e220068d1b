use Rattle.std.proofs.Common.{ℕ, ◌≡◌, ◌⊎◌, true, map, take, length}
use Rattle.std.specs.List.{list_any}
use Rattle.fault_system.specs.Truth.{Has, member, occurs}
use Rattle.dependency_blocks.specs.Blocks.{number_of}
use Rattle.dependency_blocks.proofs.checks.+mark.Given as goal

abbrev pub invariant-mark_parts-loop-part : goal.invariant-mark_parts-loop-part
invariant-mark_parts-loop-part l = record {
  size : length l.marks ≡ length l.fn.marks;
  marks : (m : ℕ) → Has (member l.marks) m → Has (member l.fn.marks) m ⊎ ((list_any (λ part. part) (map (occurs m) (take l.part-index l.parts)) ≡ true) × (number_of l.numbers m ≡ l.block));
}
