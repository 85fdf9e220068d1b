use Rattle.std.proofs.Common.{ℕ, ◌≡◌, ◌≤◌, true, map, take}
use Rattle.std.specs.List.{list_any}
use Rattle.fault_system.specs.Truth.{occurs}
use Rattle.dependency_blocks.specs.Blocks.{number_of}
use Rattle.dependency_blocks.proofs.checks.+below.Given as goal

abbrev pub invariant-parts_are_below-loop-part : goal.invariant-parts_are_below-loop-part
invariant-parts_are_below-loop-part l =
    (m : ℕ) → list_any (λ part. part) (map (occurs m) (take l.part-index l.parts)) ≡ true → number_of l.numbers m ≤ l.bound
