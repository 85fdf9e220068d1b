use Rattle.std.proofs.Common.{◌≡◌, ◌≤◌, length, map}
use Rattle.std.specs.List.{range_with_len}
use Rattle.dot_writer.specs.inner.DotText.{above_at}
use Rattle.dot_writer.proofs.parts.all_above.Given as goal

abbrev pub invariant-loop-position : goal.invariant-loop-position
invariant-loop-position l = (l.position ≤ length l.usages) × (l.all ≡ map (above_at l.usages) (range_with_len 0 l.position))
