use Rattle.std.proofs.Common.{◌^◌, ◌≡◌}
use Rattle.dot_writer.specs.inner.DotText.{climbed}
use Rattle.dot_writer.proofs.parts.heads_of.Given as goal

abbrev pub invariant-loop-round : goal.invariant-loop-round
invariant-loop-round l = l.heads ≡ climbed l.usages (2 ^ l._round)
