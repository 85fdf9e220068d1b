use Rattle.std.proofs.Common.{◌≡◌, ◌≤◌, ◌+◌, length, drop}
use Rattle.derivations.specs.inner.Reading.{line_place}
use Rattle.derivations.proofs.text.line_place.Given as goal

abbrev pub invariant-loop-more : goal.invariant-loop-more
invariant-loop-more l = record {
  within : l.at ≤ length l.bytes;
  place : l.at + line_place l.more (drop l.at l.bytes) ≡ line_place l.number l.bytes;
}

abbrev pub decreases-loop-more : goal.decreases-loop-more
decreases-loop-more l = l.more
