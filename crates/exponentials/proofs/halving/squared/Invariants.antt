use Rattle.std.proofs.Common.{ℕ, ◌≤◌, ◌^◌}
use Rattle.exponentials.specs.inner.Spans.{IsAbove, IsBelow}
use Rattle.exponentials.proofs.halving.squared.Given as goal

abbrev pub invariant-loop-time : goal.invariant-loop-time
invariant-loop-time l =
    record {
      low : (n d : ℕ) → n ≤ d → IsAbove l.whole n d l.fn.number → IsAbove l.whole (n ^ (2 ^ l._time)) (d ^ (2 ^ l._time)) l.power;
      high : (n d : ℕ) → n ≤ d → IsBelow l.whole n d l.fn.number → IsBelow l.whole (n ^ (2 ^ l._time)) (d ^ (2 ^ l._time)) l.power;
    }
