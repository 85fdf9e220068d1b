use Rattle.std.proofs.Common.{◌-◌, length}
use Rattle.round_gates.specs.inner.Reached.{AreReachedFrom}
use Rattle.round_gates.proofs.reaching.reached.Given as goal

abbrev pub invariant-loop-done : goal.invariant-loop-done
invariant-loop-done l = AreReachedFrom l.lines l.fn.top (length l.lines - l.done) l.keys.keys
