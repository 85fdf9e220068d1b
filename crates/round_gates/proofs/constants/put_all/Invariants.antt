use Rattle.std.proofs.Common.{◌≡◌, ◌<◌, ℕ, length, true}
use Rattle.fault_system.specs.Truth.{member}
use Rattle.round_gates.proofs.constants.put_all.Given as goal

abbrev pub invariant-loop-event : goal.invariant-loop-event
invariant-loop-event l = record {
  size : length l.events ≡ length l.fn.events;
  all : (n : ℕ) → n < l.event → member l.events n ≡ true;
}
