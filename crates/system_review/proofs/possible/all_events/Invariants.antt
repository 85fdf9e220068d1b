use Rattle.std.proofs.Common.{ℕ, ◌≡◌, ◌<◌, length}
use Rattle.fault_system.specs.Truth.{Has, member}
use Rattle.system_review.proofs.possible.all_events.Given as goal

abbrev pub invariant-loop-event : goal.invariant-loop-event
invariant-loop-event l = record {
  size : length l.events ≡ l.count;
  so_far : (e : ℕ) → e < l.event → Has (member l.events) e;
}
