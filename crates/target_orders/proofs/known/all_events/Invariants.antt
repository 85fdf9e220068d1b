use Rattle.std.proofs.Common.{ℕ, ◌≡◌, ◌<◌, length}
use Rattle.fault_system.specs.Truth.{Has, member}
use Rattle.target_orders.proofs.known.all_events.Given as goal

abbrev pub invariant-loop-event : goal.invariant-loop-event
invariant-loop-event l = (length l.events ≡ length l.system.events) × ((n : ℕ) → n < l.event → Has (member l.events) n)
