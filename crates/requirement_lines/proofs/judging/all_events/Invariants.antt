use Rattle.std.proofs.Common.{ℕ, ◌≡◌, ◌<◌, length}
use Rattle.fault_system.specs.Truth.{Has, member}
use Rattle.requirement_lines.proofs.judging.all_events.Given as goal

abbrev pub invariant-loop-event : goal.invariant-loop-event
invariant-loop-event l = (length l.events ≡ l.count) × ((n : ℕ) → n < l.event → Has (member l.events) n)
