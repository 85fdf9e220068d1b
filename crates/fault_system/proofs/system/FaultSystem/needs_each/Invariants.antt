use Rattle.std.proofs.Common.{◌≡◌, ℕ, drop, not}
use Rattle.std.specs.List.{list_all}
use Rattle.fault_system.specs.Truth.{member, set_of}
use Rattle.fault_system.specs.CutSets.{makes_hold}
use Rattle.fault_system.specs.inner.CutSets.{without}
use Rattle.fault_system.proofs.system.FaultSystem.needs_each.Given as goal

abbrev pub invariant-loop-event : goal.invariant-loop-event
invariant-loop-event l =
    ((n : ℕ) → member l.events n ≡ set_of l.set n)
    × (list_all (λ n. not (makes_hold l.self l.target (without (set_of l.set) n))) (drop l.event-index l.set) ≡ list_all (λ n. not (makes_hold l.self l.target (without (set_of l.set) n))) l.set)
