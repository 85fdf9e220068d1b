use Rattle.std.proofs.Common.{ℕ, ◌<◌, List}
use Rattle.fault_system.specs.Truth.{Has, member, set_of}
use Rattle.fault_system.specs.Systems.{applied}
use Rattle.target_orders.specs.inner.Bounds.{met_facts}
use Rattle.target_orders.proofs.lows.are_bounds.Given as goal

abbrev pub invariant-loop-fact : goal.invariant-loop-fact
invariant-loop-fact l =
    (n : ℕ) → n < l.fact → (set : List ℕ) → Has (member (applied l.system (set_of set) (met_facts l.places l.bounds set))) n → Has (met_facts l.places l.bounds set) n
