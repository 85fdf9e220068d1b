use Rattle.std.proofs.Common.{ℕ, take}
use Rattle.fault_system.specs.Truth.{Has, member, set_of}
use Rattle.target_orders.proofs.marks.take_list.Given as goal

abbrev pub invariant-loop-number : goal.invariant-loop-number
invariant-loop-number l = (n : ℕ) → Has (member l.marks) n → Has (member l.fn.marks) n × (Has (set_of (take l.number-index l.numbers)) n → ⊥)
