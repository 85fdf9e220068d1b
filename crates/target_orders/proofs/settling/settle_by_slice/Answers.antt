use Rattle.std.proofs.Common.{ℕ, List, ◌⊎◌, arith, subst}
use Rattle.fault_system.specs.Truth.{Has, member, set_of}
use Rattle.target_orders.proofs.LargeLaws.{small-put, small-served}
use Rattle.target_orders.proofs.settling.settle_by_slice.Goals as goal

pub returns-in-Ok : goal.returns-in-Ok
returns-in-Ok c = record {
  large_are = c.requires.large_are;
  small_are = small-put c.args.system.now c.args.sizes.now.small c.put_list.new.marks (set_of c.in-Ok.part.facts)
      (subst (λ (ns : List ℕ). (n : ℕ) → Has (member c.put_list.new.marks) n → Has (member c.args.sizes.now.small) n ⊎ Has (set_of ns) n) c.items.ensures.items c.put_list.ensures)
      c.requires.small_are
      (small-served c.args.system.now c.facts.ensures.system c.args.fact c.in-Ok.part (omega (arith, c.if-fact-facts.false, c.facts.ensures.count)) c.in-Ok.ensures);
}
