use Rattle.std.proofs.Common.{ℕ, ◌<◌, subst}
use Rattle.fault_system.specs.Truth.{member}
use Rattle.fault_system.proofs.NumberSets.{member-in}
use Rattle.target_orders.proofs.Reached.{all-from_some, some-from_all}
use Rattle.target_orders.proofs.known.held_by_all.Goals as goal

pub returns : goal.returns
returns c n =
    let system = c.args.system.now in
    let all = c.in_ok-events.events in (
      (λ has. some-from_all system n (member all) (λ k here. subst (λ (count : ℕ). k < count) c.in_ok-events.ensures.size (member-in all k here)) ((c.in_ok-facts.ensures.exact n).0 has)),
      (λ some. (c.in_ok-facts.ensures.exact n).1 (all-from_some system n (member all) c.in_ok-events.ensures.all some)),
    )
