use Rattle.std.proofs.Common.{Bool, List, [], sym, subst, ◌∙◌}
use Rattle.std.proofs.lemmas.Bool.{false≢true}
use Rattle.fault_system.specs.Truth.{Has, member, set_of}
use Rattle.fault_system.proofs.CutSetLaws.{Holds-grows}
use Rattle.fault_system.proofs.NumberSets.{member-replicate}
use Rattle.target_orders.proofs.known.held_by_none.Goals as goal

pub returns : goal.returns
returns c n =
    let system = c.args.system.now in
    let none = member c.in_ok-events.events in (
      (λ has. (tt, Holds-grows system n none (set_of []) (λ k here. absurd (false≢true (sym (member-replicate _ k) ∙ subst (λ (bs : List Bool). Has (member bs) k) c.in_ok-events.ensures here))) n ((c.in_ok-facts.ensures.exact n).0 has))),
      (λ cut. (c.in_ok-facts.ensures.exact n).1 (Holds-grows system n (set_of []) none (λ k here. absurd (false≢true here)) n cut.1)),
    )
