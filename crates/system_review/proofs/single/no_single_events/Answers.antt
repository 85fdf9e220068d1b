use Rattle.fault_system.specs.Truth.{member}
use Rattle.fault_system.proofs.Occurrences.{occurs_event-in_range, fact-in_range}
use Rattle.system_review.specs.Single.{IsNoSingleEvent, IsSingleEvent}
use Rattle.system_review.proofs.Rising.{missing-as}
use Rattle.system_review.proofs.single.no_single_events.Goals as goal

pub returns : goal.returns
returns c =
    missing-as (IsSingleEvent c.args.system.now) (IsNoSingleEvent c.args.system.now) (member c.in_ok-used.used) (member c.in_ok-single.single) c.events.result _ c.in_ok-others.others c.events.ensures.count c.in_ok-single.ensures
    (λ e low has none. ((c.in_ok-used.ensures e).0 has, none))
    (λ e (used, none). (
      occurs_event-in_range _ _ e used.1.formula (fact-in_range c.args.system.now c.events.ensures.system used.0 used.1 used.2) used.3,
      (c.in_ok-used.ensures e).1 used,
      none,
    ))
    c.in_ok-others.ensures
