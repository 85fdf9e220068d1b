use Rattle.fault_system.specs.Truth.{member}
use Rattle.fault_system.proofs.Occurrences.{occurs_event-in_range, fact-in_range}
use Rattle.backward_slice.specs.inner.Reach.{IsReachedIn}
use Rattle.system_review.specs.Occurring.{IsUnreachedEvent}
use Rattle.system_review.proofs.Rising.{missing-as}
use Rattle.system_review.proofs.unreached.unreached_events.Goals as goal

pub returns : goal.returns
returns c =
    missing-as (IsReachedIn c.args.system.now c.args.from.now) (IsUnreachedEvent c.args.system.now c.args.from.now) (member c.in_ok-used.used) (member c.in_ok-found.found.events) c.events.result _ c.in_ok-unreached.unreached c.events.ensures.count c.in_ok-found.ensures.events
    (λ e low has none. (
      (c.in_ok-used.ensures e).0 has,
      (λ (target, among, (n, fact, depends, at, o)). none (n, fact, (target, among, depends), at, o)),
    ))
    (λ e (used, none). (
      occurs_event-in_range _ _ e used.1.formula (fact-in_range c.args.system.now c.events.ensures.system used.0 used.1 used.2) used.3,
      (c.in_ok-used.ensures e).1 used,
      (λ (n, fact, reached, at, o). none (reached.0, reached.1, (n, fact, reached.2, at, o))),
    ))
    c.in_ok-unreached.ensures
