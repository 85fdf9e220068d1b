use Rattle.std.proofs.Common.{true, refl}
use Rattle.fault_system.specs.Truth.{member}
use Rattle.system_review.specs.Occurring.{IsUnusedEvent, IsUsedEvent}
use Rattle.system_review.proofs.Rising.{missing-as}
use Rattle.system_review.proofs.unreached.unused_events.Goals as goal

pub returns : goal.returns
returns c =
    missing-as (IsUsedEvent c.args.system.now) (IsUnusedEvent c.args.system.now) (λ _. true) (member c.in_ok-used.used) c.events.result _ c.in_ok-unused.unused c.events.ensures.count c.in_ok-used.ensures
    (λ e low has none. (low, none)) (λ e (low, none). (low, refl, none)) c.in_ok-unused.ensures
