use Rattle.std.proofs.Common.{◌≡◌, ◌<◌, false, length, ⊎_elim, ap, arith, ◌∙◌}
use Rattle.std.proofs.lemmas.List.{length-replicate}
use Rattle.fault_system.specs.Truth.{member}
use Rattle.fault_system.specs.Systems.{holds_of}
use Rattle.fault_system.specs.Rounds.{no_event}
use Rattle.system_review.proofs.Beginning.{begins-single, single-found}
use Rattle.system_review.proofs.Occurs.{fresh-not}
use Rattle.system_review.proofs.single.single_events.Goals as goal

pub mark_singles-requires : goal.mark_singles-requires
mark_singles-requires c = c.in_ok-facts.ensures.whole

pub returns : goal.returns
returns c e =
    let system = c.args.system.now in
    let facts = c.in_ok-facts.facts in
    let are : facts ≡ holds_of system no_event = c.in_ok-facts.ensures.whole in
    let long = ap length c.in_ok-events.ensures in (
      (λ h. ⊎_elim (λ old. absurd (fresh-not c.in_ok-events.events c.events.result c.in_ok-events.ensures e old)) (begins-single system facts are e) (c.mark_singles.ensures.right e h)),
      single-found system facts are c.events.ensures.system (member c.mark_singles.new.marks)
          (λ n event fact at low none makes. c.mark_singles.ensures.done n event fact at (omega (arith, low, c.events.ensures.count, long, length-replicate c.events.result false)) none makes) e,
    )
