use Rattle.std.proofs.Common.{◌≡◌, ap, ◌∙◌}
use Rattle.fault_system.specs.Truth.{member}
use Rattle.fault_system.specs.Systems.{holds_of}
use Rattle.fault_system.specs.Rounds.{no_event}
use Rattle.fault_system.proofs.NumberSets.{same_set}
use Rattle.system_review.proofs.More.{always-exact}
use Rattle.system_review.proofs.Occurs.{fresh-none}
use Rattle.system_review.proofs.possible.always_facts.Goals as goal

pub returns-clause-whole : goal.returns-clause-whole
returns-clause-whole c =
    let fresh : member c.in_ok-events.events ≡ no_event = same_set (fresh-none c.in_ok-events.events c.events.result c.in_ok-events.ensures) in
    c.in_ok-facts.ensures.computed ∙ ap (holds_of c.args.system.now) fresh

pub returns-clause-exact : goal.returns-clause-exact
returns-clause-exact c n = always-exact c.args.system.now c.in_ok-facts.facts (returns-clause-whole c) n

pub returns-clause-computed : goal.returns-clause-computed
returns-clause-computed c n = ap (λ facts. member facts n) (returns-clause-whole c)
