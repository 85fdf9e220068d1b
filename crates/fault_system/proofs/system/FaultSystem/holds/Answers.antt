use Rattle.std.proofs.Common.{sym, ◌∙◌}
use Rattle.fault_system.specs.Truth.{member}
use Rattle.fault_system.proofs.HoldsLaws.{holds_of-exact, length-round}
use Rattle.fault_system.proofs.Marks.{same_marks}
use Rattle.fault_system.proofs.RoundLaws.{ever-holds}
use Rattle.fault_system.proofs.system.FaultSystem.holds.Goals as goal

pub returns-clause-exact : goal.returns-clause-exact
returns-clause-exact c n =
    let held = ever-holds c.args.self.now (member c.args.events.now) c.in_ok-rounds.rounds c.in_ok-rounds.ensures n in
    let mark = c.in_ok-timed.ensures.facts n in
    ((λ e. held.0 (sym mark ∙ e)), (λ h. mark ∙ held.1 h))

pub returns-clause-computed : goal.returns-clause-computed
returns-clause-computed c =
    let system = c.args.self.now in
    let events = member c.args.events.now in
    same_marks _ _ (c.in_ok-timed.ensures.size ∙ c.in_ok-rounds.ensures.count ∙ sym (length-round system events _))
    (λ n h. (holds_of-exact system events n).1 ((returns-clause-exact c n).0 h)) (λ n h. (returns-clause-exact c n).1 ((holds_of-exact system events n).0 h))
