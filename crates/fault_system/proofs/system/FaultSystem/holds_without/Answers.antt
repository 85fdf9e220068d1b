use Rattle.std.proofs.Common.{◌∙◌}
use Rattle.fault_system.proofs.CutSetLaws.{makes_hold-taken}
use Rattle.fault_system.proofs.system.FaultSystem.holds_without.Goals as goal

pub returns-clause-answer : goal.returns-clause-answer
returns-clause-answer c = c.in_ok-answer.ensures ∙ makes_hold-taken c.args.self.now c.args.target _ _ _ c.take.ensures
