use Rattle.std.proofs.Common.{sym}
use Rattle.fault_system.specs.Truth.{truth}
use Rattle.fault_system.specs.Rounds.{no_event}
use Rattle.fault_system.specs.declared.formula.FactInfo.{FactInfo}
use Rattle.fault_system.proofs.NumberSets.{member-past}
use Rattle.system_review.proofs.alone.is_true_at.Goals as goal

pub returns-in-None : goal.returns-in-None
returns-in-None g c =
    sym (member-past (λ (fact : FactInfo). truth no_event (g.S.Numbers.set c.args.facts.now) fact.formula) c.args.system.now.facts c.args.number (sym c.in-None.ensures))
