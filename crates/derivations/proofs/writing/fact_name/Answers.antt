use Rattle.std.proofs.Common.{◌∙◌}
use Rattle.fault_system.specs.declared.formula.FactInfo.{FactInfo}
use Rattle.derivations.proofs.Written.{named-at}
use Rattle.derivations.proofs.writing.fact_name.Goals as goal

pub returns : goal.returns
returns c = c.fact_name.ensures ∙ named-at (λ (fact : FactInfo). fact.name) c.args.system.now.facts c.args.number
