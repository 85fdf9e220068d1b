use Rattle.std.proofs.Common.{◌∙◌}
use Rattle.fault_system.specs.declared.formula.EventInfo.{EventInfo}
use Rattle.derivations.proofs.Written.{named-at}
use Rattle.derivations.proofs.writing.event_name.Goals as goal

pub returns : goal.returns
returns c = c.event_name.ensures ∙ named-at (λ (event : EventInfo). event.name) c.args.system.now.events c.args.number
