use Rattle.std.proofs.Common.{subst}
use Rattle.std.specs.Prelude.{IfErr, IfOk}
use Rattle.fault_system.specs.Systems.{System}
use Rattle.requirement_names.specs.inner.Named.{AreNamed}
use Rattle.requirement_names.specs.inner.Wrong.{IsFault}
use Rattle.requirement_names.proofs.resolving.resolved.Goals as goal

pub returns-clause-named : goal.returns-clause-named
returns-clause-named c = subst (λ (system : System). IfOk c.resolved_over.result (AreNamed system c.args.all.now)) c.in_ok-model.ensures c.resolved_over.ensures.named

pub returns-clause-fault : goal.returns-clause-fault
returns-clause-fault c = subst (λ (system : System). IfErr c.resolved_over.result (IsFault system c.args.all.now)) c.in_ok-model.ensures c.resolved_over.ensures.fault
