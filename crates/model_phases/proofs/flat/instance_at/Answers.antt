use Rattle.model_phases.proofs.ToldLaws.{stop-told}
use Rattle.phases.specs.Phases.{tests}
use Rattle.phases.specs.inner.Stopped.{status_of}
use Rattle.instantiator.specs.Refused.{instance_group, instance_refusal}
use Rattle.model_phases.specs.Tests.{IsIt}
use Rattle.model_phases.proofs.Tested.{one_stops, tests_stop}
use Rattle.model_phases.proofs.flat.instance_at.Goals as goal

pub returns-in_err-of-clause-tested : goal.returns-in_err-of-clause-tested
returns-in_err-of-clause-tested c =
    let one = instance_refusal c.args.index.now c.args.root in
    tests_stop (tests (IsIt one)) (status_of c.in_err-of.field-0.0) c.from_residual.result c.from_residual.ensures.1 (one_stops one c.in_err-of.field-0.0 c.in_err-of.ensures.refused)

pub returns-in_err-of-clause-told : goal.returns-in_err-of-clause-told
returns-in_err-of-clause-told c =
    stop-told (instance_group c.args.index.now c.args.root) c.of.new.refusals c.in_err-of.field-0.0 c.from_residual.result c.from_residual.ensures.1 c.in_err-of.ensures.told
