use Rattle.std.specs.Prelude.{option_to_list}
use Rattle.model_phases.proofs.ToldLaws.{stop-told}
use Rattle.phases.specs.Phases.{tests}
use Rattle.phases.specs.inner.Stopped.{status_of}
use Rattle.error_models.specs.Refused.{machines_refusal}
use Rattle.model_phases.specs.Tests.{IsIt}
use Rattle.model_phases.proofs.Tested.{one_stops, tests_stop}
use Rattle.model_phases.proofs.kinds.machines_in.Goals as goal

pub returns-in_err-machines_of-clause-tested : goal.returns-in_err-machines_of-clause-tested
returns-in_err-machines_of-clause-tested c =
    let one = machines_refusal c.args.instance.now.packages c.args.instance.now.kinds in
    tests_stop (tests (IsIt one)) (status_of c.in_err-machines_of.field-0.0) c.from_residual.result c.from_residual.ensures.1 (one_stops one c.in_err-machines_of.field-0.0 c.in_err-machines_of.ensures.refused)

pub returns-in_err-machines_of-clause-told : goal.returns-in_err-machines_of-clause-told
returns-in_err-machines_of-clause-told c =
    stop-told (option_to_list (machines_refusal c.args.instance.now.packages c.args.instance.now.kinds)) c.machines_of.new.refusals c.in_err-machines_of.field-0.0 c.from_residual.result c.from_residual.ensures.1 c.in_err-machines_of.ensures.told
