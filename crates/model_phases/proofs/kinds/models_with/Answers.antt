use Rattle.std.proofs.Common.{subst}
use Rattle.phases.specs.inner.Stopped.{status_of}
use Rattle.phases.proofs.Steps.{◌beyond◌}
use Rattle.plain_values.specs.inner.Stops.{StopsAt}
use Rattle.error_libraries.specs.Libraries.{Table}
use Rattle.noted_refusals.specs.Groups.{or_group}
use Rattle.noted_refusals.specs.inner.Noted.{TellsFirst}
use Rattle.noted_refusals.proofs.Laws.{told-here, told-least, told-next}
use Rattle.instantiator.proofs.KindLaws.{refused-stops}
use Rattle.error_models.specs.Refused.{all_set_refusals, models_group, models_refusal}
use Rattle.model_phases.specs.Phases.{content_tests}
use Rattle.model_phases.proofs.Tested.{empty_passes, one_stops, tests_stop}
use Rattle.model_phases.proofs.ToldLaws.{stop-told}
use Rattle.model_phases.proofs.kinds.models_with.Goals as goal

pub returns-in_err-models_of-clause-tested : goal.returns-in_err-models_of-clause-tested
returns-in_err-models_of-clause-tested c =
    let types = c.args.reading.now.types in
    let kinds = c.args.instance.now.kinds in
    let stop = c.in_err-models_of.field-0.0 in
    tests_stop (content_tests types kinds) (status_of stop) c.from_residual-in_err-models_of.result c.from_residual-in_err-models_of.ensures.1
    (empty_passes (all_set_refusals types kinds) c.in_ok-test_sets.ensures.accepted
    beyond one_stops (models_refusal types kinds) stop (subst (λ (table : Table). StopsAt (models_refusal table kinds) stop) c.in_ok-test_sets.ensures.kept c.in_err-models_of.ensures.refused))

pub returns-in_err-test_sets-clause-told : goal.returns-in_err-test_sets-clause-told
returns-in_err-test_sets-clause-told c =
    let types = c.args.reading.now.types in
    let kinds = c.args.instance.now.kinds in
    let stop = c.in_err-test_sets.field-0.0 in
    let noted = c.test_sets.new.reading.refusals in
    let sets = all_set_refusals types kinds in
    stop-told (or_group sets (models_group types kinds)) noted stop c.from_residual.result c.from_residual.ensures.1
    (told-here sets (models_group types kinds) noted stop (told-least sets noted stop (refused-stops sets stop c.in_err-test_sets.ensures.refused) c.in_err-test_sets.ensures.told))

pub returns-in_err-models_of-clause-told : goal.returns-in_err-models_of-clause-told
returns-in_err-models_of-clause-told c =
    let types = c.args.reading.now.types in
    let kinds = c.args.instance.now.kinds in
    let stop = c.in_err-models_of.field-0.0 in
    let noted = c.models_of.new.reading.refusals in
    let sets = all_set_refusals types kinds in
    stop-told (or_group sets (models_group types kinds)) noted stop c.from_residual-in_err-models_of.result c.from_residual-in_err-models_of.ensures.1
    (told-next sets (models_group types kinds) noted stop c.in_ok-test_sets.ensures.accepted
    (subst (λ (table : Table). TellsFirst (models_group table kinds) noted stop) c.in_ok-test_sets.ensures.kept c.in_err-models_of.ensures.told))
