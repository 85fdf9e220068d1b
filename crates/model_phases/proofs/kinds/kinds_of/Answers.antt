use Rattle.std.proofs.Common.{List, option_to_list, subst}
use Rattle.phases.specs.inner.Meets.{IsMemory, StopsBut}
use Rattle.phases.specs.Phases.{Passes}
use Rattle.phases.proofs.Steps.{◌beyond◌, ◌passes◌}
use Rattle.error_libraries.specs.Libraries.{Table}
use Rattle.plain_values.specs.declared.refusal.Refusal.{Refusal}
use Rattle.plain_values.specs.declared.refusal.Stop.TheVariants.{Refused}
use Rattle.noted_refusals.specs.Groups.{or_group}
use Rattle.noted_refusals.proofs.Laws.{told-here, told-next}
use Rattle.error_models.specs.Refused.{all_set_refusals, machines_refusal, models_group}
use Rattle.model_phases.specs.Phases.{content_tests, kind_tests}
use Rattle.model_phases.specs.Groups.{content_group, kinds_group, types_group}
use Rattle.model_phases.proofs.GroupLaws.{machines-clear, types-clear, types-told}
use Rattle.model_phases.proofs.ToldLaws.{First, end-told}
use Rattle.model_phases.proofs.Tested.{tests_stop}
use Rattle.model_phases.proofs.kinds.kinds_of.Goals as goal

pub returns-in_err-models-clause-tested : goal.returns-in_err-models-clause-tested
returns-in_err-models-clause-tested c =
    let kinds = c.args.instance.now.kinds in
    let status = c.in_err-models.field-0.0 in
    tests_stop (kind_tests c.args.profile c.args.instance.now) status c.from_residual-in_err-models.result c.from_residual-in_err-models.ensures.1
    (c.in_ok-machines.ensures.tested beyond c.in_ok-reading.ensures.tested
    beyond subst (λ (types : Table). StopsBut IsMemory (content_tests types kinds) status) c.in_ok-reading.ensures.types c.in_err-models.ensures.tested)

pub returns-clause-tested : goal.returns-clause-tested
returns-clause-tested c =
    let kinds = c.args.instance.now.kinds in
    c.in_ok-machines.ensures.tested passes c.in_ok-reading.ensures.tested
    passes subst (λ (types : Table). Passes (content_tests types kinds) (tt {0})) c.in_ok-reading.ensures.types c.in_ok-models.ensures.tested

pub returns-in_err-machines-clause-told : goal.returns-in_err-machines-clause-told
returns-in_err-machines-clause-told c =
    let instance = c.args.instance.now in
    let machines = option_to_list (machines_refusal instance.packages instance.kinds) in
    let rest = or_group (types_group instance.packages) (content_group c.args.profile instance) in
    let noted = c.machines_in.new.refusals in
    end-told (First machines noted) (First (kinds_group c.args.profile instance) noted) c.in_err-machines.field-0.0 c.from_residual.result (λ refusal told. told-here machines rest noted (Refused refusal) told) c.from_residual.ensures.1 c.in_err-machines.ensures.told

pub returns-in_err-reading-clause-told : goal.returns-in_err-reading-clause-told
returns-in_err-reading-clause-told c =
    let instance = c.args.instance.now in
    let machines = option_to_list (machines_refusal instance.packages instance.kinds) in
    let types = types_group instance.packages in
    let content = content_group c.args.profile instance in
    let noted = c.reading_of.new.refusals in
    let end = c.in_err-reading.field-0.0 in
    end-told (First types noted) (First (kinds_group c.args.profile instance) noted) end c.from_residual-in_err-reading.result
    (λ refusal told. told-next machines (or_group types content) noted (Refused refusal) (machines-clear instance c.in_ok-machines.ensures.tested) (told-here types content noted (Refused refusal) told))
    c.from_residual-in_err-reading.ensures.1 (types-told instance.packages noted end c.in_err-reading.ensures.tested c.in_err-reading.ensures.told)

pub returns-in_err-models-clause-told : goal.returns-in_err-models-clause-told
returns-in_err-models-clause-told c =
    let instance = c.args.instance.now in
    let machines = option_to_list (machines_refusal instance.packages instance.kinds) in
    let types = types_group instance.packages in
    let content = content_group c.args.profile instance in
    let noted = c.noted_models.new.refusals in
    let group_in : Table → List Refusal = λ table. or_group (all_set_refusals table instance.kinds) (models_group table instance.kinds) in
    end-told (First (group_in c.in_ok-reading.reading.types) noted) (First (kinds_group c.args.profile instance) noted) c.in_err-models.field-0.0 c.from_residual-in_err-models.result
    (λ refusal told. told-next machines (or_group types content) noted (Refused refusal) (machines-clear instance c.in_ok-machines.ensures.tested)
    (told-next types content noted (Refused refusal) (types-clear instance.packages c.in_ok-reading.ensures.tested) (subst (λ (table : Table). First (group_in table) noted refusal) c.in_ok-reading.ensures.types told)))
    c.from_residual-in_err-models.ensures.1 c.in_err-models.ensures.told
