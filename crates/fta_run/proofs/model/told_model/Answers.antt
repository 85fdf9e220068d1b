use Rattle.std.proofs.Common.{[], ◌∷◌, inr, refl}
use Rattle.noted_refusals.specs.Groups.{or_group}
use Rattle.phases.proofs.Steps.{ends, exits, meets_later}
use Rattle.phases.specs.Phases.{Passes}
use Rattle.phases.specs.inner.Meets.{IsMemory}
use Rattle.model_phases.proofs.ToldLaws.{FirstOf, answer-told, end-told}
use Rattle.fta_run.specs.Due.{made_of_texts, made_of_units, units_of}
use Rattle.fta_run.specs.Groups.{units_group}
use Rattle.fta_run.specs.inner.Told.{ListsFiles}
use Rattle.fta_run.proofs.Refusals.{unread_told}
use Rattle.fta_run.proofs.model.told_model.Goals as goal

pub returns-in_err-files-clause-made : goal.returns-in_err-files-clause-made
returns-in_err-files-clause-made g c =
    exits IsMemory (λ model. model) (made_of_texts g.M.FromAssembly.phase c.args.profile c.args.root.now c.args.texts.now) c.in_err-files.field-0.0 c.from_residual.result c.from_residual.ensures.1 (ends c.in_err-files.ensures.units)

pub returns-in_err-files-clause-told : goal.returns-in_err-files-clause-told
returns-in_err-files-clause-told g c =
    let units = units_of c.args.texts.now in
    let noted = c.told_units.new.refusals in
    let end = c.in_err-files.field-0.0 in
    let told = unread_told units c.args.profile c.args.root.now noted end c.in_err-files.ensures.units c.in_err-files.ensures.told in
    end-told (ListsFiles units c.args.profile c.args.root.now noted) (ListsFiles units c.args.profile c.args.root.now noted) end c.from_residual.result (λ refusal its. its) c.from_residual.ensures.1 told

pub returns-clause-made : goal.returns-clause-made
returns-clause-made g c = meets_later IsMemory (λ model. model) (units_of c.args.texts.now) (made_of_units g.M.FromAssembly.phase c.args.profile c.args.root.now) c.in_ok-files.files c.model_of_units.result (λ s memory. memory) c.in_ok-files.ensures.units c.model_of_units.ensures.made

pub returns-clause-told : goal.returns-clause-told
returns-clause-told g c =
    let units = units_of c.args.texts.now in
    let root = c.args.root.now in
    let files = c.in_ok-files.files in
    let noted = c.model_of_units.new.refusals in
    answer-told (FirstOf (units_group c.args.profile root files) noted) (ListsFiles units c.args.profile root noted) c.model_of_units.result
    (λ refusal told. (or_group (units_group c.args.profile root files) (refusal ∷ []), inr (files, c.in_ok-files.ensures.units, refl), told.1)) c.model_of_units.ensures.told
