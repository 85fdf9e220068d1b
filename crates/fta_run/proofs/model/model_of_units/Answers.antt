use Rattle.std.proofs.Common.{◌≡◌, List, [], ◌∷◌, refl, sym, ap, subst, ◌∙◌}
use Rattle.aadl_syntax.specs.declared.core_model.PackageUnit.{PackageUnit}
use Rattle.aadl_syntax.specs.declared.core_model.Unit.{Unit as FileUnit}
use Rattle.plain_values.specs.declared.refusal.Stop.TheVariants.{Refused}
use Rattle.noted_refusals.specs.Groups.{or_group}
use Rattle.noted_refusals.proofs.Laws.{told-here, told-next}
use Rattle.phases.proofs.Steps.{◌beyond◌, ends, exits, not_computed}
use Rattle.phases.specs.inner.Stopped.{status_of}
use Rattle.package_index.specs.Lookup.{packages_of}
use Rattle.package_index.specs.Duplicates.{duplicates}
use Rattle.model_phases.specs.Groups.{root_group}
use Rattle.model_phases.proofs.ToldLaws.{First, FirstOf, answer-told, end-told, stop-told}
use Rattle.fta_run.specs.Due.{made_of_units}
use Rattle.fta_run.specs.Groups.{named_group, units_group}
use Rattle.fta_run.specs.Model.{root_named}
use Rattle.fta_run.proofs.Models.{duplicates_told, index_stop, model_in, no_duplicate, none_again, root_is, root_stop}
use Rattle.fta_run.proofs.model.model_of_units.Goals as goal

pub returns-in_err-index-clause-made : goal.returns-in_err-index-clause-made
returns-in_err-index-clause-made g c =
    exits _ _ (made_of_units g.M.FromAssembly.phase c.args.profile c.args.root.now c.args.files.now) (status_of c.in_err-index.field-0.0) c.from_residual.result c.from_residual.ensures.1
    (index_stop g.M.FromAssembly.phase c.args.profile c.args.files.now c.items.result.now c.args.root.now c.in_err-index.field-0.0 c.items.ensures.items c.in_err-index.ensures.refused)

pub returns-in_err-index-clause-told : goal.returns-in_err-index-clause-told
returns-in_err-index-clause-told g c =
    let root = c.args.root.now in
    let files = c.args.files.now in
    let its = c.items.result.now in
    let noted = c.new.new.refusals in
    let again = duplicates (packages_of files) in
    let rest = named_group c.args.profile (packages_of files) (root_named files root) in
    let stop = c.in_err-index.field-0.0 in
    let told = stop-told (duplicates (packages_of its)) noted stop c.from_residual.result c.from_residual.ensures.1
    (duplicates_told (packages_of its) noted stop c.in_err-index.ensures.refused c.in_err-index.ensures.told) in
    answer-told (First (duplicates (packages_of its)) noted) (FirstOf (units_group c.args.profile root files) noted) c.from_residual.result
    (λ refusal here. told-here (units_group c.args.profile root files) (refusal ∷ []) noted (Refused refusal)
    (told-here again rest noted (Refused refusal) (subst (λ (all : List (List FileUnit)). First (duplicates (packages_of all)) noted refusal) c.items.ensures.items here))) told

pub returns-in_err-id-clause-made : goal.returns-in_err-id-clause-made
returns-in_err-id-clause-made g c =
    exits _ _ (made_of_units g.M.FromAssembly.phase c.args.profile c.args.root.now c.args.files.now) c.in_err-id.field-0.0 c.from_residual-in_err-id.result c.from_residual-in_err-id.ensures.1
    (no_duplicate c.args.files.now c.items.result.now c.items.ensures.items c.in_ok-index.ensures.accepted
    beyond root_stop g.M.FromAssembly.phase c.args.profile c.args.files.now c.items.result.now c.in_ok-index.index c.args.root.now c.in_err-id.field-0.0 c.in_ok-index.ensures.packages c.items.ensures.items c.in_err-id.ensures.found)

pub returns-in_err-id-clause-told : goal.returns-in_err-id-clause-told
returns-in_err-id-clause-told g c =
    let root = c.args.root.now in
    let files = c.args.files.now in
    let noted = c.told_root.new.refusals in
    let none : duplicates (packages_of files) ≡ [] =
    ap (λ (all : List (List FileUnit)). duplicates (packages_of all)) (sym c.items.ensures.items) ∙ none_again (packages_of c.items.result.now) c.in_ok-index.ensures.accepted in
    let named = root_is files c.items.result.now c.in_ok-index.index root _ c.in_ok-index.ensures.packages c.items.ensures.items refl ∙ c.in_err-id.ensures.found.1 in
    let empty : units_group c.args.profile root files ≡ [] = λ i. or_group (none i) (named_group c.args.profile (packages_of files) (named i)) in
    end-told (FirstOf [] noted) (FirstOf (units_group c.args.profile root files) noted) c.in_err-id.field-0.0 c.from_residual-in_err-id.result
    (λ refusal told. told-next (units_group c.args.profile root files) (refusal ∷ []) noted (Refused refusal) empty told) c.from_residual-in_err-id.ensures.1 c.in_err-id.ensures.told

pub returns-clause-made : goal.returns-clause-made
returns-clause-made g c =
    let named = root_is c.args.files.now c.items.result.now c.in_ok-index.index c.args.root.now _ c.in_ok-index.ensures.packages c.items.ensures.items refl in
    model_in g.M.FromAssembly.phase c.args.profile c.args.files.now c.items.result.now c.in_ok-index.index c.args.root.now c.in_ok-id.id c.assembled.result c.in_ok-index.ensures.packages c.items.ensures.items c.in_ok-index.ensures.accepted (named ∙ c.in_ok-id.ensures.found) c.assembled.ensures.made

pub returns-clause-told : goal.returns-clause-told
returns-clause-told g c =
    let root = c.args.root.now in
    let files = c.args.files.now in
    let id = c.in_ok-id.id in
    let noted = c.assembled.new.refusals in
    let are = c.in_ok-index.ensures.packages ∙ ap packages_of c.items.ensures.items in
    let named = root_is files c.items.result.now c.in_ok-index.index root _ c.in_ok-index.ensures.packages c.items.ensures.items refl ∙ c.in_ok-id.ensures.found in
    let none : duplicates (packages_of files) ≡ [] =
    ap (λ (all : List (List FileUnit)). duplicates (packages_of all)) (sym c.items.ensures.items) ∙ none_again (packages_of c.items.result.now) c.in_ok-index.ensures.accepted in
    let same : root_group c.args.profile c.in_ok-index.index id ≡ units_group c.args.profile root files =
    ap (λ (packages : List PackageUnit). root_group c.args.profile packages id) are ∙ sym (λ i. or_group (none i) (named_group c.args.profile (packages_of files) (named i))) in
    answer-told (FirstOf (root_group c.args.profile c.in_ok-index.index id) noted) (FirstOf (units_group c.args.profile root files) noted) c.assembled.result
    (λ refusal told. subst (λ group. FirstOf group noted refusal) same told) c.assembled.ensures.told
