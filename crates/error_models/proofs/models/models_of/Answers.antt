use Rattle.std.proofs.Common.{ℕ, ◌+◌, ◌≡◌, ◌<◌, ◌≤◌, List, None, Some, Option, drop, get_or, length, map, refl, ap, ◌∙◌, subst, sym}
use Rattle.plain_values.specs.declared.refusal.Stop.{Stop}
use lib.ListN.{length-map}
use Rattle.std.proofs.lemmas.List.{get_or_default, take_all}
use Rattle.std.proofs.lemmas.Result.{err_from_is_err_and}
use Rattle.aadl_syntax.specs.declared.core_model.PackageUnit.{PackageUnit}
use Rattle.package_index.specs.declared.id.ClassifierId.{ClassifierId}
use Rattle.error_libraries.specs.Libraries.{Table}
use Rattle.error_machines.specs.Machines.{Machine}
use Rattle.error_conditions.proofs.ConditionLaws.{map-more}
use Rattle.instantiator.specs.declared.kinds.Kind.{Kind}
use Rattle.instantiator.specs.Effectives.{effective_of}
use Rattle.plain_values.specs.declared.refusal.Refusal.{Refusal}
use Rattle.plain_values.specs.Order.{least}
use Rattle.noted_refusals.specs.Groups.{first_group}
use Rattle.noted_refusals.specs.inner.Noted.{Noted, TellsFirst}
use Rattle.noted_refusals.proofs.Laws.{none-in}
use Rattle.instantiator.specs.inner.Tables.{kind_of}
use Rattle.error_models.specs.Below.{kind_machine, states_below}
use Rattle.error_models.specs.Models.{model_of, model_with}
use Rattle.error_models.specs.Refused.{group_with, model_group, models_group, models_refusal, refusal_with}
use Rattle.error_models.specs.inner.Trees.{Tree}
use Rattle.instantiator.proofs.GroupLaws.{told-stops}
use Rattle.error_models.proofs.GroupLaws.{group-end, group-is, group-step, group-stop, models-least, with-least}
use Rattle.error_models.proofs.KindLaws.{made-at}
use Rattle.error_models.proofs.models.models_of.Goals as goal

model-is : (table : Table) (ids : List ClassifierId) (id : ClassifierId) → model_with table (effective_of table.packages id) (kind_machine table.packages id) (states_below table.profile table.packages ids (Some id)) ≡ model_of table ids id
unfolding model_of
model-is table ids id = refl

-- the kind of a number, as it is tested
module _ (table types : Table) (packages : List PackageUnit) (ids : List ClassifierId) (kinds : List Kind) (machines : List (Option Machine)) (tree : Tree) (i : ℕ) (one : Kind) (machine : Option Machine) (within : i < length kinds)
    (all : kinds ≡ map (kind_of packages) ids) (used : machines ≡ map (kind_machine packages) ids) (same : table.packages ≡ packages) (kept : types ≡ table) (is_tree : tree ≡ record { profile = table.profile; packages = packages; kinds = ids })
    (here : one ≡ get_or kinds i one) (its : machine ≡ get_or machines i machine) where
  abbrev id : ClassifierId
  id = get_or ids i one.classifier

  inside : i < length ids
  inside = subst (λ n. i < n) (ap length all ∙ length-map ids (kind_of packages)) within

  id-is : id ≡ get_or ids i id
  id-is = get_or_default ids i one.classifier id inside

  kind : one ≡ kind_of packages id
  kind = made-at (kind_of packages) ids kinds i one.classifier one all inside here

  own : machine ≡ kind_machine packages id
  own = made-at (kind_machine packages) ids machines i one.classifier machine used inside its

  model : model_with types one.effective machine (states_below tree.profile tree.packages tree.kinds (Some one.classifier)) ≡ model_of table ids id
  model =
      (λ k. model_with (kept k) (kind k).effective (own k) (states_below (is_tree k).profile (is_tree k).packages (is_tree k).kinds (Some (kind k).classifier)))
      ∙ (λ k. model_with table (effective_of (sym same k) id) (kind_machine (sym same k) id) (states_below table.profile (sym same k) ids (Some id))) ∙ model-is table ids id

  group : group_with types one.effective machine (states_below tree.profile tree.packages tree.kinds (Some one.classifier)) ≡ model_group table ids id
  group =
      (λ k. group_with (kept k) (kind k).effective (own k) (states_below (is_tree k).profile (is_tree k).packages (is_tree k).kinds (Some (kind k).classifier)))
      ∙ (λ k. group_with table (effective_of (sym same k) id) (kind_machine (sym same k) id) (states_below table.profile (sym same k) ids (Some id))) ∙ group-is table ids id

  -- what is told of its group is told of the first group of all kinds
  told-all : (goal : List Refusal) (noted : Noted) (stop : Stop) → first_group (map (model_group table ids) (drop i ids)) ≡ goal
      → TellsFirst (group_with types one.effective machine (states_below tree.profile tree.packages tree.kinds (Some one.classifier))) noted stop → TellsFirst goal noted stop
  told-all goal noted stop left told = group-stop (model_group table ids) ids i id goal inside id-is left noted stop (subst (λ its. TellsFirst its noted stop) group told)

  -- a kind of which nothing is refused
  none-more : (goal : List Refusal) → first_group (map (model_group table ids) (drop i ids)) ≡ goal → refusal_with types one.effective machine (states_below tree.profile tree.packages tree.kinds (Some one.classifier)) ≡ None → first_group (map (model_group table ids) (drop (i + 1) ids)) ≡ goal
  none-more goal left none =
      let its = group_with types one.effective machine (states_below tree.profile tree.packages tree.kinds (Some one.classifier)) in
      let empty = none-in its (with-least types one.effective machine (states_below tree.profile tree.packages tree.kinds (Some one.classifier)) ∙ none) in
      group-step (model_group table ids) ids i id goal inside id-is left (sym group ∙ empty)

pub returns-in_err-model-clause-told : goal.returns-in_err-model-clause-told
returns-in_err-model-clause-told c =
    let table = c.args.reading.now.types in
    let ids = c.args.instance.now.kinds in
    let told =
    told-all table c.loop-number.reading.types c.args.instance.now.packages ids c.kinds-kind-items.result.now c.args.machines.now c.in_ok-tree.tree c.loop-number.number c.kind-item.result c.index-machines-number.result c.loop-number-test.true c.kinds-kind-items.ensures.kinds c.requires.machines
    (ap (λ (types : Table). types.packages) c.requires.table) c.loop-number.invariant.kept c.in_ok-tree.ensures.tree c.kind-item.is c.index-machines-number.is (models_group table ids) c.model_of.new.reading.refusals c.in_err-model.field-0.0 c.loop-number.invariant.left c.in_err-model.ensures.told in
    let p = err_from_is_err_and c.from_residual-in_err-model.result c.from_residual-in_err-model.ensures.1 in
    rw (p.1, p.2) told

pub returns-in_err-model-clause-refused : goal.returns-in_err-model-clause-refused
returns-in_err-model-clause-refused c =
    let table = c.args.reading.now.types in
    let ids = c.args.instance.now.kinds in
    let stop = c.in_err-model.field-0.0 in
    let noted = c.model_of.new.reading.refusals in
    let told =
    told-all table c.loop-number.reading.types c.args.instance.now.packages ids c.kinds-kind-items.result.now c.args.machines.now c.in_ok-tree.tree c.loop-number.number c.kind-item.result c.index-machines-number.result c.loop-number-test.true c.kinds-kind-items.ensures.kinds c.requires.machines
    (ap (λ (types : Table). types.packages) c.requires.table) c.loop-number.invariant.kept c.in_ok-tree.ensures.tree c.kind-item.is c.index-machines-number.is (models_group table ids) noted stop c.loop-number.invariant.left c.in_err-model.ensures.told in
    let p = err_from_is_err_and c.from_residual-in_err-model.result c.from_residual-in_err-model.ensures.1 in
    rw (p.1, p.2) (told-stops (models_group table ids) (models_refusal table ids) noted stop (models-least table ids) told)

pub loop-number-preserved : goal.loop-number-preserved
loop-number-preserved c =
    let table = c.args.reading.now.types in
    let packages = c.args.instance.now.packages in
    let ids = c.args.instance.now.kinds in
    let i = c.loop-number.number in
    let one = c.kind-item.result in
    let within = c.loop-number-test.true in
    let all = c.kinds-kind-items.ensures.kinds in
    let kept : c.loop-number.reading.types ≡ table = c.loop-number.invariant.kept in
    let made =
    model table c.loop-number.reading.types packages ids c.kinds-kind-items.result.now c.args.machines.now c.in_ok-tree.tree i one c.index-machines-number.result within all c.requires.machines (ap (λ (types : Table). types.packages) c.requires.table) kept c.in_ok-tree.ensures.tree c.kind-item.is
    c.index-machines-number.is in
    let inside : i < length ids = subst (λ n. i < n) (ap length all ∙ length-map ids (kind_of packages)) within in
    let number = get_or ids i one.classifier in
    let here = get_or_default ids i one.classifier number inside in
    record {
      kept = c.in_ok-model.ensures.kept ∙ kept;
      models = map-more (model_of table ids) ids i number c.in_ok-model.model c.loop-number.models c.push.new.self inside here c.loop-number.invariant.models c.in_ok-push.ensures.ok (c.in_ok-model.ensures.model ∙ made);
      left =
          none-more table c.loop-number.reading.types packages ids c.kinds-kind-items.result.now c.args.machines.now c.in_ok-tree.tree i one c.index-machines-number.result within all c.requires.machines (ap (λ (types : Table). types.packages) c.requires.table) kept c.in_ok-tree.ensures.tree c.kind-item.is
          c.index-machines-number.is (models_group table ids) c.loop-number.invariant.left c.in_ok-model.ensures.accepted;
    }

pub returns-clause-models : goal.returns-clause-models
returns-clause-models c =
    let table = c.args.reading.now.types in
    let ids = c.args.instance.now.kinds in
    let packages = c.args.instance.now.packages in
    let all = c.kinds-kind-items.ensures.kinds in
    let past = subst (λ n. n ≤ c.loop-number.number) (ap length all ∙ length-map ids (kind_of packages)) c.loop-number-test.false in
    c.loop-number.invariant.models ∙ ap (map (model_of table ids)) (take_all c.loop-number.number ids past)

pub returns-clause-accepted : goal.returns-clause-accepted
returns-clause-accepted c =
    let table = c.args.reading.now.types in
    let ids = c.args.instance.now.kinds in
    let packages = c.args.instance.now.packages in
    let all = c.kinds-kind-items.ensures.kinds in
    let past = subst (λ n. n ≤ c.loop-number.number) (ap length all ∙ length-map ids (kind_of packages)) c.loop-number-test.false in
    sym (models-least table ids) ∙ ap least (group-end (model_group table ids) ids c.loop-number.number (models_group table ids) past c.loop-number.invariant.left)
