use Rattle.std.proofs.Common.{◌≡◌, List, map, Option, refl, ap, ◌∙◌, subst, sym}
use Rattle.std.proofs.lemmas.List.{take_all}
use Rattle.std.proofs.lemmas.Result.{err_from_is_err_and}
use Rattle.aadl_syntax.specs.declared.core_model.PackageUnit.{PackageUnit}
use Rattle.plain_values.specs.declared.refusal.Refusal.{Refusal}
use Rattle.package_index.specs.declared.id.ClassifierId.{ClassifierId}
use Rattle.error_machines.specs.Machines.{Machine, find_machine}
use Rattle.error_conditions.proofs.ConditionLaws.{map-more}
use Rattle.instantiator.specs.declared.kinds.Kind.{Kind}
use Rattle.plain_values.specs.inner.Stops.{StopsAt}
use Rattle.instantiator.specs.inner.Tables.{kind_of}
use Rattle.error_models.specs.Below.{kind_machine, machine_of}
use Rattle.noted_refusals.proofs.Laws.{told-alone}
use Rattle.error_models.specs.Refused.{fault_of, first_of, machine_fault, machines_refusal}
use Rattle.error_models.proofs.KindLaws.{first-end, first-step, first-stop, kinds-mapped}
use Rattle.error_models.proofs.machines.machines_of.Goals as goal

abbrev made : List PackageUnit → Kind → Option Machine
made packages kind = machine_of packages kind.effective

abbrev fault : List PackageUnit → Kind → Option Refusal
fault packages kind = fault_of (find_machine packages kind.effective)

made-kind : (packages : List PackageUnit) (id : ClassifierId) → made packages (kind_of packages id) ≡ kind_machine packages id
unfolding kind_machine
made-kind packages id = refl

fault-kind : (packages : List PackageUnit) (id : ClassifierId) → fault packages (kind_of packages id) ≡ machine_fault packages id
unfolding machine_fault
fault-kind packages id = refl

whole : (packages : List PackageUnit) (kinds : List Kind) (ids : List ClassifierId) → kinds ≡ map (kind_of packages) ids → first_of (map (fault packages) kinds) ≡ first_of (map (machine_fault packages) ids)
whole packages kinds ids is = ap (λ all. first_of (map (fault packages) all)) is ∙ ap first_of (kinds-mapped packages (fault packages) (machine_fault packages) (fault-kind packages) ids)

pub returns-in_err-machine-clause-refused : goal.returns-in_err-machine-clause-refused
returns-in_err-machine-clause-refused c =
    let packages = c.args.instance.now.packages in
    let kinds = c.kinds-kind-items.result.now in
    let one = c.kind-item.result in
    let stop = c.in_err-machine.field-0.0 in
    let here : StopsAt (fault packages one) stop = subst (λ all. StopsAt (fault all one) stop) c.index.ensures c.in_err-machine.ensures.machine in
    let p = err_from_is_err_and c.from_residual.result c.from_residual.ensures.1 in
    rw (p.1, p.2) (subst (λ refusal. StopsAt refusal stop) (whole packages kinds c.args.instance.now.kinds c.kinds-kind-items.ensures.kinds)
    (first-stop (fault packages) kinds c.loop-kind.kind-index one (first_of (map (fault packages) kinds)) c.loop-kind-test.true c.kind-item.is c.loop-kind.invariant.left stop here))

pub returns-in_err-machine-clause-told : goal.returns-in_err-machine-clause-told
returns-in_err-machine-clause-told c =
    let packages = c.args.instance.now.packages in
    let kinds = c.kinds-kind-items.result.now in
    let one = c.kind-item.result in
    let stop = c.in_err-machine.field-0.0 in
    let noted = c.machine_in.new.refusals in
    let here : StopsAt (fault packages one) stop = subst (λ all. StopsAt (fault all one) stop) c.index.ensures c.in_err-machine.ensures.machine in
    let refused = subst (λ refusal. StopsAt refusal stop) (whole packages kinds c.args.instance.now.kinds c.kinds-kind-items.ensures.kinds)
    (first-stop (fault packages) kinds c.loop-kind.kind-index one (first_of (map (fault packages) kinds)) c.loop-kind-test.true c.kind-item.is c.loop-kind.invariant.left stop here) in
    let p = err_from_is_err_and c.from_residual.result c.from_residual.ensures.1 in
    rw (p.1, p.2) (told-alone (machines_refusal packages c.args.instance.now.kinds) noted stop refused c.in_err-machine.ensures.told)

pub loop-kind-preserved : goal.loop-kind-preserved
loop-kind-preserved c =
    let packages = c.args.instance.now.packages in
    let kinds = c.kinds-kind-items.result.now in
    let one = c.kind-item.result in
    record {
      machines = map-more (made packages) kinds c.loop-kind.kind-index one c.in_ok-machine.machine c.loop-kind.machines c.push.new.self c.loop-kind-test.true c.kind-item.is c.loop-kind.invariant.machines c.in_ok-push.ensures.ok
          (c.in_ok-machine.ensures.machine.0 ∙ ap (λ all. made all one) c.index.ensures);
      left = first-step (fault packages) kinds c.loop-kind.kind-index one (first_of (map (fault packages) kinds)) c.loop-kind-test.true c.kind-item.is c.loop-kind.invariant.left
          (sym (ap (λ all. fault all one) c.index.ensures) ∙ c.in_ok-machine.ensures.machine.1);
    }

pub returns-clause-machines : goal.returns-clause-machines
returns-clause-machines c =
    let packages = c.args.instance.now.packages in
    let kinds = c.kinds-kind-items.result.now in
    c.loop-kind.invariant.machines ∙ ap (map (made packages)) (take_all c.loop-kind.kind-index kinds c.loop-kind-test.false ∙ c.kinds-kind-items.ensures.kinds)
    ∙ kinds-mapped packages (made packages) (kind_machine packages) (made-kind packages) c.args.instance.now.kinds

pub returns-clause-accepted : goal.returns-clause-accepted
returns-clause-accepted c =
    let packages = c.args.instance.now.packages in
    let kinds = c.kinds-kind-items.result.now in
    sym (whole packages kinds c.args.instance.now.kinds c.kinds-kind-items.ensures.kinds)
    ∙ first-end (fault packages) kinds c.loop-kind.kind-index (first_of (map (fault packages) kinds)) c.loop-kind-test.false c.loop-kind.invariant.left
