use Rattle.std.proofs.Common.{List, [], ◌∷◌, ◌++◌, ap, map, sym, take, ◌∙◌}
use Rattle.std.proofs.lemmas.List.{map-append}
use Rattle.aadl_syntax.specs.declared.core_model.PackageUnit.{PackageUnit}
use Rattle.aadl_syntax.specs.declared.error_model.MachineDecl.{MachineDecl}
use Rattle.event_rates.specs.inner.Listed.{Listed, listed}
use Rattle.event_rates.specs.inner.Tables.{unit_associations}
use Rattle.event_rates.proofs.FittingLaws.{front-more}
use Rattle.event_rates.proofs.kinds.machines_of.Goals as goal

pub loop-package-preserved : goal.loop-package-preserved
loop-package-preserved c =
    let profile = c.args.profile in
    let packages = c.args.packages.now in
    let k = c.loop-package.package-index in
    let one = c.package-item.result in
    let tables : List MachineDecl → List Listed = λ machines. map (λ machine. listed profile machine.associations) machines in
    let rows = c.in_ok-rows.ensures ∙ ap tables (c.items.ensures.items ∙ ap (λ (unit : PackageUnit). unit.library.machines) c.unit.ensures) in
    c.in_ok-push.ensures.ok ∙ (λ i. c.loop-package.invariant i ++ rows i ∷ [])
    ∙ sym (ap (map (unit_associations profile)) (front-more packages k one c.loop-package-test.true c.package-item.is) ∙ map-append (unit_associations profile) (take k packages) (one ∷ []))
