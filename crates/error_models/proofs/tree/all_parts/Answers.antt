use Rattle.std.proofs.Common.{◌≡◌, List, map, refl, ap, ◌∙◌}
use Rattle.std.proofs.lemmas.List.{take_all}
use Rattle.aadl_syntax.specs.declared.core_model.PackageUnit.{PackageUnit}
use Rattle.package_index.specs.declared.id.ClassifierId.{ClassifierId}
use Rattle.instantiator.specs.declared.kinds.Kind.{Kind}
use Rattle.instantiator.specs.Components.{Part, parts_of}
use Rattle.instantiator.specs.inner.Tables.{kind_of}
use Rattle.error_models.specs.Below.{kind_parts}
use Rattle.error_models.proofs.KindLaws.{kinds-mapped}
use Rattle.error_models.proofs.tree.all_parts.Goals as goal

abbrev made : List PackageUnit → Kind → List Part
made packages kind = parts_of packages kind.effective

made-kind : (packages : List PackageUnit) (id : ClassifierId) → made packages (kind_of packages id) ≡ kind_parts packages id
unfolding kind_parts
made-kind packages id = refl

pub returns : goal.returns
returns c =
    let packages = c.args.instance.now.packages in
    let kinds = c.kinds-kind-items.result.now in
    c.loop-kind.invariant ∙ ap (map (made packages)) (take_all c.loop-kind.kind-index kinds c.loop-kind-test.false ∙ c.kinds-kind-items.ensures.kinds)
    ∙ kinds-mapped packages (made packages) (kind_parts packages) (made-kind packages) c.args.instance.now.kinds
