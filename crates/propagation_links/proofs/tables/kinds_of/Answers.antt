use Rattle.std.proofs.Common.{List, map, refl, ap, ◌∙◌}
use Rattle.std.proofs.lemmas.List.{take_all}
use Rattle.aadl_syntax.specs.declared.core_model.Binding.{Binding}
use Rattle.instantiator.specs.declared.kinds.Kind.{Kind}
use Rattle.propagation_links.specs.Bound.{bindings_by}
use Rattle.propagation_links.specs.inner.Tables.{kind_bindings}
use Rattle.propagation_links.proofs.BoundLaws.{kinds-mapped}
use Rattle.propagation_links.proofs.tables.kinds_of.Goals as goal

pub returns : goal.returns
returns c =
    let packages = c.args.instance.now.packages in
    let row : Kind → List Binding = λ kind. bindings_by c.args.braced kind.effective in
    c.loop-kind.invariant ∙ ap (map row) (take_all c.loop-kind.kind-index c.kinds-kind-items.result.now c.loop-kind-test.false ∙ c.kinds-kind-items.ensures.kinds)
    ∙ kinds-mapped packages row (kind_bindings c.args.braced packages) (λ id. refl) c.args.instance.now.kinds
