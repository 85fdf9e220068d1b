use Rattle.std.proofs.Common.{map, refl, ap, ◌∙◌}
use Rattle.std.proofs.lemmas.List.{take_all}
use Rattle.instantiator.specs.declared.kinds.Kind.{Kind}
use Rattle.error_models.proofs.KindLaws.{kinds-mapped}
use Rattle.error_models.specs.Below.{machine_of}
use Rattle.event_origins.specs.declared.kinds.Declarations.{Declarations}
use Rattle.event_origins.specs.Declarations.{declarations_in, declarations_of}
use Rattle.event_origins.proofs.kinds.declarations_of_kinds.Goals as goal

pub returns : goal.returns
returns c =
    let packages = c.args.instance.now.packages in
    let row : Kind → Declarations = λ kind. declarations_in (machine_of packages kind.effective) kind.effective in
    c.loop-kind.invariant ∙ ap (map row) (take_all c.loop-kind.kind-index c.kinds-kind-items.result.now c.loop-kind-test.false ∙ c.kinds-kind-items.ensures.kinds)
    ∙ kinds-mapped packages row (declarations_of packages) (λ id. refl) c.args.instance.now.kinds
