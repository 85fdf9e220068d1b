use Rattle.std.proofs.Common.{◌-◌, ◌^◌, sym, ap, ◌∙◌}
use Rattle.std.proofs.lemmas.Result.{IfOk-weaker}
use Rattle.error_types.specs.inner.Endings.{type_through}
use Rattle.error_types.specs.Types.{type_at, type_named}
use Rattle.error_libraries.specs.Libraries.{library_scope}
use Rattle.error_types.proofs.EndingLaws.{by-name}
use Rattle.error_types.proofs.hierarchy.type_named.Goals as goal

pub returns-in-Some-clause-number : goal.returns-in-Some-clause-number
returns-in-Some-clause-number c =
    let table = c.args.declarations.now in
    let scope = library_scope table c.args.home in
    let target = sym c.in-Some.is ∙ c.in_ok-id.ensures.target in
    IfOk-weaker c.type_of.result _ _ (λ number is. is ∙ (λ i. type_through (2 ^ 64 - 1) (c.named_at.ensures.kept i) c.in-Some.id) ∙ ap (type_at (type_named (2 ^ 64 - 1) table) table) target ∙ sym (by-name table scope c.args.reference.now)) c.type_of.ensures.number

pub returns-in-None-clause-number : goal.returns-in-None-clause-number
returns-in-None-clause-number c =
    let table = c.args.declarations.now in
    let scope = library_scope table c.args.home in
    let target = sym c.in-None.is ∙ c.in_ok-id.ensures.target in
    ap (type_at (type_named (2 ^ 64 - 1) table) table) target ∙ sym (by-name table scope c.args.reference.now)
