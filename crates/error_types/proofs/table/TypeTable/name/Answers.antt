use Rattle.std.proofs.Common.{◌<◌, ◌↔◌, IsSome, length, option_and_then, sym, ap, ◌∙◌, subst}
use Rattle.error_libraries.specs.Printed.{item_name, name_of}
use Rattle.error_libraries.proofs.PrintedLaws.{known-by-number}
use Rattle.error_types.proofs.table.TypeTable.name.Goals as goal

pub returns-in-Some-clause-known : goal.returns-in-Some-clause-known
returns-in-Some-clause-known c =
    let table = c.self.inside.declarations in
    subst (λ t. IsSome c.name.result ↔ (c.args.number < length t.types)) c.self.view_is
    (known-by-number table c.args.number c.name.result c.type_id.ensures.made (c.name.ensures ∙ ap (option_and_then (item_name table)) (sym c.in-Some.is ∙ c.type_id.ensures.item)))

pub returns-in-None-clause-name : goal.returns-in-None-clause-name
returns-in-None-clause-name c =
    let table = c.self.inside.declarations in
    ap (option_and_then (item_name table)) (sym c.in-None.is ∙ c.type_id.ensures.item) ∙ ap (λ t. name_of t c.args.number) c.self.view_is
