use Rattle.std.proofs.Common.{false, flat_map, length, replicate, sym, ap, ◌∙◌}
use Rattle.std.proofs.lemmas.Result.{IfOk-weaker}
use Rattle.error_types.specs.Walk.{term_types}
use Rattle.error_types.proofs.TypeRows.{row-none, row-numbers}
use Rattle.error_types.proofs.denoted.denoted.Goals as goal

pub add_terms-requires-clause-row : goal.add_terms-requires-clause-row
add_terms-requires-clause-row c = c.in_ok-row.ensures ∙ ap (λ types. replicate (length types) false) c.types.ensures.types ∙ sym (row-none c.args.declarations.now)

pub returns-clause-types : goal.returns-clause-types
returns-clause-types c =
    let table = c.args.declarations.now in
    IfOk-weaker c.numbers.result _ _ (λ numbers is. is ∙ row-numbers table c.add_terms.new.gathered.row (flat_map (term_types table c.args.scope.now) c.args.terms.now) c.in_ok-add_terms.ensures.row) c.numbers.ensures
