use Rattle.std.proofs.Common.{Bor, List, ℕ, map, sym, ◌∙◌}
use Rattle.fta_words.proofs.Names.{has_name, lent_names, name_has}
use Rattle.fta_words.proofs.table.is_among.Goals as goal

pub returns-clause-value : goal.returns-clause-value
returns-clause-value c = c.is_some_same.ensures ∙ lent_names c.args.names.now c.args.name.now

pub returns-clause-means : goal.returns-clause-means
returns-clause-means c =
    let names = map (λ (other : Bor (List ℕ)). other.now) c.args.names.now in
    let is = c.is_some_same.ensures ∙ lent_names c.args.names.now c.args.name.now in
    (λ found. has_name names c.args.name.now (sym is ∙ found), λ has. is ∙ name_has names c.args.name.now has)
