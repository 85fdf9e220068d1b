use Rattle.std.proofs.Common.{◌++◌, ap, sym, ◌∙◌, append-nil}
use Rattle.propagation_links.proofs.BoundLaws.{none-carried}
use Rattle.propagation_links.proofs.carried.add_where_any.Goals as goal

pub returns-else-any_towards : goal.returns-else-any_towards
returns-else-any_towards c =
    let none = none-carried c.args.tables.now c.args.number (sym c.any_towards.ensures ∙ c.if-any_towards.false) c.args.connections.now in
    sym (ap (λ more. c.args.carried.now ++ more) none ∙ append-nil c.args.carried.now)
