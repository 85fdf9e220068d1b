use Rattle.std.proofs.Common.{◌≡◌, IfOk, OnOk, subst, ap, ◌∙◌}
use Rattle.noted_refusals.specs.inner.Noted.{noting}
use Rattle.propagation_points.specs.Points.{scopes_of}
use Rattle.composite_states.specs.Composites.{clauses_in, clauses_of, composite_clause_refusals, refusals_in}
use Rattle.composite_states.proofs.clauses.clauses_of.Goals as goal

pub returns-clause-clauses : goal.returns-clause-clauses
returns-clause-clauses g c =
    let below = g.B.StatesBelow.states_at c.args.below.now in
    let table = c.args.reading.now.types in
    let points = c.args.points.now in
    let states = c.args.states.now in
    let effective = c.args.effective.now in
    let scopes : c.items-2.result.now ≡ scopes_of table.packages effective.clauses = c.items-2.ensures.items ∙ c.in_ok-scopes.ensures ∙ ap (scopes_of table.packages) c.items.ensures.items in
    let all : clauses_in below table points states.sorts c.items-2.result.now c.items-3.result.now ≡ clauses_of below table points states effective =
    (λ i. clauses_in below table points states.sorts (scopes i) (c.items-3.ensures.items i)) in
    subst (λ made. IfOk c.clauses_in.result (λ clauses. clauses ≡ made)) all c.clauses_in.ensures.clauses

pub returns-clause-noted : goal.returns-clause-noted
returns-clause-noted g c =
    let below = g.B.StatesBelow.states_at c.args.below.now in
    let table = c.args.reading.now.types in
    let points = c.args.points.now in
    let states = c.args.states.now in
    let effective = c.args.effective.now in
    let scopes : c.items-2.result.now ≡ scopes_of table.packages effective.clauses = c.items-2.ensures.items ∙ c.in_ok-scopes.ensures ∙ ap (scopes_of table.packages) c.items.ensures.items in
    let all : refusals_in below table points states c.items-2.result.now c.items-3.result.now ≡ composite_clause_refusals below table points states effective =
    (λ i. refusals_in below table points states (scopes i) (c.items-3.ensures.items i)) in
    subst (λ faults. OnOk c.clauses_in.result (c.clauses_in.new.reading.refusals ≡ noting c.args.reading.now.refusals faults)) all c.clauses_in.ensures.noted
