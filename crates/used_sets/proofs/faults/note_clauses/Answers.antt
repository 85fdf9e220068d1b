use Rattle.std.proofs.Common.{◌≡◌, ap, ◌∙◌}
use Rattle.noted_refusals.specs.inner.Noted.{noting}
use Rattle.propagation_points.specs.Points.{scopes_of}
use Rattle.used_sets.specs.Used.{refusals_with}
use Rattle.used_sets.proofs.faults.note_clauses.Goals as goal

pub returns-clause-noted : goal.returns-clause-noted
returns-clause-noted c =
    let table = c.args.reading.now.types in
    let effective = c.args.effective.now in
    let scopes : c.items.result.now ≡ scopes_of table.packages effective.clauses = c.items.ensures.items ∙ c.in_ok-scopes.ensures ∙ ap (scopes_of table.packages) c.items-clauses.ensures.items in
    c.in_ok-note_with.ensures.noted ∙ ap (λ texts. noting c.args.reading.now.refusals (refusals_with table texts effective)) scopes
