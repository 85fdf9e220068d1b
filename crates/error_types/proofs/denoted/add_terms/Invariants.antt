use Rattle.std.proofs.Common.{◌≡◌, drop, flat_map, take}
use Rattle.plain_values.specs.Order.{nearer}
use Rattle.error_types.specs.inner.Rows.{Remembers, row_of}
use Rattle.error_types.specs.Walk.{term_types, terms_first}
use Rattle.error_types.proofs.denoted.add_terms.Given as goal

abbrev pub invariant-loop-term : goal.invariant-loop-term
invariant-loop-term l = record {
  kept : l.declarations ≡ l.fn.declarations;
  memory : Remembers l.fn.declarations l.memory;
  row : l.gathered.row ≡ row_of l.fn.declarations (flat_map (term_types l.fn.declarations l.scope) (take l.term-index l.terms));
  first : nearer l.gathered.first (terms_first l.fn.declarations l.scope (drop l.term-index l.terms)) ≡ nearer l.fn.gathered.first (terms_first l.fn.declarations l.scope l.terms);
}
