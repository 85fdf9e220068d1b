use Rattle.std.proofs.Common.{◌≡◌, drop}
use Rattle.std.specs.List.{list_any}
use Rattle.error_types.specs.NoError.{term_has_no_error}
use Rattle.error_types.proofs.noerror.any_has_no_error.Given as goal

abbrev pub invariant-loop-term : goal.invariant-loop-term
invariant-loop-term l = record {
  kept : l.declarations ≡ l.fn.declarations;
  left : list_any (term_has_no_error l.fn.declarations l.scope) (drop l.term-index l.terms) ≡ list_any (term_has_no_error l.fn.declarations l.scope) l.terms;
}
