use Rattle.std.proofs.Common.{◌≡◌, drop, flat_map}
use Rattle.noted_refusals.specs.inner.Noted.{noting}
use Rattle.error_conditions.specs.Conditions.{no_error_at}
use Rattle.error_conditions.proofs.atom.note_terms.Given as goal

abbrev pub invariant-loop-term : goal.invariant-loop-term
invariant-loop-term l = noting l.refusals (flat_map (no_error_at l.profile) (drop l.term-index l.terms)) ≡ noting l.fn.refusals (flat_map (no_error_at l.profile) l.terms)
