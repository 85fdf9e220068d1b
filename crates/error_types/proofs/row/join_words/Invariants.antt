use Rattle.error_types.specs.inner.Words.{Joins}
use Rattle.error_types.proofs.row.join_words.Given as goal

abbrev pub invariant-loop-place : goal.invariant-loop-place
invariant-loop-place l = Joins l.fn.words l.other l.words l.place
