use Rattle.std.proofs.Common.{◌≡◌, ◌++◌, length}
use Rattle.explained_calls.specs.inner.Unplaced.{unplaced}
use Rattle.explained_calls.proofs.unplaced.push_unplaced.Given as goal

abbrev pub invariant-loop-word : goal.invariant-loop-word
invariant-loop-word l = l.text.items ++ unplaced l.kind l.left l.rest ≡ l.initial.text.items ++ unplaced l.kind l.fn.room l.words

abbrev pub decreases-loop-word : goal.decreases-loop-word
decreases-loop-word l = length l.rest
