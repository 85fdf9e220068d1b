use Rattle.std.proofs.Common.{◌≡◌, length}
use Rattle.bindings.specs.Pieces.{behind_brace}
use Rattle.bindings.proofs.piece.behind_brace.Given as goal

abbrev pub invariant-loop-token : goal.invariant-loop-token
invariant-loop-token l = behind_brace l.tokens ≡ behind_brace l.left

abbrev pub decreases-loop-token : goal.decreases-loop-token
decreases-loop-token l = length l.left
