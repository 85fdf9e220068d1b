use Rattle.bindings.proofs.PieceLoops.{PassedOf}
use Rattle.bindings.proofs.piece.first_piece.Given as goal

abbrev pub invariant-loop-k : goal.invariant-loop-k
invariant-loop-k l = PassedOf l.tokens l.k l.opened l.closed
