use Rattle.std.proofs.Common.{◌≡◌, ◌++◌, length}
use Rattle.bindings.specs.Pieces.{section_pieces}
use Rattle.bindings.proofs.piece.section_pieces.Given as goal

abbrev pub invariant-loop-count : goal.invariant-loop-count
invariant-loop-count l = section_pieces l.fn.tokens ≡ l.pieces ++ section_pieces l.left

abbrev pub decreases-loop-count : goal.decreases-loop-count
decreases-loop-count l = length l.left
