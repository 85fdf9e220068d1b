use Rattle.std.proofs.Common.{◌≡◌, ◌++◌, true, flat_map, take}
use Rattle.unread_parts.specs.Unread.{piece_parts}
use Rattle.unread_parts.proofs.pieces.add_braces.Given as goal

abbrev pub invariant-loop-piece : goal.invariant-loop-piece
invariant-loop-piece l = l.parts ≡ l.fn.parts ++ flat_map (piece_parts l.what l.number l.file true l.member) (take l.piece-index l.piece-items)
