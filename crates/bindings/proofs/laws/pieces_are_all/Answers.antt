use Rattle.std.proofs.Common.{[]}
use Rattle.bindings.proofs.AllPieces.{all-pieces}
use Rattle.bindings.proofs.laws.pieces_are_all.Goals as goal

pub returns : goal.returns
returns c = λ tokens last even ends. all-pieces [] tokens last even ends
