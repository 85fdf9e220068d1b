mod Reading
mod AllPieces
mod PieceLoops
