use Rattle.std.proofs.Common.{◌≤◌, take}
use Rattle.decimals.specs.Numerals.{worth}
use Rattle.decimals.specs.inner.Figures.{AreFigures}
use Rattle.decimals.proofs.figures.Figures.of.Given as goal

abbrev pub invariant-loop-byte : goal.invariant-loop-byte
invariant-loop-byte l = (l.figures.dropped ≤ l.byte-index) × AreFigures (worth 10 (take l.byte-index l.text)) l.figures
