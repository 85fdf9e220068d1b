use Rattle.std.proofs.Common.{◌≡◌, ◌++◌, take}
use Rattle.requirement_lines.specs.Lines.{escaped}
use Rattle.requirement_lines.proofs.tap.push_escaped.Given as goal

abbrev pub invariant-loop-byte : goal.invariant-loop-byte
invariant-loop-byte l = l.text.items ≡ l.fn.text.items ++ escaped (take l.byte-index l.description)
