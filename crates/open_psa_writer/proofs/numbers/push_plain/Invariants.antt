use Rattle.std.proofs.Common.{◌≡◌, ◌++◌, take}
use Rattle.open_psa_writer.specs.Numbers.{plain}
use Rattle.open_psa_writer.proofs.numbers.push_plain.Given as goal

abbrev pub invariant-loop-byte : goal.invariant-loop-byte
invariant-loop-byte l = l.line.items ≡ l.fn.line.items ++ plain (take l.byte-index l.text)
