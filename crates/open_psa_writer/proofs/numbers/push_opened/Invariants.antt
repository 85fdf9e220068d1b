use Rattle.std.proofs.Common.{◌≡◌, ◌++◌, take}
use Rattle.open_psa_writer.specs.inner.Based.{digits_in, opened}
use Rattle.open_psa_writer.proofs.numbers.push_opened.Given as goal

abbrev pub invariant-loop-byte : goal.invariant-loop-byte
invariant-loop-byte l = l.line.items ≡ l.fn.line.items ++ opened (digits_in (take l.byte-index l.text))
