use Rattle.std.proofs.Common.{◌≡◌, ◌++◌, take}
use Rattle.std.specs.List.{flat_map}
use Rattle.open_psa_writer.specs.Numbers.{plain}
use Rattle.open_psa_writer.specs.inner.Based.{digit_text, digits_in}
use Rattle.open_psa_writer.proofs.numbers.push_digits.Given as goal

abbrev pub invariant-loop-byte : goal.invariant-loop-byte
invariant-loop-byte l = l.line.items ≡ l.fn.line.items ++ flat_map (digit_text (plain l.base)) (digits_in (take l.byte-index l.text))
