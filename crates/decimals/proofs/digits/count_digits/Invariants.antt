use Rattle.std.proofs.Common.{◌≡◌, take}
use Rattle.std.specs.List.{count_by}
use Rattle.decimals.specs.Numerals.{is_digit}
use Rattle.decimals.proofs.digits.count_digits.Given as goal

abbrev pub invariant-loop-byte : goal.invariant-loop-byte
invariant-loop-byte l = l.count ≡ count_by (is_digit 10) (take l.byte-index l.text)
