use Rattle.std.proofs.Common.{◌≡◌, min, take}
use Rattle.decimals.specs.Numerals.{worth}
use Rattle.decimals.proofs.digits.small_worth.Given as goal

abbrev pub invariant-loop-byte : goal.invariant-loop-byte
invariant-loop-byte l = l.value ≡ min 1000000000000000001 (worth l.base (take l.byte-index l.text))
