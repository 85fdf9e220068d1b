use Rattle.std.proofs.Common.{take}
use Rattle.std.specs.List.{AllByRecursion}
use Rattle.page_tokens.specs.Forms.{IsDigit}
use Rattle.page_tokens.proofs.token.are_digits.Given as goal

abbrev pub invariant-loop-byte : goal.invariant-loop-byte
invariant-loop-byte l = AllByRecursion IsDigit (take l.byte-index l.bytes)
