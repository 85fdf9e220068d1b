use Rattle.std.proofs.Common.{◌≡◌, ◌++◌, take}
use Rattle.plain_values.specs.Name.{folded}
use Rattle.aadl_syntax.proofs.tokens.push_folded.Given as goal

abbrev pub invariant-loop-byte : goal.invariant-loop-byte
invariant-loop-byte l = l.text.items ≡ l.initial.text.items ++ folded (take l.byte-index l.bytes)
