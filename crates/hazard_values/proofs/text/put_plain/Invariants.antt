use Rattle.std.proofs.Common.{◌≡◌, ◌++◌, drop, false}
use Rattle.hazard_values.specs.Texts.{plain_after}
use Rattle.hazard_values.proofs.text.put_plain.Given as goal

abbrev pub invariant-loop-byte : goal.invariant-loop-byte
invariant-loop-byte l = l.text ++ plain_after l.is_behind (drop l.byte-index l.bytes) ≡ l.fn.text ++ plain_after false l.bytes
