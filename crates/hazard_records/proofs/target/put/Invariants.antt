use Rattle.std.proofs.Common.{◌≡◌, ◌++◌, take}
use Rattle.hazard_records.proofs.target.put.Given as goal

abbrev pub invariant-loop-byte : goal.invariant-loop-byte
invariant-loop-byte l = l.text ≡ l.fn.text ++ take l.byte-index l.bytes
