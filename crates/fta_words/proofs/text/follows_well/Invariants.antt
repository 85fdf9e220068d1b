use Rattle.std.proofs.Common.{◌≡◌, false, drop}
use Rattle.fta_words.specs.inner.Reading.{follows_well}
use Rattle.fta_words.proofs.text.follows_well.Given as goal

abbrev pub invariant-loop-byte : goal.invariant-loop-byte
invariant-loop-byte l = follows_well l.waiting (drop l.byte-index l.bytes) ≡ follows_well false l.bytes
