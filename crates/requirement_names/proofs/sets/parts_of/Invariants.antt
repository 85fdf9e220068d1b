use Rattle.std.proofs.Common.{◌≡◌, drop}
use Rattle.requirement_names.specs.Sets.{nothing_cut, with_bytes}
use Rattle.requirement_names.proofs.sets.parts_of.Given as goal

abbrev pub invariant-loop-byte : goal.invariant-loop-byte
invariant-loop-byte l = with_bytes l.cut (drop l.byte-index l.text) ≡ with_bytes nothing_cut l.text
