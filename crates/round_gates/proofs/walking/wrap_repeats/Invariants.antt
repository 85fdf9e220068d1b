use Rattle.std.proofs.Common.{◌≡◌, ◌++◌, [], drop}
use Rattle.round_gates.specs.Walks.{wrapped, repeats}
use Rattle.round_gates.proofs.walking.wrap_repeats.Given as goal

abbrev pub invariant-loop-part : goal.invariant-loop-part
invariant-loop-part l = record {
  inputs : l.inputs ++ wrapped l.stage l.seen.keys (drop l.part-index l.parts) ≡ wrapped l.stage [] l.parts;
  lines : l.lines.items ++ repeats l.stage l.seen.keys (drop l.part-index l.parts) ≡ l.fn.lines.items ++ repeats l.stage [] l.parts;
}
