use Rattle.std.proofs.Common.{◌≡◌, ◌++◌, map, take}
use Rattle.std.specs.List.{flat_map}
use Rattle.round_gates.specs.inner.Walks.{node_in}
use Rattle.round_gates.specs.inner.Unrolled.{found_in, lines_in}
use Rattle.round_gates.proofs.unrolling.walk_facts.Given as goal

abbrev pub invariant-loop-fact : goal.invariant-loop-fact
invariant-loop-fact l = record {
  found : l.found.items ≡ map (found_in l.system (node_in l.looks) l.stage) (take l.fact-index l.members);
  lines : l.lines.items ≡ l.fn.lines.items ++ flat_map (lines_in l.system (node_in l.looks) l.stage) (take l.fact-index l.members);
}
