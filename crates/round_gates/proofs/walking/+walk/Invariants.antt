use Rattle.std.proofs.Common.{◌≡◌, ◌+◌, ◌++◌, map, drop}
use Rattle.round_gates.specs.Walks.{walk, parts_of, places, total}
use Rattle.round_gates.specs.inner.Walks.{node_in}
use Rattle.round_gates.proofs.walking.+walk.Given as goal

abbrev pub invariant-walk_parts-loop-part : goal.invariant-walk_parts-loop-part
invariant-walk_parts-loop-part l = record {
  parts : l.list.items ++ (parts_of (map (walk l.stage (node_in l.looks)) (drop l.part-index l.parts)) l.next).parts ≡ (parts_of (map (walk l.stage (node_in l.looks)) l.parts) l.place).parts;
  next : (parts_of (map (walk l.stage (node_in l.looks)) (drop l.part-index l.parts)) l.next).next ≡ (parts_of (map (walk l.stage (node_in l.looks)) l.parts) l.place).next;
  lines : l.lines.items ++ (parts_of (map (walk l.stage (node_in l.looks)) (drop l.part-index l.parts)) l.next).lines ≡ l.fn.lines.items ++ (parts_of (map (walk l.stage (node_in l.looks)) l.parts) l.place).lines;
  room : l.next + total (map places (drop l.part-index l.parts)) ≡ l.place + total (map places l.parts);
}
