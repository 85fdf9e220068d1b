use Rattle.std.proofs.Common.{◌≡◌, ◌++◌, map}
use Rattle.std.specs.List.{flat_map, range_with_len}
use Rattle.open_psa_writer.specs.Mef.{gate_text}
use Rattle.open_psa_writer.specs.TreeMef.{part_gate}
use Rattle.open_psa_writer.proofs.parts.push_part_row.Given as goal

abbrev pub invariant-loop-more : goal.invariant-loop-more
invariant-loop-more l = l.line.items ≡ l.fn.line.items ++ flat_map gate_text (map (part_gate l.top l.number l.inputs l.needed) (range_with_len l.needed l.more))
