use Rattle.std.proofs.Common.{◌≡◌, ◌++◌}
use Rattle.std.specs.List.{flat_map, range_with_len}
use Rattle.open_psa_writer.specs.Mef.{gate_text}
use Rattle.open_psa_writer.specs.TreeMef.{part_row}
use Rattle.open_psa_writer.proofs.parts.push_part_rows.Given as goal

abbrev pub invariant-loop-row : goal.invariant-loop-row
invariant-loop-row l = l.line.items ≡ l.fn.line.items ++ flat_map gate_text (flat_map (part_row l.top l.number l.inputs l.all) (range_with_len 1 l.row))
