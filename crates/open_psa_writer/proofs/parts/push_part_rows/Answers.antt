use Rattle.std.proofs.Common.{◌+◌, arith}
use Rattle.open_psa_writer.specs.Mef.{gate_text}
use Rattle.open_psa_writer.specs.TreeMef.{part_row}
use Rattle.open_psa_writer.proofs.Counting.{rows-more}
use Rattle.open_psa_writer.proofs.parts.push_part_rows.Goals as goal

pub loop-row-preserved : goal.loop-row-preserved
loop-row-preserved c =
    rows-more gate_text (part_row c.args.top c.args.number c.args.inputs.now c.args.least) 1 c.loop-row.row (c.loop-row.row + 1) c.args.line.now.items (omega arith)
    c.loop-row.invariant c.in_ok-push_part_row.ensures
