use Rattle.std.proofs.Common.{◌+◌, refl}
use Rattle.open_psa_writer.specs.Mef.{gate_text}
use Rattle.open_psa_writer.specs.TreeMef.{part_gate}
use Rattle.open_psa_writer.proofs.Counting.{row-more}
use Rattle.open_psa_writer.proofs.parts.push_part_row.Goals as goal

pub loop-more-preserved : goal.loop-more-preserved
loop-more-preserved c =
    row-more gate_text (part_gate c.args.top c.args.number c.args.inputs.now c.args.needed) c.args.needed c.loop-more.more (c.args.needed + c.loop-more.more) c.args.line.now.items refl
    c.loop-more.invariant c.in_ok-push_part_gate.ensures
