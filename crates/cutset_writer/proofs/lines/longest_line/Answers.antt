use Rattle.std.proofs.Common.{arith, ap, add-one, take}
use Rattle.cutset_writer.specs.inner.Lengths.{names_room}
use Rattle.cutset_writer.proofs.SetLines.{room_more}
use Rattle.cutset_writer.proofs.lines.longest_line.Goals as goal

pub loop-number-preserved : goal.loop-number-preserved
loop-number-preserved c =
    let events = c.args.system.now.events in
    let k = c.loop-number.number in
    omega (
      arith,
      c.loop-number.invariant,
      c.name_length.ensures,
      c.in_ok-most.ensures,
      c.in_ok-most-2.ensures,
      room_more events k (omega (arith, c.loop-number-test.true, c.events-number-end.ensures.count)),
      ap (λ m. names_room (take m events)) (add-one k),
    )
