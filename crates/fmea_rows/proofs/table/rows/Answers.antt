use Rattle.std.proofs.Common.{ℕ, ◌≡◌, ◌∙◌, ap, length, subst, sym, arith}
use Rattle.std.specs.List.{flat_map}
use Rattle.plain_values.specs.Numbered.{numbers_below}
use Rattle.fmea_rows.specs.Rows.{event_rows, rows_of}
use Rattle.fmea_rows.specs.inner.Rows.{AreRows}
use Rattle.fmea_rows.proofs.RowLaws.{rows-exact, rows-next}
use Rattle.fmea_rows.proofs.table.rows.Goals as goal

pub loop-event-preserved : goal.loop-event-preserved
loop-event-preserved c = record {
  rows = rows-next c.args.system.now c.args.effects.now c.loop-event.event c.loop-event.rows c.add_rows.new.rows c.loop-event.invariant.rows c.in_ok-add_rows.ensures.rows;
  between = c.in_ok-add_rows.ensures.between;
  alone = c.in_ok-add_rows.ensures.alone;
  passed = c.in_ok-add_rows.ensures.passed;
  told = c.in_ok-add_rows.ensures.told;
}

pub returns : goal.returns
returns c =
    let system = c.args.system.now in
    let all : c.loop-event.event ≡ length system.events = omega (arith, c.events-event-end.ensures.count) in
    let are : c.loop-event.rows ≡ rows_of system c.args.effects.now = c.loop-event.invariant.rows ∙ ap (λ (k : ℕ). flat_map (event_rows system c.args.effects.now) (numbers_below k)) all in
    record {
      rows = are;
      exact = subst (AreRows system c.args.effects.now) (sym are) (rows-exact system c.args.effects.now c.requires);
    }
