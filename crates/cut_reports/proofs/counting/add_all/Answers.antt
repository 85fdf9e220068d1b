use Rattle.std.proofs.Common.{refl, arith}
use Rattle.cut_reports.proofs.Adding.{added_next, added_none}
use Rattle.cut_reports.proofs.counting.add_all.Goals as goal

pub loop-place-init : goal.loop-place-init
loop-place-init c = record { added = added_none _ _; count = refl }

pub loop-place-preserved : goal.loop-place-preserved
loop-place-preserved c = record {
  added = added_next c.loop-place.place _ c.args.more.now _ _ _ refl c.loop-place.invariant.added c.add_at.ensures.added;
  count = omega (arith, c.loop-place.invariant.count, c.add_at.ensures.count);
}

pub returns-clause-added : goal.returns-clause-added
returns-clause-added c i h = c.loop-place.invariant.added.done i (omega (arith, h, c.requires, c.args.counts.now.ok.0))
