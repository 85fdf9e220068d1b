use Rattle.std.proofs.Common.{length, sym}
use Rattle.std.proofs.lemmas.Bool.{eqb-true}
use Rattle.cut_reports.proofs.Families.{none_chosen}
use Rattle.cut_reports.proofs.feeding.feed_sets.Goals as goal

pub returns-then-is_empty-clause-took : goal.returns-then-is_empty-clause-took
returns-then-is_empty-clause-took g c = none_chosen _ c.args.chosen.now _ (eqb-true (length c.args.chosen.now) 0 (sym c.if-is_empty.ensures))

pub returns-then-is_empty-clause-kept : goal.returns-then-is_empty-clause-kept
returns-then-is_empty-clause-kept g c = none_chosen _ c.args.chosen.now _ (eqb-true (length c.args.chosen.now) 0 (sym c.if-is_empty.ensures))
