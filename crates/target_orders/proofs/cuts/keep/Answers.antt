use Rattle.std.proofs.Common.{sym, subst}
use Rattle.target_orders.specs.inner.Cuts.{AreCuts}
use Rattle.target_orders.proofs.CutLaws.{cuts-more}
use Rattle.target_orders.proofs.cuts.keep.Goals as goal

pub returns : goal.returns
returns c = record {
  are_cuts = subst (AreCuts c.args.system.now) (sym c.note_set.ensures) (cuts-more c.args.system.now c.args.search.now.sets.items c.args.fact c.args.set c.requires.search.are_cuts c.requires.cut);
  none = c.requires.search.none;
}
