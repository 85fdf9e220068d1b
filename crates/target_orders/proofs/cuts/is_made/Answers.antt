use Rattle.std.proofs.Common.{sym, subst}
use Rattle.target_orders.specs.inner.Cuts.{AreCuts}
use Rattle.target_orders.proofs.CutLaws.{cut-of, none-left}
use Rattle.target_orders.proofs.cuts.is_made.Goals as goal

pub makes-is_made-requires-clause-sets : goal.makes-is_made-requires-clause-sets
makes-is_made-requires-clause-sets c = subst (AreCuts c.args.system.now) (sym c.as_slice.ensures.value) c.requires.search.are_cuts

pub returns-clause-made : goal.returns-clause-made
returns-clause-made c there =
    cut-of c.args.system.now c.put_list.new.marks c.args.search.now.marks c.args.set.now c.args.fact c.requires.search.none c.put_list.ensures (c.makes-is_made.ensures there)

pub returns-clause-search : goal.returns-clause-search
returns-clause-search c = record {
  are_cuts = c.requires.search.are_cuts;
  none = none-left c.args.search.now.marks c.put_list.new.marks c.take_list.new.marks c.args.set.now c.requires.search.none c.put_list.ensures c.take_list.ensures;
}
