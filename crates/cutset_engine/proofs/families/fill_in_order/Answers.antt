use Rattle.std.proofs.Common.{subst, sym}
use Rattle.cutset_engine.specs.inner.Filling.{Task, HaveTheirCauses, task_of}
use Rattle.cutset_engine.proofs.Ending.{filling-none, slice-causes}
use Rattle.cutset_engine.proofs.families.fill_in_order.Goals as goal

pub settle-requires : goal.settle-requires
settle-requires c =
    let task : Task = task_of c.args.setting.now in
    filling-none task c.args.store.now c.args.now.now c.laws.ensures c.requires.long c.requires.none

pub fill-requires-clause-causes : goal.fill-requires-clause-causes
fill-requires-clause-causes c =
    subst (HaveTheirCauses c.args.setting.now.system.now) (sym c.items.ensures.items) (slice-causes c.args.setting.now.system.now c.args.setting.now.slice.now.target c.args.setting.now.slice.now c.requires.slice)
