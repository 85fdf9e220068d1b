use Rattle.std.proofs.Common.{slice_index_or, arith}
use Rattle.std.proofs.lemmas.Option.{slice_get-get_or}
use Rattle.cutset_engine.specs.inner.Filling.{Task, task_of}
use Rattle.cutset_engine.proofs.Rounds.{swept-none, swept-next, swept-end}
use Rattle.cutset_engine.proofs.filling.sweep.Goals as goal

pub loop-number-init : goal.loop-number-init
loop-number-init c =
    let task : Task = task_of c.args.setting.now in
    swept-none task c.args.store.now c.args.now.now c.args.numbers.now c.requires

pub loop-number-preserved : goal.loop-number-preserved
loop-number-preserved c =
    let task : Task = task_of c.args.setting.now in
    swept-next task c.args.store.now c.loop-number.store c.fill_fact.new.store c.args.now.now c.loop-number.now c.fill_fact.new.now c.args.numbers.now c.loop-number.number-index (slice_index_or c.args.numbers.now c.loop-number.number-index 0) c.loop-number.changed c.in_ok-here.here c.either-changed.result
    c.loop-number.invariant c.fill_fact.ensures.kept c.in_ok-here.ensures.step (slice_get-get_or c.args.numbers.now c.loop-number.number-index 0 c.loop-number-test.true) c.either-changed.ensures

pub returns : goal.returns
returns c =
    let task : Task = task_of c.args.setting.now in
    record {
      kept = c.loop-number.invariant.kept;
      step = swept-end task c.args.store.now c.loop-number.store c.args.now.now c.loop-number.now c.args.numbers.now c.loop-number.number-index c.loop-number.changed c.loop-number.invariant (omega arith);
    }
