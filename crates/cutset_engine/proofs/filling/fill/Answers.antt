use Rattle.std.proofs.Common.{refl, subst, arith, ◌≡◌, length, Contains}
use Rattle.zdd_families.proofs.Ways.{Keeps_trans, Keeps_same}
use Rattle.cutset_engine.specs.inner.Filling.{Task, IsStep, task_of}
use Rattle.cutset_engine.proofs.Rounds.{rounds-none, rounds-next, rounds-all, filled-from}
use Rattle.cutset_engine.proofs.filling.fill.Goals as goal

pub loop-round-init : goal.loop-round-init
loop-round-init c =
    let task : Task = task_of c.args.setting.now in
    record { kept = Keeps_same c.args.store.now; filling = c.requires.filling; rounds = rounds-none task c.args.numbers.now c.args.store.now c.args.now.now }

pub loop-round-preserved : goal.loop-round-preserved
loop-round-preserved c =
    let task : Task = task_of c.args.setting.now in
    record {
      kept = Keeps_trans c.args.store.now c.loop-round.store c.sweep.new.store c.loop-round.invariant.kept c.sweep.ensures.kept;
      filling = c.in_ok-sweep.ensures.step.filling;
      rounds = rounds-next task c.args.numbers.now c.loop-round.store c.sweep.new.store c.loop-round.now c.sweep.new.now c.in_ok-sweep.field-0 c.loop-round.round c.requires.causes c.loop-round.invariant.rounds c.in_ok-sweep.ensures.step;
    }

pub returns-then-not-branch-clause-filled : goal.returns-then-not-branch-clause-filled
returns-then-not-branch-clause-filled c =
    let task : Task = task_of c.args.setting.now in
    let step = subst (IsStep task c.loop-round.store c.sweep.new.store c.loop-round.now c.sweep.new.now (Contains c.args.numbers.now)) c.if-not-branch.true c.in_ok-sweep.ensures.step in
    filled-from task c.args.numbers.now c.sweep.new.store c.sweep.new.now (length c.args.setting.now.system.now.facts) step.filling
    (rounds-all task c.args.numbers.now c.loop-round.store c.sweep.new.store c.loop-round.now c.sweep.new.now c.requires.causes c.loop-round.invariant.filling c.sweep.ensures.kept step (length c.args.setting.now.system.now.facts)) refl

pub returns-clause-filled : goal.returns-clause-filled
returns-clause-filled c =
    let task : Task = task_of c.args.setting.now in
    let all : c.loop-round.round ≡ length c.args.setting.now.system.now.facts = omega arith in
    filled-from task c.args.numbers.now c.loop-round.store c.loop-round.now c.loop-round.round c.loop-round.invariant.filling c.loop-round.invariant.rounds all
