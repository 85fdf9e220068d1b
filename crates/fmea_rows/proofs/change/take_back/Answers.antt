use Rattle.std.proofs.Common.{List, length, subst, arith, ◌≤◌}
use Rattle.std.proofs.lemmas.List.{drop_all}
use Rattle.fmea_rows.specs.declared.change.Change.{Change}
use Rattle.fmea_rows.proofs.TableLaws.{IsBackBut, back-all, back-none}
use Rattle.fmea_rows.proofs.change.take_back.Goals as goal

pub loop-change-init : goal.loop-change-init
loop-change-init c = back-none c.args.base.now c.args.changes.now c.args.times.now c.requires.table

pub returns : goal.returns
returns c =
    let all : length c.args.changes.now ≤ c.loop-change.change-index = omega arith in
    back-all c.args.base.now c.loop-change.times (subst (λ (cs : List Change). IsBackBut c.args.base.now cs c.loop-change.times) (drop_all c.loop-change.change-index c.args.changes.now all) c.loop-change.invariant)
