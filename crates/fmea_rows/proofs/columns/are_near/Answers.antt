use Rattle.std.proofs.Common.{◌≡◌, sym, subst, ⊎_elim, arith}
use Rattle.std.proofs.lemmas.Bool.{cases_eq}
use Rattle.fault_system.specs.Rounds.{time_of}
use Rattle.fmea_rows.specs.inner.Columns.{IsNear}
use Rattle.fmea_rows.proofs.columns.are_near.Goals as goal

pub loop-number-preserved : goal.loop-number-preserved
loop-number-preserved c = λ n h. ⊎_elim
    (λ (same : n ≡ c.loop-number.number). subst (IsNear c.args.system.now (time_of c.args.facts.now) (time_of c.args.events.now)) (sym same) (c.is_near.ensures c.if-not-is_near.false))
    (λ differ. c.loop-number.invariant n (omega (arith, differ, h)))
    (cases_eq n c.loop-number.number)

pub returns : goal.returns
returns c = λ yes n h. c.loop-number.invariant n (omega (arith, h, c.loop-number-test.false, c.facts-number-end.ensures.count))
