use Rattle.std.proofs.Common.{arith}
use Rattle.decimals.specs.Decimals.{parts}
use Rattle.exponentials.proofs.Squares.{half_low, half_high}
use Rattle.exponentials.proofs.halving.halved.Goals as goal

pub loop-halvings-preserved : goal.loop-halvings-preserved
loop-halvings-preserved c =
    let i = c.loop-halvings.invariant in
    let l = c.loop-halvings.half in
    let h = c.half-half in (
      omega (arith, c.loop-halvings-test.true),
      half_low (parts l.low) (parts h.result.low) (parts c.args.x.low) c.loop-halvings.halvings h.ensures.low i.1,
      half_high (parts l.high) (parts h.result.high) (parts c.args.x.high) c.loop-halvings.halvings h.ensures.high i.2,
    )
