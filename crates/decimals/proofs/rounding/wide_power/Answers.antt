use Rattle.std.proofs.Common.{◌-◌, sym, arith}
use Rattle.decimals.proofs.Powers.{ten_sum, wide_most}
use Rattle.decimals.proofs.rounding.wide_power.Goals as goal

pub returns-clause-value : goal.returns-clause-value
returns-clause-value c =
    let h = c.min-half.result in
    rw (c.power.ensures, c.power-2.ensures) (sym (ten_sum c.args.count h (c.args.count - h) (omega (arith, c.min-half.ensures))))

pub returns-clause-most : goal.returns-clause-most
returns-clause-most c =
    rw (c.power.ensures, c.power-2.ensures) (wide_most c.min-half.result (c.args.count - c.min-half.result) (omega (arith, c.min-half.ensures)) (omega (arith, c.min-half.ensures, c.requires)))
