use Rattle.std.proofs.Common.{◌^◌, arith}
use Rattle.decimals.proofs.Powers.{ten_pos, great_power}
use Rattle.decimals.proofs.Cuts.{cut_exact, cut_little, cut_quotient, cut_ceiling}
use Rattle.decimals.proofs.rounding.Side.cut.Goals as goal

pub returns-then-number-eq0-clause-cut : goal.returns-then-number-eq0-clause-cut
returns-then-number-eq0-clause-cut c = cut_exact c.args.self c.args.number 0 (10 ^ c.args.count) (ten_pos c.args.count) (omega (arith, c.if-number-eq0.true))

pub returns-then-count-gt18-clause-cut : goal.returns-then-count-gt18-clause-cut
returns-then-count-gt18-clause-cut c =
    let h = great_power c.args.count c.if-count-gt18.true in
    rw c.least.ensures (cut_little c.args.self c.args.number (10 ^ c.args.count) (omega (arith, c.if-number-eq0.false)) (omega (arith, c.requires)))

pub nonzero_div-result : goal.nonzero_div-result
nonzero_div-result c = rw c.power-part.ensures (ten_pos c.args.count)

pub div_ceil-requires : goal.div_ceil-requires
div_ceil-requires c = rw c.power-part.ensures (ten_pos c.args.count)

pub returns-in-Down-clause-cut : goal.returns-in-Down-clause-cut
returns-in-Down-clause-cut c = rw (c.in-Down.is, c.power-part.ensures) (cut_quotient c.args.number (10 ^ c.args.count) (ten_pos c.args.count))

pub returns-in-Up-clause-cut : goal.returns-in-Up-clause-cut
returns-in-Up-clause-cut c =
    rw (c.in-Up.is, ← c.power-part.ensures) (cut_ceiling c.args.number c.div_ceil.result c.power-part.result (rw c.power-part.ensures (ten_pos c.args.count)) c.div_ceil.ensures)
