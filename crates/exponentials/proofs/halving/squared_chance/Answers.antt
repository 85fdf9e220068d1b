use Rattle.std.proofs.Common.{◌-◌, ◌^◌, arith}
use Rattle.exponentials.proofs.Squares.{power_le}
use Rattle.exponentials.proofs.halving.squared_chance.Goals as goal

pub returns-clause-low : goal.returns-clause-low
returns-clause-low c a b d m some within chance =
    c.rest-2.ensures.low ((d - m) ^ (2 ^ c.args.halvings)) (d ^ (2 ^ c.args.halvings)) (power_le (d - m) d c.args.halvings (omega arith))
    (c.squared.ensures.high (d - m) d (omega arith) (c.rest.ensures.high m d chance.part (c.series.ensures.low a b d m some within chance)))

pub returns-clause-high : goal.returns-clause-high
returns-clause-high c a b d m some within chance =
    c.rest-2.ensures.high ((d - m) ^ (2 ^ c.args.halvings)) (d ^ (2 ^ c.args.halvings)) (power_le (d - m) d c.args.halvings (omega arith))
    (c.squared.ensures.low (d - m) d (omega arith) (c.rest.ensures.low m d chance.part (c.series.ensures.high a b d m some within chance)))
