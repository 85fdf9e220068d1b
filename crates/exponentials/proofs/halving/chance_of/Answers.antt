use Rattle.exponentials.proofs.Squares.{small_chance, halved_chance, unknown_chance}
use Rattle.exponentials.proofs.halving.chance_of.Goals as goal

pub returns-then-is_part-clause-chances : goal.returns-then-is_part-clause-chances
returns-then-is_part-clause-chances c = small_chance c.args.whole c.args.x c.series.result (c.is_part.ensures.within c.if-is_part.true) c.series.ensures.low c.series.ensures.high

pub returns-then-is_part-2-clause-chances : goal.returns-then-is_part-2-clause-chances
returns-then-is_part-2-clause-chances c =
    halved_chance c.args.whole c.halved-half.result.halvings c.args.x c.halved-half.result.x c.squared_chance.result c.halved-half.ensures.low c.halved-half.ensures.high (c.is_part-2.ensures.within c.if-is_part-2.true)
    (c.is_part.ensures.above c.if-is_part.false) c.squared_chance.ensures.low c.squared_chance.ensures.high

pub returns-clause-chances : goal.returns-clause-chances
returns-clause-chances c = unknown_chance c.args.whole c.halved-half.result.halvings c.args.x c.unknown.result (c.is_part.ensures.above c.if-is_part.false) c.unknown.ensures.low c.unknown.ensures.high

pub returns-then-is_part-clause-narrow : goal.returns-then-is_part-clause-narrow
returns-then-is_part-clause-narrow c places units some narrow high room = c.series.ensures.narrow places units some narrow room
