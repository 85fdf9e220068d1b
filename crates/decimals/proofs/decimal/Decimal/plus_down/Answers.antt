use Rattle.decimals.proofs.decimal.Decimal.plus_down.Goals as goal

pub returns-clause-places : goal.returns-clause-places
returns-clause-places c places first second = c.rounded.ensures.places places (c.sum.ensures.places c.args.whole places first second)
