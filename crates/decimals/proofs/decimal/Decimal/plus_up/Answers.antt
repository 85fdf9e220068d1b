use Rattle.decimals.proofs.decimal.Decimal.plus_up.Goals as goal

pub returns-clause-near : goal.returns-clause-near
returns-clause-near c = c.rounded.ensures.near _ c.sum.ensures.value

pub returns-clause-places : goal.returns-clause-places
returns-clause-places c places first second = c.rounded.ensures.places places (c.sum.ensures.places c.args.whole places first second)
