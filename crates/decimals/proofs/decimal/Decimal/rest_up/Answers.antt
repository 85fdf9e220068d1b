use Rattle.std.proofs.Common.{inr}
use Rattle.decimals.proofs.decimal.Decimal.rest_up.Goals as goal

pub returns-clause-near : goal.returns-clause-near
returns-clause-near c = c.rounded.ensures.near _ c.left.ensures.value

pub returns-clause-places : goal.returns-clause-places
returns-clause-places c = c.rounded.ensures.places 36 (inr c.left.ensures.places)
