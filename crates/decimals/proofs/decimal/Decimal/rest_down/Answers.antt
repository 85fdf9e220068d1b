use Rattle.std.proofs.Common.{inr}
use Rattle.decimals.proofs.decimal.Decimal.rest_down.Goals as goal

pub returns-clause-places : goal.returns-clause-places
returns-clause-places c = c.rounded.ensures.places 36 (inr c.left.ensures.places)
