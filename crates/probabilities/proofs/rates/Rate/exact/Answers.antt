use Rattle.std.proofs.Common.{arith}
use Rattle.decimals.specs.Decimals.{parts}
use Rattle.decimals.proofs.Nearness.{near_same}
use Rattle.probabilities.proofs.rates.Rate.exact.Goals as goal

pub returns-clause-narrow : goal.returns-clause-narrow
returns-clause-narrow c places units few enough have = c.between.ensures.narrow places units few enough have have (omega arith) (near_same units (parts c.args.probability))

pub returns-clause-sharp : goal.returns-clause-sharp
returns-clause-sharp c places few have = c.between.ensures.sharp places few have have
