use Rattle.std.proofs.Common.{◌+◌, ◌*◌}
use Rattle.exponentials.proofs.Summing.{first_terms}
use Rattle.exponentials.proofs.Narrowing.{first_narrow}
use Rattle.exponentials.proofs.series.Terms.first.Goals as goal

pub returns-clause-terms : goal.returns-clause-terms
returns-clause-terms c x =
    first_terms c.args.whole x _ c.all.ensures.low c.all.ensures.high c.nothing.ensures.low c.nothing.ensures.high c.nothing-2.ensures.low c.nothing-2.ensures.high

pub returns-clause-narrow : goal.returns-clause-narrow
returns-clause-narrow c places units =
    first_narrow c.args.whole places units _ (c.all.ensures.narrow (0 * (places + 18)) (0 * (units + 50))) (c.nothing.ensures.narrow c.args.whole (0 * (places + 18)) (0 * (units + 52)))
    (c.nothing-2.ensures.narrow c.args.whole (0 * (places + 18)) (0 * (units + 52))) c.all.ensures.low c.nothing.ensures.low c.nothing-2.ensures.low
