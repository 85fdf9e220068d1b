use Rattle.std.proofs.Common.{◌+◌, arith}
use Rattle.event_probabilities.proofs.Narrow.{prob_narrow}
use Rattle.event_probabilities.proofs.Read.{rate_read, unrated, above_found, near_found, great_above}
use Rattle.event_probabilities.proofs.rating.prob_rate.Goals as goal

pub returns-in_default-clause-found : goal.returns-in_default-clause-found
returns-in_default-clause-found c read hours is =
    unrated c.args.whole read hours c.without.result.found c.without.result.rate c.without.ensures.found c.without.ensures.unknown
    (great_above c.args.whole read (c.up.ensures.none read (c.args.whole + 1) is c.in_default.is (omega (arith, c.requires))))

pub returns-then-not-is_part-clause-found : goal.returns-then-not-is_part-clause-found
returns-then-not-is_part-clause-found c read hours is =
    let w = c.without-then-not-is_part in
    unrated c.args.whole read hours w.result.found w.result.rate w.ensures.found w.ensures.unknown
    (record {
      exact = λ few fit. above_found c.args.whole read c.in-Some.high c.up.result c.in-Some.is (c.up.ensures.exact read is few fit) (c.is_part.ensures.above c.if-not-is_part.true);
      near = λ fit. near_found c.args.whole read c.in-Some.high c.up.result c.in-Some.is (c.up.ensures.near read is fit) (c.is_part.ensures.above c.if-not-is_part.true);
    })

pub returns-in_default-down-clause-found : goal.returns-in_default-down-clause-found
returns-in_default-down-clause-found c read hours is =
    let w = c.without-in_default-down in
    unrated c.args.whole read hours w.result.found w.result.rate w.ensures.found w.ensures.unknown
    (great_above c.args.whole read (c.down.ensures.none read (c.args.whole + 1) is c.in_default-down.is (omega (arith, c.requires))))

pub returns-clause-found : goal.returns-clause-found
returns-clause-found c read hours is =
    rate_read c.args.whole read c.in-Some-down.low c.in-Some.high c.within.result c.between.result (rw c.in-Some-down.is at (c.down.ensures.down read is)) (rw c.in-Some.is at (c.up.ensures.up read is))
    (c.is_part.ensures.within c.if-not-is_part.false) c.within.ensures.value c.between.ensures.low c.between.ensures.high

pub returns-clause-narrow : goal.returns-clause-narrow
returns-clause-narrow c read hours is =
    let low = c.in-Some-down.ensures in
    let high = c.in-Some.ensures in
    prob_narrow c.args.whole read c.in-Some-down.low c.in-Some.high c.within.result c.between.result (low.down read is) (high.up read is) (c.is_part.ensures.within c.if-not-is_part.false) c.within.ensures.value
    c.between.ensures.low c.between.ensures.high (low.exact read is) (high.exact read is) (low.near read is) (high.near read is) (low.places read is) (high.places read is) c.within.ensures.places c.between.ensures.narrow
