use Rattle.std.proofs.Common.{◌^◌, min, arith}
use Rattle.decimals.specs.Decimals.{parts}
use Rattle.event_probabilities.proofs.Narrow.{held_near}
use Rattle.event_probabilities.proofs.lambda.held.Goals as goal

pub returns-clause-narrow : goal.returns-clause-narrow
returns-clause-narrow c places units few enough narrow =
    let span = c.args.chance.span in
    c.between.ensures.narrow places units few enough (c.within.ensures.places places narrow.low_places) (c.within-2.ensures.places places narrow.high_places)
    (omega (arith, narrow.order, c.within.ensures.value, c.within-2.ensures.value))
    (rw (c.within-2.ensures.value, c.within.ensures.value) (held_near (10 ^ c.args.whole) units (parts span.high) (parts span.low) narrow.near))
