use Rattle.std.proofs.Common.{◌+◌, ◌*◌, ◌≤◌, arith}
use Rattle.exponentials.specs.Widths.{chance_places, chance_units}
use Rattle.exponentials.proofs.Narrowing.{narrow_more}
use Rattle.event_probabilities.specs.inner.EventRates.{IsNarrowExposure}
use Rattle.event_probabilities.proofs.Exposure.{lambda_held, lambda_unknown}
use Rattle.event_probabilities.proofs.lambda.lambda_rate.Goals as goal

pub returns-in-Some-clause-rate : goal.returns-in-Some-clause-rate
returns-in-Some-clause-rate c first second one two =
    lambda_held c.args.whole first second c.in-Some.x c.chance_of.result c.held.result (rw c.in-Some.is at (c.exposure.ensures.exposure first second one two)) c.chance_of.ensures.chances c.held.ensures.low c.held.ensures.high

pub returns-in-None-clause-rate : goal.returns-in-None-clause-rate
returns-in-None-clause-rate c first second one two = lambda_unknown c.args.whole first second c.unknown.result c.unknown.ensures.low c.unknown.ensures.high

pub returns-in-Some-clause-narrow : goal.returns-in-Some-clause-narrow
returns-in-Some-clause-narrow c first second one two places units lowered room enough modest other small =
    let w = c.args.whole in
    let x : IsNarrowExposure w places c.in-Some.x = rw c.in-Some.is at (c.exposure.ensures.narrow first second places one two lowered (omega arith) modest other small) in
    c.held.ensures.narrow (chance_places places) units (omega arith) (omega arith)
    (narrow_more w (chance_places places) (chance_places places) (chance_units 6) units c.chance_of.result.span (omega arith) enough (c.chance_of.ensures.narrow places 6 (omega arith) x.narrow x.within room))

pub returns-in-None-clause-narrow : goal.returns-in-None-clause-narrow
returns-in-None-clause-narrow c first second one two places units lowered room enough modest other small =
    absurd (rw c.in-None.is at (c.exposure.ensures.narrow first second places one two lowered (omega arith) modest other small))

pub returns-in-None-clause-sharp : goal.returns-in-None-clause-sharp
returns-in-None-clause-sharp c = λ places few low high. c.unknown.ensures.sharp places
