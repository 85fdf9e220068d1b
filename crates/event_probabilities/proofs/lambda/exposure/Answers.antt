use Rattle.std.proofs.Common.{◌+◌, ◌≤◌, subst, arith}
use Rattle.std.specs.Prelude.{IsSomeAnd}
use Rattle.event_probabilities.specs.inner.EventRates.{IsNarrowExposure}
use Rattle.event_probabilities.proofs.Narrow.{more_exposure}
use Rattle.event_probabilities.proofs.lambda.exposure.Goals as goal

pub returns-in_default-clause-narrow : goal.returns-in_default-clause-narrow
returns-in_default-clause-narrow c first second places one two lowered room modest other small =
    c.in_default.ensures.narrow first first.lowered one (omega arith) (omega arith) (omega (arith, c.requires)) modest

pub returns-in_default-span_of-clause-narrow : goal.returns-in_default-span_of-clause-narrow
returns-in_default-span_of-clause-narrow c first second places one two lowered room modest other small =
    c.in_default-span_of.ensures.narrow second second.lowered two (omega arith) (omega arith) (omega (arith, c.requires)) other

pub returns-clause-narrow : goal.returns-clause-narrow
returns-clause-narrow c first second places one two lowered room modest other small =
    more_exposure c.args.whole (first.lowered + second.lowered) places c.product_of.result lowered
    (c.product_of.ensures.narrow first second first.lowered second.lowered (c.in-Some.ensures.narrow first first.lowered one (omega arith) (omega arith) (omega (arith, c.requires)) modest)
    (c.in-Some-span_of.ensures.narrow second second.lowered two (omega arith) (omega arith) (omega (arith, c.requires)) other) (omega arith) small)
