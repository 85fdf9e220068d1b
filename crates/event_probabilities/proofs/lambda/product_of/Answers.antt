use Rattle.std.proofs.Common.{◌+◌, ◌*◌, ◌^◌, ◌≤◌, arith}
use Rattle.decimals.specs.Decimals.{parts}
use Rattle.event_probabilities.proofs.Exposure.{product_within, inside}
use Rattle.event_probabilities.proofs.Narrow.{wide_power, wider_places, small_product, square_within, exposure_narrow}
use Rattle.event_probabilities.proofs.lambda.product_of.Goals as goal

pub returns-clause-product : goal.returns-clause-product
returns-clause-product c first second one two =
    product_within c.args.whole first second c.args.lambda c.args.hours _ one two c.times_down.ensures.down c.times_up-high.ensures.up (c.is_part.ensures.within c.if-not-is_part.false)

pub returns-then-not-is_part-clause-narrow : goal.returns-then-not-is_part-clause-narrow
returns-then-not-is_part-clause-narrow c first second p q one two fit small =
    let w = c.args.whole in
    let l = c.args.lambda.high in
    let up = c.times_up-high.ensures.near (p + 20) q (wider_places w 20 p l.mantissa l.exponent one.narrow.high_places) two.narrow.high_places (omega arith) in
    let few = small_product w p q first second c.args.lambda c.args.hours (parts c.times_up-high.result) one two small up in
    let wide = wide_power w 13 in
    absurd (omega (arith, c.is_part.ensures.above c.if-not-is_part.true))

pub returns-clause-narrow : goal.returns-clause-narrow
returns-clause-narrow c first second p q one two fit small =
    let w = c.args.whole in
    let l = c.args.lambda in
    let high_places = wider_places w 20 p l.high.mantissa l.high.exponent one.narrow.high_places in
    let low_places = wider_places w 20 p l.low.mantissa l.low.exponent one.narrow.low_places in
    let up = c.times_up-high.ensures.near (p + 20) q high_places two.narrow.high_places (omega arith) in
    let few = small_product w p q first second l c.args.hours (parts c.times_up-high.result) one two small up in
    let product = inside w (parts c.times_up-high.result) (parts l.high * parts c.args.hours.high) c.times_up-high.ensures.up (c.is_part.ensures.within c.if-not-is_part.false) in
    let square = square_within w (parts l.low) (parts c.args.hours.low) (parts l.high) (parts c.args.hours.high) (parts c.times_up-high.result) one.narrow.order two.narrow.order product few in
    exposure_narrow w p q l c.args.hours _ one.narrow two.narrow few up (c.times_down.ensures.near (p + 20) q low_places two.narrow.low_places (omega arith) (omega (arith, square)))
    (c.times_down.ensures.places (p + 20) q low_places two.narrow.low_places (omega arith)) (c.times_up-high.ensures.places (p + 20) q high_places two.narrow.high_places (omega arith))
    c.times_down.ensures.down product
