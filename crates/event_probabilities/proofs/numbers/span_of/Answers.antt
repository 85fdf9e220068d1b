use Rattle.std.proofs.Common.{◌+◌, ◌≤◌, arith}
use Rattle.decimals.specs.Decimals.{number_parts}
use Rattle.decimals.proofs.Nearness.{more_places}
use Rattle.event_probabilities.proofs.Narrow.{span_near, span_order, not_great}
use Rattle.event_probabilities.proofs.numbers.span_of.Goals as goal

pub returns-in_default-clause-narrow : goal.returns-in_default-clause-narrow
returns-in_default-clause-narrow c read places is lowered room few modest = not_great c.args.whole read modest (c.down.ensures.none read (c.args.whole + 101) is c.in_default.is (omega arith))

pub returns-in_default-up-clause-narrow : goal.returns-in_default-up-clause-narrow
returns-in_default-up-clause-narrow c read places is lowered room few modest = not_great c.args.whole read modest (c.up.ensures.none read (c.args.whole + 101) is c.in_default-up.is (omega arith))

pub returns-clause-narrow : goal.returns-clause-narrow
returns-clause-narrow c read places is lowered room few modest =
    let w = c.args.whole in
    let fit : read.lowered ≤ read.raised + w = omega arith in
    let low = c.in-Some.low in
    let high = c.in-Some-up.high in
    record {
      narrow =
          record {
            low_places = more_places w read.lowered places low.mantissa low.exponent lowered (c.in-Some.ensures.places read is fit);
            high_places = more_places w read.lowered places high.mantissa high.exponent lowered (c.in-Some-up.ensures.places read is fit);
            order = span_order read low high (number_parts w read) (c.in-Some.ensures.down read is) (c.in-Some-up.ensures.up read is);
            near = span_near read low high (number_parts w read) (c.in-Some-up.ensures.near read is fit) (c.in-Some.ensures.near read is fit);
          };
      above = c.in-Some-up.ensures.near read is fit;
    }
