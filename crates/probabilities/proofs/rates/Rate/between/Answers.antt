use Rattle.std.proofs.Common.{◌+◌, ◌-◌, ◌^◌, ◌≤◌, arith}
use Rattle.decimals.specs.Decimals.{parts, AreNear}
use Rattle.decimals.proofs.Nearness.{near_then, near_more, more_places}
use Rattle.probabilities.proofs.rates.Rate.between.Goals as goal

pub returns-clause-narrow : goal.returns-clause-narrow
returns-clause-narrow c places units few enough low_places high_places order near =
    let w = c.args.whole in
    let low = c.args.low in
    let high = c.args.high in
    let down = c.rest_down in
    let up = c.rest_up in
    let less : 10 ^ w - parts high ≤ 10 ^ w - parts low = omega arith in
    let same : AreNear 0 (10 ^ w - parts high) (10 ^ w - parts low) = omega (arith, less) in
    let first : AreNear 1 (parts up.result) (10 ^ w - parts high) = up.ensures.near in
    let last : AreNear 1 (10 ^ w - parts low) (parts down.result) = down.ensures.near in
    let absent = near_then 1 1 (parts up.result) (10 ^ w - parts low) (parts down.result) (near_then 1 0 (parts up.result) (10 ^ w - parts high) (10 ^ w - parts low) first same) last in
    record {
      fits = record { least = omega (arith, down.ensures.down); most = omega (arith, up.ensures.up) };
      low_places = low_places;
      high_places = high_places;
      low_not_places = more_places w 36 places down.result.mantissa down.result.exponent few down.ensures.places;
      high_not_places = more_places w 36 places up.result.mantissa up.result.exponent few up.ensures.places;
      present = near;
      absent = near_more 2 units (parts up.result) (parts down.result) enough absent;
    }

pub returns-clause-sharp : goal.returns-clause-sharp
returns-clause-sharp c places few low_places high_places =
    let w = c.args.whole in
    let down = c.rest_down in
    let up = c.rest_up in
    record {
      least = omega (arith, down.ensures.down);
      most = c.requires.high;
      low_places = low_places;
      high_places = high_places;
      low_not_places = more_places w 36 places down.result.mantissa down.result.exponent few down.ensures.places;
      high_not_places = more_places w 36 places up.result.mantissa up.result.exponent few up.ensures.places;
      low_absent = down.ensures.near;
      high_absent = up.ensures.near;
    }
