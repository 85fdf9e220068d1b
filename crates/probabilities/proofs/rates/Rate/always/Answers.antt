use Rattle.std.proofs.Common.{◌*◌, ◌^◌, refl, inl, inr, arith}
use Rattle.decimals.proofs.Nearness.{near_same}
use Rattle.probabilities.proofs.rates.Rate.always.Goals as goal

pub returns-clause-narrow : goal.returns-clause-narrow
returns-clause-narrow c places units =
    record {
      fits = record { least = omega arith; most = omega arith };
      low_places = inr (omega arith);
      high_places = inr (omega arith);
      low_not_places = inl refl;
      high_not_places = inl refl;
      present = near_same units (1 * 10 ^ c.args.whole);
      absent = near_same units 0;
    }

pub returns-clause-sharp : goal.returns-clause-sharp
returns-clause-sharp c places =
    record {
      least = omega arith;
      most = omega arith;
      low_places = inr (omega arith);
      high_places = inr (omega arith);
      low_not_places = inl refl;
      high_not_places = inl refl;
      low_absent = omega arith;
      high_absent = omega arith;
    }
