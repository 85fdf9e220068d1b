use Rattle.std.proofs.Common.{◌*◌, ◌^◌, refl, inl, inr, arith}
use Rattle.decimals.proofs.Nearness.{near_same}
use Rattle.probabilities.proofs.rates.Rate.never.Goals as goal

pub returns-clause-narrow : goal.returns-clause-narrow
returns-clause-narrow c places units =
    record {
      fits = record { least = omega arith; most = omega arith };
      low_places = inl refl;
      high_places = inl refl;
      low_not_places = inr (omega arith);
      high_not_places = inr (omega arith);
      present = near_same units 0;
      absent = near_same units (1 * 10 ^ c.args.whole);
    }

pub returns-clause-sharp : goal.returns-clause-sharp
returns-clause-sharp c places =
    record {
      least = omega arith;
      most = omega arith;
      low_places = inl refl;
      high_places = inl refl;
      low_not_places = inr (omega arith);
      high_not_places = inr (omega arith);
      low_absent = omega arith;
      high_absent = omega arith;
    }
