use Rattle.std.proofs.Common.{◌*◌, ◌^◌, refl, inl, inr, arith}
use Rattle.probabilities.proofs.rates.Rate.unknown.Goals as goal

pub returns-clause-sharp : goal.returns-clause-sharp
returns-clause-sharp c places =
    record {
      least = omega arith;
      most = omega arith;
      low_places = inl refl;
      high_places = inr (omega arith);
      low_not_places = inr (omega arith);
      high_not_places = inl refl;
      low_absent = omega arith;
      high_absent = omega arith;
    }
