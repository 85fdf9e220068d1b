use Rattle.std.proofs.Common.{inl, refl, arith}
use Rattle.decimals.proofs.Nearness.{near_same}
use Rattle.exponentials.proofs.span.Span.nothing.Goals as goal

pub returns-clause-narrow : goal.returns-clause-narrow
returns-clause-narrow c whole places units = record { low_places = inl refl; high_places = inl refl; order = omega arith; near = near_same units 0 }
