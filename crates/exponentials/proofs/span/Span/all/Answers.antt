use Rattle.std.proofs.Common.{◌*◌, ◌^◌, inr, arith}
use Rattle.decimals.proofs.Nearness.{near_same}
use Rattle.exponentials.proofs.span.Span.all.Goals as goal

pub returns-clause-narrow : goal.returns-clause-narrow
returns-clause-narrow c places units = record { low_places = inr (omega arith); high_places = inr (omega arith); order = omega arith; near = near_same units (1 * 10 ^ c.args.whole) }
