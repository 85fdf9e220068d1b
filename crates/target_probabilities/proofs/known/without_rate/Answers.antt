use Rattle.std.proofs.Common.{refl}
use Rattle.target_probabilities.proofs.known.without_rate.Goals as goal

pub returns-clause-known : goal.returns-clause-known
returns-clause-known c = λ given. record { found = ((c.unknown.ensures.low, c.unknown.ensures.high), refl); sharp = λ places few low high. c.unknown.ensures.sharp places }
