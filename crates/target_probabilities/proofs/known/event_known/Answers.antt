use Rattle.std.proofs.Common.{◌∙◌, None, Some, ap, sym}
use Rattle.std.specs.Prelude.{option_copied}
use Rattle.target_probabilities.proofs.Probable.{known_at}
use Rattle.target_probabilities.proofs.known.event_known.Goals as goal

pub returns-in-Some-clause-known : goal.returns-in-Some-clause-known
returns-in-Some-clause-known c = λ given read.
    known_at c.args.whole c.args.rates.now c.args.event given c.rate_known.result (Some c.in-Some.rate.now) (sym c.rate_at.ensures ∙ ap option_copied c.in-Some.is) (c.rate_known.ensures.known given read)

pub returns-in-None-clause-known : goal.returns-in-None-clause-known
returns-in-None-clause-known c = λ given read.
    known_at c.args.whole c.args.rates.now c.args.event given c.without_rate.result None (sym c.rate_at.ensures ∙ ap option_copied c.in-None.is) (c.without_rate.ensures.known given)
