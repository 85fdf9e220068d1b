use Rattle.event_probabilities.proofs.Narrow.{hourly_narrow}
use Rattle.event_probabilities.proofs.rating.hourly_rate.Goals as goal

pub returns-in-Some-clause-narrow : goal.returns-in-Some-clause-narrow
returns-in-Some-clause-narrow c read given is hours =
    hourly_narrow c.args.whole read given c.args.hours c.in-Some.hours c.lambda_rate.result c.in-Some.is hours (λ second two. c.lambda_rate.ensures.narrow read second is two)
