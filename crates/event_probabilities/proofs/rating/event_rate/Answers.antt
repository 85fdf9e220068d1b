use Rattle.decimals.specs.Numerals.{number_of}
use Rattle.event_probabilities.proofs.Narrow.{narrow_of}
use Rattle.event_probabilities.proofs.Read.{found_of, no_number}
use Rattle.event_probabilities.proofs.rating.event_rate.Goals as goal

pub returns-in-Some-clause-found : goal.returns-in-Some-clause-found
returns-in-Some-clause-found c given hours =
    found_of c.args.whole c.args.kind (number_of c.args.text.now) c.in-Some.number given c.number_rate.result.found c.number_rate.result.rate (rw c.in-Some.is at c.read.ensures) (λ read is. c.number_rate.ensures.found read given is hours)

pub returns-in-None-clause-found : goal.returns-in-None-clause-found
returns-in-None-clause-found c given hours =
    no_number c.args.whole c.args.kind (number_of c.args.text.now) given c.without.result.found c.without.result.rate (rw c.in-None.is at c.read.ensures) c.without.ensures.found c.without.ensures.unknown

pub returns-in-Some-clause-narrow : goal.returns-in-Some-clause-narrow
returns-in-Some-clause-narrow c given hours =
    narrow_of c.args.whole c.args.kind (number_of c.args.text.now) c.in-Some.number given c.number_rate.result.found c.number_rate.result.rate (rw c.in-Some.is at c.read.ensures) (λ read is. c.number_rate.ensures.narrow read given is hours)
