use Rattle.event_probabilities.proofs.rating.without.Goals as goal

pub returns-clause-sharp : goal.returns-clause-sharp
returns-clause-sharp c = λ places few low high. c.unknown.ensures.sharp places
