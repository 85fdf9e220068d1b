use Rattle.decimals.proofs.aligned.sum.Goals as goal

pub returns-then-one-other-clause-places : goal.returns-then-one-other-clause-places
returns-then-one-other-clause-places c whole places first second = c.sum_from.ensures.places whole places second first
