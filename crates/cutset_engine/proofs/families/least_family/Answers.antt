use Rattle.cutset_engine.proofs.Ending.{least-made}
use Rattle.cutset_engine.proofs.families.least_family.Goals as goal

pub returns-clause-least : goal.returns-clause-least
returns-clause-least c =
    least-made c.args.store.now c.minimal_family.new.store c.sets_within.new.store c.args.most c.args.id c.in_ok-minimal.minimal c.in_ok-answer.answer c.laws.ensures c.laws-2.ensures c.laws-3.ensures c.in_ok-minimal.ensures.found c.in_ok-minimal.ensures.covers
    c.in_ok-answer.ensures.found c.in_ok-answer.ensures.family
