use Rattle.zdd_families.proofs.HalfLaws.{halves_made}
use Rattle.zdd_families.proofs.halving.in_halves.Goals as goal

pub returns-clause-halved : goal.returns-clause-halved
returns-clause-halved c =
    halves_made c.args.store.now c.without_sets.new.store c.without_sets-2.new.store c.args.a c.args.b c.in_ok-outer.outer c.in_ok-inner.inner _ _
    c.requires.a_in c.requires.a_apart c.without_sets.ensures.kept c.without_sets-2.ensures.kept c.in_ok-outer.ensures.answer c.in_ok-inner.ensures.answer
