use Rattle.zdd_store.specs.inner.Store.{family_of}
use Rattle.forbidden_sets.proofs.Firsts.{with-first, with-sizes}
use Rattle.forbidden_sets.proofs.Staying.{all-stay}
use Rattle.forbidden_sets.proofs.forbidden.first_with.Goals as goal

pub smallest-requires-clause-sizes : goal.smallest-requires-clause-sizes
smallest-requires-clause-sizes c =
    with-sizes c.args.judged.now.system.now c.args.judged.now.slice.now.target c.args.event c.events-most.result (family_of c.sets_with.new.store c.in_ok-with_it.with_it) c.events-most.ensures.count c.in_ok-with_it.ensures.exact

pub returns-clause-first : goal.returns-clause-first
returns-clause-first c =
    with-first c.args.judged.now.system.now c.args.judged.now.slice.now.target c.args.event (family_of c.sets_with.new.store c.in_ok-with_it.with_it) c.smallest.result c.in_ok-with_it.ensures.exact c.smallest.ensures.first

pub returns-clause-families : goal.returns-clause-families
returns-clause-families c =
    all-stay c.args.judged.now.system.now c.sets_with.new.store c.smallest.new.store c.sets_with.new.families c.smallest.ensures.kept c.sets_with.ensures.families
