use Rattle.zdd_store.specs.inner.Store.{family_of}
use Rattle.forbidden_sets.proofs.Firsts.{first-found, sizes-of}
use Rattle.forbidden_sets.proofs.Staying.{all-stay}
use Rattle.forbidden_sets.proofs.searching.first_within.Goals as goal

pub smallest-requires-clause-sizes : goal.smallest-requires-clause-sizes
smallest-requires-clause-sizes c =
    sizes-of c.args.judged.now.system.now c.args.judged.now.slice.now.target c.args.parts.now c.args.order (family_of c.other_sets.new.store c.in_ok-id.id) c.in_ok-id.ensures.exact c.requires.some

pub returns-clause-first : goal.returns-clause-first
returns-clause-first c =
    first-found c.args.judged.now.system.now c.args.judged.now.slice.now.target c.args.parts.now c.args.order (family_of c.other_sets.new.store c.in_ok-id.id) c.smallest.result c.in_ok-id.ensures.exact c.smallest.ensures.first

pub returns-clause-families : goal.returns-clause-families
returns-clause-families c =
    all-stay c.args.judged.now.system.now c.other_sets.new.store c.smallest.new.store c.other_sets.new.families c.smallest.ensures.kept c.other_sets.ensures.families
