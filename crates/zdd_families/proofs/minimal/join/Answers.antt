use Rattle.zdd_families.proofs.Ways.{joined_finish}
use Rattle.zdd_families.proofs.minimal.join.Goals as goal

pub returns : goal.returns
returns c =
    joined_finish c.args.store.now c.without_sets.new.store c.make.new.self c.args.lo c.args.hi c.in_ok-others.others c.args.var _ c.make.result
    c.without_sets.ensures.kept c.make.ensures.kept c.requires.lo_in c.in_ok-others.ensures.answer c.make.ensures.found c.make.ensures.family
    c.requires.lo_greater c.requires.hi_greater c.requires.lo_apart c.requires.hi_apart
