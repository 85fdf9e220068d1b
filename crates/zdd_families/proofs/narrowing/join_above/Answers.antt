use Rattle.std.proofs.Common.{◌∙◌}
use Rattle.zdd_store.specs.inner.Store.{family_of}
use Rattle.zdd_families.proofs.Branchwise.{without-same_covers}
use Rattle.zdd_families.proofs.Ways.{joined_finish}
use Rattle.zdd_families.proofs.narrowing.join_above.Goals as goal

pub returns : goal.returns
returns c =
    joined_finish c.args.store.now c.without_wide.new.store c.make.new.self c.args.lo c.args.hi c.in_ok-others.others c.args.var _ c.make.result
    c.without_wide.ensures.kept c.make.ensures.kept c.requires.lo_in
    (record {
      found = c.in_ok-others.ensures.answer.found;
      least = c.in_ok-others.ensures.answer.least;
      right = c.in_ok-others.ensures.answer.right ∙ without-same_covers (family_of c.args.store.now c.args.hi) (family_of c.args.store.now c.args.below) (family_of c.args.store.now c.args.lo) c.requires.same;
    })
    c.make.ensures.found c.make.ensures.family c.requires.lo_greater c.requires.hi_greater c.requires.lo_apart c.requires.hi_apart
