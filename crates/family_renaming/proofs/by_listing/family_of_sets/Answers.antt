use Rattle.std.proofs.Common.{◌≤◌, length, arith, subst}
use Rattle.zdd_store.specs.inner.Store.{family_of}
use Rattle.zdd_families.proofs.Ways.{Keeps_trans}
use Rattle.family_renaming.specs.inner.Lists.{HasOneMore}
use Rattle.family_renaming.proofs.Added.{has_more}
use Rattle.family_renaming.proofs.by_listing.family_of_sets.Goals as goal

pub loop-at-preserved : goal.loop-at-preserved
loop-at-preserved c =
    let within : c.loop-at.at ≤ length c.args.sets.now = c.loop-at.invariant.within in
    record {
      within = omega arith;
      kept = Keeps_trans c.args.store.now c.loop-at.store c.with_set.new.store c.loop-at.invariant.kept c.with_set.ensures.kept;
      sets = has_more c.loop-at.store c.with_set.new.store (λ s. s.items) c.args.sets.now c.loop-at.at c.index-sets-at.result c.loop-at.family c.in_ok-family.family c.loop-at-test.true within c.index-sets-at.is c.loop-at.invariant.sets
          (subst (λ s. HasOneMore c.with_set.new.store s (family_of c.loop-at.store c.loop-at.family) c.in_ok-family.family) c.as_slice.ensures.value c.in_ok-family.ensures.answer);
    }
