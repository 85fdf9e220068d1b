use Rattle.std.proofs.Common.{ℕ, subst}
use Rattle.cutset_engine.specs.inner.Families.{HasMinimalCutSets}
use Rattle.zdd_store.specs.inner.Store.{family_of}
use Rattle.cutset_engine.proofs.singles.sliced_family.Goals as goal

pub returns-in_ok-part_family-in-Ok-clause-exact : goal.returns-in_ok-part_family-in-Ok-clause-exact
returns-in_ok-part_family-in-Ok-clause-exact c =
    subst (λ (n : ℕ). HasMinimalCutSets c.args.system.now n c.args.most (family_of c.part_family.new.store c.in_ok-part_family-in-Ok.field-0)) c.in-Ok.ensures.is_slice.target_is c.in_ok-part_family-in-Ok.ensures.exact
