use Rattle.std.proofs.Common.{ℕ, refl, subst}
use Rattle.cutset_engine.specs.inner.Families.{HasMinimalCutSets}
use Rattle.zdd_store.specs.inner.Store.{family_of}
use Rattle.path_sets.proofs.families.cut_family.Goals as goal

pub returns-clause-exact : goal.returns-clause-exact
returns-clause-exact c =
    subst (λ (n : ℕ). HasMinimalCutSets c.args.system.now n c.args.most (family_of c.family.new.store c.in_ok-family.family)) c.in_ok-slice.ensures.is_slice.target_is c.in_ok-family.ensures.exact

pub returns-clause-events : goal.returns-clause-events
returns-clause-events c = (c.in_ok-slice.slice, c.in_ok-slice.ensures, refl)
