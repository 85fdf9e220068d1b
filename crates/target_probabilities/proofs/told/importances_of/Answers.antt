use Rattle.std.proofs.Common.{subst, sym}
use Rattle.std.specs.Prelude.{IfNone}
use Rattle.zdd_store.specs.inner.Store.{family_of}
use Rattle.target_probabilities.specs.inner.Probable.{IsOver}
use Rattle.target_probabilities.proofs.told.importances_of.Goals as goal

pub returns-in_default-clause-none : goal.returns-in_default-clause-none
returns-in_default-clause-none c =
    let rates = c.args.rates.now in
    subst (IsOver rates) (c.loop-event.invariant.1.same c.args.family.position c.requires.found)
    (subst (λ o. IfNone o (IsOver rates (family_of c.loop-event.store c.args.family))) c.in_default.is c.in_ok-both.ensures.none)
