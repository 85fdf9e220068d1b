use Rattle.std.proofs.Common.{subst}
use Rattle.zdd_store.specs.inner.Store.{family_of}
use Rattle.family_renaming.specs.inner.Renaming.{AreRenamed}
use Rattle.family_renaming.proofs.Own.{own_family}
use Rattle.family_renaming.proofs.event_order.renamed_family.Goals as goal

pub returns-then-names_itself-clause-renamed : goal.returns-then-names_itself-clause-renamed
returns-then-names_itself-clause-renamed c =
    subst (λ names. AreRenamed names (family_of c.args.store.now c.args.id) (family_of c.args.store.now c.args.id)) c.events.ensures.events
    (own_family c.events.result.now (c.names_itself.ensures.0 c.if-names_itself.true) (family_of c.args.store.now c.args.id) (c.laws.ensures.rising c.args.id.position c.requires))
