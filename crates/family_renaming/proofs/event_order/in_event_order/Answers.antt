use Rattle.zdd_store.specs.inner.Store.{family_of}
use Rattle.family_renaming.proofs.Members.{renamed_sets}
use Rattle.family_renaming.proofs.event_order.in_event_order.Goals as goal

pub returns-clause-sets : goal.returns-clause-sets
returns-clause-sets c = renamed_sets c.args.order.now.events (family_of c.args.store.now c.args.id) (family_of c.renamed_family.new.store c.in_ok-answer.answer) c.in_ok-answer.ensures.renamed
