use Rattle.std.proofs.Common.{sym, subst}
use Rattle.std.specs.Prelude.{IsTrue}
use Rattle.std.proofs.lemmas.Result.{IfOk-weaker}
use Rattle.zdd_store.specs.inner.Family.{is_within}
use Rattle.zdd_store.specs.inner.Store.{family_of}
use Rattle.cutset_lister.specs.inner.Walks.{all_sets}
use Rattle.system_answers.proofs.Listed.{listed}
use Rattle.system_answers.proofs.cut_sets.page_writer.Goals as goal

pub start-requires-clause-among : goal.start-requires-clause-among
start-requires-clause-among c = λ set here.
    subst (λ events. IsTrue (is_within set events)) (sym c.items.ensures.items) (c.in_ok-sets.ensures.among set here)

pub returns-clause-listing : goal.returns-clause-listing
returns-clause-listing c =
    IfOk-weaker c.start.result _ _ (λ writer lists. listed c.args.system.now c.args.part.now.target c.args.max_order (family_of c.cut_family.new.store c.in_ok-sets.sets) (all_sets c.start.new.store writer.listing) c.in_ok-sets.ensures.exact lists) c.start.ensures.lists
