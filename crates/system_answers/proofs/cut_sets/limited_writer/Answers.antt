use Rattle.std.proofs.Common.{sym, subst}
use Rattle.std.specs.Prelude.{IsTrue}
use Rattle.std.proofs.lemmas.Result.{IfOk-weaker}
use Rattle.zdd_store.specs.inner.Family.{is_within}
use Rattle.cutset_lister.specs.inner.Walks.{all_sets}
use Rattle.system_answers.proofs.cut_sets.limited_writer.Goals as goal

pub start-requires-clause-sets : goal.start-requires-clause-sets
start-requires-clause-sets c = λ set here. (c.in_ok-sets.ensures.serves.minimal set here).0.0

pub start-requires-clause-among : goal.start-requires-clause-among
start-requires-clause-among c = λ set here.
    let part = c.args.part.now in
    subst (λ events. IsTrue (is_within set events)) (sym c.items.ensures.items)
    (c.in_slice.ensures c.args.system.now part.target part set c.requires (c.in_ok-sets.ensures.serves.minimal set here))

pub returns-clause-page : goal.returns-clause-page
returns-clause-page c =
    IfOk-weaker c.start.result _ _ (λ writer lists. c.in_ok-sets.ensures.serves.page (all_sets c.start.new.store writer.listing) lists) c.start.ensures.lists
