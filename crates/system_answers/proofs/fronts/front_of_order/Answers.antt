use Rattle.std.proofs.Common.{◌≡◌, Some, sym, subst}
use Rattle.std.specs.Prelude.{IsTrue}
use Rattle.zdd_store.specs.inner.Family.{Family, is_within}
use Rattle.zdd_store.specs.inner.Store.{family_of}
use Rattle.system_answers.specs.inner.Fronts.{ServesPage}
use Rattle.system_answers.proofs.FirstSets.{serves-front}
use Rattle.system_answers.proofs.fronts.front_of_order.Goals as goal

pub has_more_sets-requires-clause-among : goal.has_more_sets-requires-clause-among
has_more_sets-requires-clause-among c = λ set here.
    let part = c.args.asked.now.slice.now in
    subst (λ events. IsTrue (is_within set events)) (sym c.items.ensures.items)
    (c.in_slice.ensures c.args.asked.now.system.now part.target part set c.requires.slice ((c.in_ok-id.ensures.exact set).0 here).0)

pub returns-then-branch-clause-serves : goal.returns-then-branch-clause-serves
returns-then-branch-clause-serves c =
    let system = c.args.asked.now.system.now in
    let target = c.args.asked.now.slice.now.target in
    let id = c.in_ok-id.id in
    let same : family_of c.has_more_sets.new.store id ≡ family_of c.family_in_rounds.new.store id = c.has_more_sets.ensures.kept.same id.position c.in_ok-id.ensures.found in
    subst (λ (family : Family). ServesPage system target c.args.asked.now.most c.args.window.now.start.now (Some c.args.window.now.limit) family) (sym same)
    (serves-front system target c.args.asked.now.most c.args.order c.args.window.now.start.now c.args.window.now.limit (family_of c.family_in_rounds.new.store id) c.in_ok-id.ensures.exact c.requires.allowed (c.in_ok-has_more_sets.ensures.more c.if-branch.true))
