use Rattle.std.proofs.Common.{◌≡◌, ◌∙◌, map, ap, subst}
use Rattle.std.proofs.lemmas.Result.{on_ok_weaker}
use Rattle.zdd_store.specs.inner.Store.{family_of}
use Rattle.zdd_families.specs.inner.Unions.{with_number}
use Rattle.family_renaming.specs.inner.Renaming.{name_of}
use Rattle.family_renaming.specs.inner.Lists.{ListsMore}
use Rattle.family_renaming.proofs.Added.{lists_node}
use Rattle.family_renaming.proofs.by_listing.+list_sets.Goals as goal

pub returns-clause-listed : goal.returns-clause-listed
returns-clause-listed t c =
    let node = c.in-Some.node in
    let more : c.as_slice.result.now ≡ with_number (name_of c.args.order.now.events node.var) c.args.set.now =
    c.as_slice.ensures.value ∙ c.in_ok-more.ensures.items ∙ ap (λ n. with_number n c.args.set.now) (c.name.ensures ∙ ap (λ t. name_of t node.var) c.events.ensures.events) in
    on_ok_weaker c.list_sets-2.result
    (lists_node c.args.order.now.events c.args.set.now node.var (family_of c.args.store.now node.lo) (family_of c.args.store.now node.hi) (family_of c.args.store.now c.args.id)
    (map (λ s. s.items) c.args.sets.now.items) (map (λ s. s.items) c.list_sets.new.sets.items) (map (λ s. s.items) c.list_sets-2.new.sets.items)
    c.in-Some.ensures.family (subst (λ s. ListsMore c.args.order.now.events s (family_of c.args.store.now node.hi) (map (λ s. s.items) c.args.sets.now.items) (map (λ s. s.items) c.list_sets.new.sets.items)) more c.in_ok-list_sets.ensures.listed))
    c.list_sets-2.ensures.listed
