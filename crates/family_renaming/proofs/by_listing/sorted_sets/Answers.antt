use Rattle.std.proofs.Common.{◌∙◌, map, sym, ap}
use Rattle.std.proofs.lemmas.List.Sorted.{All-permutation, IsPermutation-map, list_any-IsPermutation}
use Rattle.zdd_store.specs.inner.Family.{IsRising}
use Rattle.zdd_store.specs.inner.Store.{family_of}
use Rattle.family_renaming.proofs.Added.{all_listed}
use Rattle.family_renaming.proofs.by_listing.sorted_sets.Goals as goal

pub list_sets-requires-clause-set_rises : goal.list_sets-requires-clause-set_rises
unfolding IsRising
list_sets-requires-clause-set_rises c = tt

pub returns-clause-rising : goal.returns-clause-rising
returns-clause-rising c =
    All-permutation (λ s. IsRising s.items) c.list_sets.new.sets.items c.sort.new.self.items c.in_ok-sort.ensures.permutation c.in_ok-list_sets.ensures.rising

pub returns-clause-renamed : goal.returns-clause-renamed
returns-clause-renamed c test =
    sym (list_any-IsPermutation test (map (λ s. s.items) c.list_sets.new.sets.items) (map (λ s. s.items) c.sort.new.self.items)
    (IsPermutation-map (λ s. s.items) c.list_sets.new.sets.items c.sort.new.self.items c.in_ok-sort.ensures.permutation))
    ∙ all_listed c.args.order.now.events (family_of c.args.store.now c.args.id) (map (λ s. s.items) c.new-sets.result.items) (map (λ s. s.items) c.list_sets.new.sets.items)
    (ap (map (λ s. s.items)) c.new-sets.ensures.items) c.in_ok-list_sets.ensures.listed test
