use Rattle.std.proofs.Common.{◌↔◌, Contains, subst}
use Rattle.zdd_store.specs.inner.Family.{Family}
use Rattle.zdd_store.specs.inner.Store.{family_of}
use Rattle.cutset_lister.specs.inner.Walks.{all_sets, sets_left}
use Rattle.cut_reports.proofs.Recounted.{some_recounted}
use Rattle.cut_reports.proofs.counted.counted_listing.Goals as goal

pub start-requires-clause-among : goal.start-requires-clause-among
start-requires-clause-among c = λ set here.
    c.requires.among set (subst (λ (f : Family). Contains f set) (c.counts_if-counts.ensures.kept.same c.args.family.position c.requires.found) here)

pub returns-clause-sets : goal.returns-clause-sets
returns-clause-sets c = λ set.
    subst (λ (f : Family). Contains (all_sets c.start.new.store c.in_ok-listing.listing) set ↔ Contains f set) (c.counts_if-counts.ensures.kept.same c.args.family.position c.requires.found) (c.in_ok-listing.ensures.sets set)

pub returns-clause-counts : goal.returns-clause-counts
returns-clause-counts c =
    some_recounted c.counts_if-counts.result (family_of c.args.store.now c.args.family) (all_sets c.start.new.store c.in_ok-listing.listing) (sets_left c.start.new.store c.in_ok-listing.listing)
    (c.laws.ensures.ordered c.args.family.position c.requires.found) c.in_ok-listing.ensures.ordered
    (λ set. subst (λ (f : Family). Contains (all_sets c.start.new.store c.in_ok-listing.listing) set ↔ Contains f set) (c.counts_if-counts.ensures.kept.same c.args.family.position c.requires.found) (c.in_ok-listing.ensures.sets set))
    c.in_ok-listing.ensures.left c.counts_if-counts.ensures.counts
