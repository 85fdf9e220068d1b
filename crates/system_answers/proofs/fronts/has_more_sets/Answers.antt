use Rattle.std.proofs.Common.{ℕ, ◌<◌, List, length, subst}
use Rattle.fault_system.specs.Listings.{sets_after}
use Rattle.zdd_store.specs.inner.Store.{family_of}
use Rattle.cutset_lister.specs.inner.Walks.{all_sets}
use Rattle.cutset_writer.specs.inner.Pages.{Lists}
use Rattle.system_answers.proofs.FirstSets.{one-list}
use Rattle.system_answers.proofs.fronts.has_more_sets.Goals as goal

pub returns-clause-more : goal.returns-clause-more
returns-clause-more c = λ more sets lists.
    let all = all_sets c.start.new.store c.in_ok-listing.listing in
    let own : Lists (family_of c.args.store.now c.args.family) all = record { ordered = c.in_ok-listing.ensures.ordered; same = c.in_ok-listing.ensures.sets } in
    subst (λ (listed : List (List ℕ)). c.args.window.now.limit < length (sets_after c.args.window.now.start.now listed))
    (one-list (family_of c.args.store.now c.args.family) all sets own lists)
    (c.has_more_behind.ensures more)
