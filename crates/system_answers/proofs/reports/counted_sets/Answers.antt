use Rattle.std.proofs.Common.{sym, subst}
use Rattle.std.specs.Prelude.{IsTrue}
use Rattle.zdd_store.specs.inner.Family.{is_within}
use Rattle.zdd_store.specs.inner.Store.{family_of}
use Rattle.cutset_lister.specs.inner.Walks.{all_sets}
use Rattle.system_answers.proofs.Listed.{listed, ok_both}
use Rattle.system_answers.proofs.reports.counted_sets.Goals as goal

pub counted_listing-requires-clause-among : goal.counted_listing-requires-clause-among
counted_listing-requires-clause-among c = λ set here.
    subst (λ events. IsTrue (is_within set events)) (sym c.items.ensures.items) (c.in_ok-sets.ensures.among set here)

pub returns-clause-listing : goal.returns-clause-listing
returns-clause-listing c =
    ok_both c.counted_listing.result _ _ _
    (λ made ordered same. listed c.args.system.now c.args.part.now.target c.args.max_order (family_of c.cut_family.new.store c.in_ok-sets.sets) (all_sets c.counted_listing.new.store made.listing) c.in_ok-sets.ensures.exact (record { ordered = ordered; same = same }))
    c.counted_listing.ensures.ordered c.counted_listing.ensures.sets
