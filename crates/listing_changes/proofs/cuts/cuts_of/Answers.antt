use Rattle.std.proofs.Common.{sym, subst}
use Rattle.std.specs.Prelude.{IsTrue}
use Rattle.zdd_store.specs.inner.Family.{is_within}
use Rattle.zdd_store.specs.inner.Store.{family_of}
use Rattle.zdd_families.proofs.Pairs.{found_kept}
use Rattle.listing_changes.proofs.Sided.{cuts-made}
use Rattle.listing_changes.proofs.cuts.cuts_of.Goals as goal

pub start-requires-clause-among : goal.start-requires-clause-among
start-requires-clause-among c = λ set here.
    let side = c.args.side.now in
    subst (λ events. IsTrue (is_within set events)) (sym c.items.ensures.items)
    (c.in_slice.ensures side.system.now side.part.now.target side.part.now set c.requires ((c.in_ok-sets.ensures.exact set).0 here).0)

pub returns-clause-cuts : goal.returns-clause-cuts
returns-clause-cuts c =
    let side = c.args.side.now in
    let made = c.family.new.store in
    let sets = c.in_ok-sets.sets in
    let listing = c.in_ok-listing.listing in
    cuts-made side.system.now side.part.now.target c.args.max_order (record { system = side.system; store = c.start.new.store; sets = sets; listing = listing }) (family_of made sets) c.in_ok-sets.ensures.exact
    (found_kept made c.start.new.store sets c.start.ensures.kept c.in_ok-sets.ensures.found) (c.start.ensures.kept.same sets.position c.in_ok-sets.ensures.found) c.in_ok-listing.ensures.started c.in_ok-listing.ensures.ordered c.in_ok-listing.ensures.sets
    c.in_ok-listing.ensures.left
