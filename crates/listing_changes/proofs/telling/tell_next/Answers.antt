use Rattle.std.proofs.Common.{List, ℕ, sym, subst}
use Rattle.cutset_lister.specs.inner.Walks.{sets_left}
use Rattle.listing_changes.specs.inner.Telling.{TellsUpTo}
use Rattle.listing_changes.proofs.Counting.{given-next}
use Rattle.listing_changes.proofs.telling.tell_next.Goals as goal

pub returns-clause-told : goal.returns-clause-told
returns-clause-told g c =
    let own = c.args.own.now in
    let after = c.next.follows.lender-at-none in
    let first = given-next own c.args.listing.now after c.next.result c.in-Some.set c.next.follows.holds-at-none c.in-Some.is in
    subst (λ (sets : List (List ℕ)). TellsUpTo c.args.comparison.now sets (sets_left own after) c.args.told.now c.tell_set.new.told) (sym first) (c.in_ok-tell_set.ensures (sets_left own after))
