use Rattle.std.proofs.Common.{refl}
use Rattle.cut_reports.proofs.Taken.{fed_one}
use Rattle.cut_reports.proofs.Listings.{given_next}
use Rattle.cut_reports.proofs.feeding.feed_next.Goals as goal

pub returns-clause-fed : goal.returns-clause-fed
returns-clause-fed g c = fed_one _ _ _ c.in-Some.set.now _ _ _ _ _ (given_next _ _ _ _ _ c.next.follows.holds-at-none c.in-Some.is) refl c.in_ok-give_set.ensures.took
