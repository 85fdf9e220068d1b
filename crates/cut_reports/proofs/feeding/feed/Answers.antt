use Rattle.std.proofs.Common.{Ok, refl, sym, ap, arith}
use Rattle.std.proofs.lemmas.Bool.{false≢true}
use Rattle.cut_reports.proofs.Places.{all_same}
use Rattle.cut_reports.proofs.Taken.{fed_all, fed_more, fed_none, kept_more, kept_same, take_rest}
use Rattle.cut_reports.proofs.Listings.{same_twice}
use Rattle.cut_reports.proofs.feeding.feed.Goals as goal

pub loop-goes_on-init : goal.loop-goes_on-init
loop-goes_on-init g c = record { fed = fed_none _ _ _ _ _; kept = all_same _ _ _ (kept_same _ _ _); count = refl; same = record { all = refl; events = refl; started = c.requires.started }; end = λ e. absurd (false≢true (sym e)) }

pub feed_next-requires-clause-takes : goal.feed_next-requires-clause-takes
feed_next-requires-clause-takes g c = take_rest _ _ _ _ _ _ _ c.requires.takes c.loop-goes_on.invariant.fed

pub loop-goes_on-preserved : goal.loop-goes_on-preserved
loop-goes_on-preserved g c = record {
  fed = fed_more _ _ _ _ _ _ _ _ _ c.loop-goes_on.invariant.fed c.in_ok-goes_on.ensures.fed;
  kept = kept_more _ _ _ _ _ _ _ c.loop-goes_on.invariant.kept c.in_ok-goes_on.ensures.kept;
  count = omega (arith, c.loop-goes_on.invariant.count, c.in_ok-goes_on.ensures.count);
  same = same_twice _ _ _ _ c.loop-goes_on.invariant.same c.in_ok-goes_on.ensures.same;
  end = λ e. c.in_ok-goes_on.ensures.end (ap Ok e);
}

pub returns-clause-took : goal.returns-clause-took
returns-clause-took g c = fed_all _ _ _ _ _ _ _ (c.loop-goes_on.invariant.end c.loop-goes_on-test.false) c.loop-goes_on.invariant.fed
