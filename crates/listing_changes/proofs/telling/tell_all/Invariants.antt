use Rattle.std.proofs.Common.{◌≡◌, ◌+◌, false, [], cond, length}
use Rattle.std.specs.List.{AllByRecursion}
use Rattle.fault_system.specs.CutSets.{IsEventSet}
use Rattle.cutset_lister.specs.inner.Walks.{IsStarted, sets_left}
use Rattle.listing_changes.specs.inner.Telling.{TellsUpTo}
use Rattle.listing_changes.proofs.telling.tell_all.Given as goal

abbrev pub invariant-loop-goes_on : goal.invariant-loop-goes_on
invariant-loop-goes_on g l = record {
  told : TellsUpTo l.comparison (sets_left l.own l.fn.listing) (sets_left l.own l.listing) l.fn.told l.told;
  started : IsStarted l.own l.listing;
  sets : AllByRecursion (IsEventSet l.comparison.here.now) (sets_left l.own l.listing);
  end : l.goes_on ≡ false → sets_left l.own l.listing ≡ [];
}

abbrev pub decreases-loop-goes_on : goal.decreases-loop-goes_on
decreases-loop-goes_on g l = cond l.goes_on 1 0 + length (sets_left l.own l.listing)
