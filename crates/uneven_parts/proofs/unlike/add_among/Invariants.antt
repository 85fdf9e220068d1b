use Rattle.std.proofs.Common.{◌≡◌, ◌++◌, take}
use Rattle.std.specs.HashSet.{contains}
use Rattle.plain_values.specs.Numbered.{numbered_from}
use Rattle.uneven_parts.specs.Unlike.{same_likeness, unlike_at}
use Rattle.uneven_parts.specs.inner.Tables.{KnowsLikenesses}
use Rattle.uneven_parts.proofs.unlike.add_among.Given as goal

abbrev pub invariant-loop-place : goal.invariant-loop-place
invariant-loop-place l = record {
  found : l.found ≡ l.fn.found ++ numbered_from (unlike_at l.parts l.keys l.places l.fact) 0 (take l.place l.places);
  seen : KnowsLikenesses l.parts l.keys (take l.place l.places) (contains same_likeness l.seen);
}
