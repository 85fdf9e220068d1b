use Rattle.std.proofs.Common.{◌≡◌, take}
use Rattle.std.specs.HashSet.{contains}
use Rattle.plain_values.specs.Numbered.{numbered_from}
use Rattle.uneven_parts.specs.TwoWays.{further_way}
use Rattle.uneven_parts.specs.inner.Tables.{KnowsLinks, KnowsWays, same_link_key, same_way_key}
use Rattle.uneven_parts.proofs.ways.further_ways.Given as goal

abbrev pub invariant-loop-place : goal.invariant-loop-place
invariant-loop-place l = record {
  further : l.further ≡ numbered_from (further_way l.links) 0 (take l.place l.links);
  ways : KnowsWays (take l.place l.links) (contains same_way_key l.ways);
  known : KnowsLinks (take l.place l.links) (contains same_link_key l.known);
}
