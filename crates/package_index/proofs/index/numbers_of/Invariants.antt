use Rattle.std.proofs.Common.{◌≡◌, take, drop}
use Rattle.std.specs.HashMap.{get}
use Rattle.noted_refusals.specs.inner.Noted.{noting}
use Rattle.package_index.specs.Duplicates.{again_after, packages_again}
use Rattle.package_index.specs.Lookup.{has_name}
use Rattle.package_index.specs.inner.Tables.{Knows, has_words, same_words}
use Rattle.package_index.proofs.index.numbers_of.Given as goal

abbrev pub invariant-loop-number : goal.invariant-loop-number
invariant-loop-number l = record {
  table : Knows has_words (take l.number l.packages) (get same_words l.table);
  first : noting l.refusals (again_after (λ later earlier. has_name later.name earlier) (λ unit. unit.spot) (take l.number l.packages) (drop l.number l.packages)) ≡ noting l.fn.refusals (packages_again l.packages);
}
