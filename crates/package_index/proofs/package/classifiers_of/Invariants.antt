use Rattle.std.proofs.Common.{◌≡◌, take, drop}
use Rattle.std.specs.HashMap.{get}
use Rattle.noted_refusals.specs.inner.Noted.{noting}
use Rattle.package_index.specs.Duplicates.{again_after, classifiers_again}
use Rattle.package_index.specs.Lookup.{is_named}
use Rattle.package_index.specs.inner.Tables.{Knows, has_key, same_key}
use Rattle.package_index.proofs.package.classifiers_of.Given as goal

abbrev pub invariant-loop-number : goal.invariant-loop-number
invariant-loop-number l = record {
  table : Knows has_key (take l.number l.decls) (get same_key l.table);
  first : noting l.refusals (again_after (λ later earlier. is_named later.name later.item earlier) (λ decl. decl.spot) (take l.number l.decls) (drop l.number l.decls)) ≡ noting l.fn.refusals (classifiers_again l.decls);
}
