use Rattle.std.proofs.Common.{◌≡◌, drop, length}
use Rattle.package_index.specs.Names.{is_same_name}
use Rattle.package_index.specs.inner.Names.{names_of}
use Rattle.package_index.proofs.words.are_same.Given as goal

abbrev pub invariant-loop-place : goal.invariant-loop-place
invariant-loop-place l = record {
  same : is_same_name (drop l.place (names_of l.a)) (drop l.place (names_of l.b)) ≡ is_same_name (names_of l.a) (names_of l.b);
  long : length (names_of l.a) ≡ length (names_of l.b);
  ends : l.place-end ≡ length (names_of l.a);
}
