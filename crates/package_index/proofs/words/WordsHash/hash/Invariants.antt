use Rattle.std.proofs.Common.{◌≡◌, ◌≤◌, take, length, fold}
use Rattle.std.specs.List.{flat_map}
use Rattle.std.specs.Hash as fed
use Rattle.package_index.specs.inner.Names.{names_of}
use Rattle.package_index.proofs.words.WordsHash.hash.Given as goal

abbrev pub invariant-loop-place : goal.invariant-loop-place
invariant-loop-place g l = record {
  within : l.place ≤ length (names_of l.self);
  ends : l.place-end ≡ length (names_of l.self);
  fed : l.state ≡ fold g.H.Hasher.write l.initial.state (flat_map (fed.slice fed.u8) (take l.place (names_of l.self)));
}
