use Rattle.std.proofs.Common.{◌≡◌, length}
use Rattle.derivations.proofs.Keys.{ArePlacesTo}
use Rattle.derivations.proofs.ordering.put_places.Given as goal

abbrev pub invariant-loop-place : goal.invariant-loop-place
invariant-loop-place l = record {
  size : length l.places ≡ length l.fn.places;
  so_far : ArePlacesTo l.order l.places l.place;
}
