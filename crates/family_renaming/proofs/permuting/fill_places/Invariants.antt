use Rattle.family_renaming.specs.inner.Orders.{HasPlaces}
use Rattle.family_renaming.proofs.permuting.fill_places.Given as goal

abbrev pub invariant-loop-place : goal.invariant-loop-place
invariant-loop-place l = HasPlaces l.events l.place l.table
