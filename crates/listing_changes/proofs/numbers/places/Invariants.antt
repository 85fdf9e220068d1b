use Rattle.std.proofs.Common.{◌≡◌, map, take}
use Rattle.listing_changes.specs.inner.Numbers.{place_of}
use Rattle.listing_changes.proofs.numbers.places.Given as goal

abbrev pub invariant-loop-event : goal.invariant-loop-event
invariant-loop-event l = l.table.items ≡ map (λ event. place_of l.names event.name) (take l.event-index l.events)
