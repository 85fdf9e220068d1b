use Rattle.std.proofs.Common.{ℕ, ◌+◌, ◌≤◌, sym, subst}
use Rattle.target_orders.specs.inner.Bounds.{count_placed}
use Rattle.target_orders.proofs.BoundLaws.{count-event}
use Rattle.target_orders.proofs.bounds.event_bound.Goals as goal

pub returns : goal.returns
returns c set has =
    subst (λ (place : ℕ). 1 ≤ count_placed c.args.places.now place (place + 1) set) (sym c.place_at-place.ensures) (count-event c.args.places.now c.args.event set has)
