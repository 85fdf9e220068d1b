use Rattle.std.specs.HashMap.{get}
use Rattle.propagation_points.specs.inner.Tables.{declares_side, same_side}
use Rattle.propagation_points.proofs.PlaceLaws.{knows-or-more}
use Rattle.propagation_points.proofs.declared.places_of.Goals as goal

pub loop-number-preserved : goal.loop-number-preserved
loop-number-preserved c =
    knows-or-more declares_side c.args.items.now c.loop-number.number c.index-items-number.result (get same_side c.loop-number.places) (get same_side c.note_place.new.places) c.loop-number-test.true c.index-items-number.is
    c.loop-number.invariant c.in_ok-note_place.ensures
