use Rattle.std.proofs.Common.{sym, subst}
use Rattle.target_orders.specs.inner.Bounds.{AreBounds}
use Rattle.target_orders.proofs.BoundLaws.{needs-low}
use Rattle.target_orders.proofs.lows.low_of.Goals as goal

pub returns : goal.returns
returns c system are =
    let places = c.args.lows.now.places.items in
    needs-low system places c.as_slice.result.now (subst (AreBounds system places) (sym c.as_slice.ensures.value) are) c.args.fact c.bound_at.result c.bound_at.ensures
