use Rattle.std.proofs.Common.{List, le-leb, sym, subst, arith}
use Rattle.fault_system.specs.Truth.{Has}
use Rattle.target_orders.specs.inner.Bounds.{met_facts}
use Rattle.target_orders.specs.declared.bounds.Bound.{Bound}
use Rattle.target_orders.proofs.lows.tested.Goals as goal

pub returns : goal.returns
returns c fact set cut =
    subst (λ (bounds : List Bound). Has (met_facts c.args.places.items bounds set) fact) (sym c.no_bounds-bounds.ensures) (le-leb _ _ (omega arith))
