-- What is known of the facts of a system before sets are sought.
use Rattle.std.specs.Prelude.{ℕ, ◌↔◌, []}
use Rattle.fault_system.specs.Truth.{Has, member}
use Rattle.fault_system.specs.Systems.{System}
use Rattle.fault_system.specs.CutSets.{IsCutSet}
use Rattle.target_orders.specs.Orders.{MayHold}
use Rattle.target_orders.specs.inner.Bounds.{AreBounds}
use Rattle.target_orders.specs.inner.Cuts.{AreCuts}
use Rattle.target_orders.specs.inner.Sizes.{KnowsSizes}
use Rattle.target_orders.specs.declared.known.Known.{Known}
use Rattle.target_orders.specs.declared.known.Limits.{Limits}

-- each bound is right, and each set makes its fact hold
pub record HasLimits (system : System) (limits : Limits) : Type 0 where
  pub are_bounds : AreBounds system limits.lows.places.items limits.lows.bounds.items
  pub are_cuts : AreCuts system limits.cuts.sets.items

-- which facts hold under no event and under some, and what is known of how large they are and how many events they take
pub record Knows (system : System) (known : Known) : Type 0 where
  pub always_is : (n : ℕ) → Has (member known.always) n ↔ IsCutSet system n []
  pub perhaps_is : (n : ℕ) → Has (member known.perhaps) n ↔ MayHold system n
  pub knows_sizes : KnowsSizes system known.sizes
  pub has_limits : HasLimits system known.limits
