-- What is known of facts without a listing of their sets.
use Rattle.std.specs.Prelude.{ℕ, Bool, List}
use Rattle.fault_system.specs.Truth.{Has, member}
use Rattle.fault_system.specs.Systems.{System}
use Rattle.target_orders.specs.Orders.{IsLarge}
use Rattle.target_orders.specs.declared.sizes.Sizes.{Sizes}

-- each marked fact is large
abbrev pub AreLarge : System → List Bool → Type 0
AreLarge system marks = (n : ℕ) → Has (member marks) n → IsLarge system n

-- no marked fact is large
abbrev pub AreSmall : System → List Bool → Type 0
AreSmall system marks = (n : ℕ) → Has (member marks) n → IsLarge system n → ⊥

-- the facts that are said to be large are, and those that are said to be small are not
pub record KnowsSizes (system : System) (sizes : Sizes) : Type 0 where
  pub large_are : AreLarge system sizes.large
  pub small_are : AreSmall system sizes.small
