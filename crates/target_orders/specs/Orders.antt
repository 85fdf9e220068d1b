-- How many events it takes to make a fact hold (NUREG-0492: the order of a cut set).
use Rattle.std.specs.Prelude.{ℕ, ◌≤◌, List, [], length}
use Rattle.plain_values.specs.declared.refusal.Refusal.{Refusal}
use Rattle.fault_system.specs.Systems.{System}
use Rattle.fault_system.specs.CutSets.{IsCutSet}
use Rattle.backward_slice.specs.Slices.{HasLargeSlice}
use Rattle.target_orders.specs.declared.order.Order.{Order}
use Rattle.target_orders.specs.declared.order.Order.TheVariants.{Always, Never, Large, Least}

-- some set of events makes the fact hold
abbrev pub MayHold : System → ℕ → Type 0
MayHold system fact = (set : List ℕ) × IsCutSet system fact set

-- each set of events that makes the fact hold has at least so many
abbrev pub NeedsAtLeast : System → ℕ → ℕ → Type 0
NeedsAtLeast system fact count = (set : List ℕ) → IsCutSet system fact set → count ≤ length set

-- some set of at most so many events makes the fact hold
abbrev pub HoldsWithin : System → ℕ → ℕ → Type 0
HoldsWithin system fact count = (set : List ℕ) × IsCutSet system fact set × (length set ≤ count)

-- the fact depends on too many facts or events to be listed (M10, M11)
abbrev pub IsLarge : System → ℕ → Type 0
IsLarge system fact = (refusal : Refusal) × HasLargeSlice system fact refusal

-- What it takes to make a fact hold: no event at all; nothing does; some events, but it is too large to be listed; or so many, and no
-- fewer, which is the number of events of the first set of its listing.
abbrev pub IsOrder : System → ℕ → Order → Type 0
IsOrder system fact Always = IsCutSet system fact []
IsOrder system fact Never = MayHold system fact → ⊥
IsOrder system fact Large = (IsCutSet system fact [] → ⊥) × MayHold system fact × IsLarge system fact
IsOrder system fact (Least count) =
    (IsCutSet system fact [] → ⊥) × (IsLarge system fact → ⊥) × HoldsWithin system fact count × NeedsAtLeast system fact count
