-- The tree of a target, or why it has none.
use Rattle.std.specs.Prelude.{ℕ, ◌<◌, ◌≤◌, ◌≡◌, Bool, true, false, nat_lt, length}
use Rattle.plain_values.specs.declared.refusal.Refusal.{Refusal}
use Rattle.plain_values.specs.Refusal.{of_words}
use Rattle.plain_values.specs.declared.refusal.Code.TheVariants.{TooManyGates}
use Rattle.fault_system.specs.Truth.{NumberSet}
use Rattle.fault_system.specs.Systems.{System, Holds}
use Rattle.backward_slice.specs.Slices.{IsSlice}
use Rattle.backward_slice.specs.declared.parts.Slice.{Slice}
use Rattle.dependency_blocks.specs.Blocks.{BlockNumbers, IsBlocks}
use Rattle.round_gates.specs.declared.tree.Tree.{Tree}
use Rattle.round_gates.specs.Staged.{IsVarying, all_places, most_places}
use Rattle.round_gates.specs.Trees.{IsTree}

-- The tree of a target: that of its slice and of the slice's blocks, where the target is not constant and all stages have not
-- too many places.
pub record IsTreeFor (system : System) (target : ℕ) (tree : Tree) : Type 0 where
  pub slice : Slice
  pub numbers : BlockNumbers
  pub is_slice : IsSlice system target slice
  pub are_blocks : IsBlocks system slice.facts numbers
  pub varying : IsVarying system target
  pub few : all_places system numbers slice.facts ≤ most_places
  pub is_tree : IsTree system numbers target tree

-- M12: the target is not constant, all stages of its slice's blocks have too many places, and this is the refusal.
pub record HasLargeTree (system : System) (target : ℕ) (refusal : Refusal) : Type 0 where
  pub slice : Slice
  pub numbers : BlockNumbers
  pub is_slice : IsSlice system target slice
  pub are_blocks : IsBlocks system slice.facts numbers
  pub varying : IsVarying system target
  pub many : most_places < all_places system numbers slice.facts
  pub refusal_is : refusal ≡ of_words TooManyGates

-- no event
abbrev pub no_events : NumberSet
no_events n = false

-- all events of the system
abbrev pub all_events : System → NumberSet
all_events system n = nat_lt n (length system.events)

-- a constant target holds under no event, or it fails under all events
abbrev pub IsConstantly : System → ℕ → Bool → Type 0
IsConstantly system target true = Holds system no_events target
IsConstantly system target false = Holds system (all_events system) target → ⊥
