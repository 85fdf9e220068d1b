-- Sets of events under which facts hold.
use Rattle.std.specs.Prelude.{ℕ, ◌<◌, ◌&&◌, ◌||◌, List, [], length, nat_lt, slice_index_or}
use Rattle.std.specs.List.{list_all}
use Rattle.fault_system.specs.Truth.{NumberSet, Has, member}
use Rattle.fault_system.specs.Systems.{System}
use Rattle.fault_system.specs.CutSets.{IsCutSet}
use Rattle.target_orders.specs.declared.cuts.Search.{Search}

-- each set that is known makes its fact hold
abbrev pub AreCuts : System → List (List ℕ) → Type 0
AreCuts system sets = (fact : ℕ) → 0 < length (slice_index_or sets fact []) → IsCutSet system fact (slice_index_or sets fact [])

-- the facts of a set, and those whose sets are known and within a set of events
abbrev pub cut_facts : NumberSet → List (List ℕ) → NumberSet → NumberSet
cut_facts always sets events fact =
    let set = slice_index_or sets fact [] in
    always fact || (nat_lt 0 (length set) && list_all events set)

-- each set that is known makes its fact hold, and no set is looked at
pub record IsSearch (system : System) (search : Search) : Type 0 where
  pub are_cuts : AreCuts system search.sets.items
  pub none : (n : ℕ) → Has (member search.marks) n → ⊥
