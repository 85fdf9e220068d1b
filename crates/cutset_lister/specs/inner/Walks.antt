-- A listing as it goes: all its sets, and those that are left.
use Rattle.std.specs.Prelude.{ℕ, ◌+◌, ◌≡◌, IsTrue, List, [], ◌∷◌, ◌++◌, length, drop}
use Rattle.std.specs.List.{AllByRecursion, flat_map}
use Rattle.zdd_store.specs.inner.Family.{Family, is_within}
use Rattle.zdd_store.specs.inner.Answers.{sets_of}
use Rattle.zdd_store.specs.inner.Store.{Families, IsIn, family_of}
use Rattle.zdd_store.specs.declared.id.Id.{Id}
use Rattle.cutset_lister.specs.inner.Trails.{Trail, IsPlace, left_below}

-- A listing: the families of the sets of each size, how many of them were begun, and the place in the last one begun.
pub record Walk : Type 0 where
  pub parts : List Id
  pub begun : ℕ
  pub path : Trail
  pub rest : Id

-- for how many events the listing was started
abbrev pub event_count : Walk → ℕ
event_count walk = walk.path.room

-- all sets of a listing, those of the smaller sizes first
abbrev pub all_sets : Families → Walk → Family
all_sets store walk = flat_map (family_of store) walk.parts

-- the sets that a listing has still to give
abbrev pub sets_left : Families → Walk → Family
sets_left store walk = left_below store walk.path.frames (family_of store walk.rest) ++ flat_map (family_of store) (drop walk.begun walk.parts)

-- each of these has the sets of a family of its size: the first those of `size` numbers, and each those of one number more than
-- the one before it
abbrev pub AreSizes : Families → Family → ℕ → List Id → Type 0
AreSizes store family size [] = Unit {0}
AreSizes store family size (id ∷ ids) = IsIn store id × (family_of store id ≡ sets_of size family) × AreSizes store family (size + 1) ids

-- A listing was started on this store, or on one from which it grew: its parts have the sets of each size of some family whose
-- numbers are among so many events, and its place is one of this store.
pub record IsStarted (store : Families) (walk : Walk) : Type 0 where
  pub family : Family
  pub events : List ℕ
  pub parts : AreSizes store family 0 walk.parts
  pub part_count : length walk.parts ≡ event_count walk + 1
  pub events_are : length events ≡ event_count walk
  pub within : AllByRecursion (λ set. IsTrue (is_within set events)) family
  pub place : IsPlace store walk.path walk.rest

-- one listing is the other, gone further: it has the same sets in all
pub record IsSameListing (store : Families) (before after : Walk) : Type 0 where
  pub all : all_sets store after ≡ all_sets store before
  pub events : event_count after ≡ event_count before
  pub started : IsStarted store after

-- in a store that grew a started listing has the sets that it had
pub record StaysStarted (before after : Families) (walk : Walk) : Type 0 where
  pub started : IsStarted after walk
  pub all : all_sets after walk ≡ all_sets before walk
  pub left : sets_left after walk ≡ sets_left before walk
