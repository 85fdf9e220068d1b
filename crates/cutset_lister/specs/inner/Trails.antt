-- The way down from a family to one of its sets, and the sets that are left to list there.
use Rattle.std.specs.Prelude.{ℕ, ◌≤◌, ◌≡◌, List, [], ◌∷◌, length, map, max}
use Rattle.std.specs.List.{AllByRecursion}
use Rattle.zdd_store.specs.inner.Family.{Family, branch}
use Rattle.zdd_store.specs.inner.Store.{Families, IsIn, IsSound, family_of}
use Rattle.zdd_store.specs.declared.id.Id.{Id}
use Rattle.cutset_lister.specs.declared.path.Frame.{Frame}

-- a way down, and for how many numbers it has memory
pub record Trail : Type 0 where
  pub frames : List Frame
  pub room : ℕ

-- the numbers of a way
abbrev pub numbers : List Frame → List ℕ
numbers frames = map (λ frame. frame.number) frames

-- the sets that are left below the beginning of a way: those of a family behind all its numbers, and then, from its end to its
-- beginning, those that have the numbers before a place and not the one of that place
unfoldable pub left_below : Families → List Frame → Family → Family
left_below store [] family = family
left_below store (frame ∷ frames) family = branch frame.number (family_of store frame.low) (left_below store frames family)

-- the size of the greatest set of a family
unfoldable pub greatest_size : Family → ℕ
greatest_size [] = 0
greatest_size (set ∷ sets) = max (length set) (greatest_size sets)

-- a way and the family at its end are of this store, and the way has room for each set that is left there
pub record IsPlace (store : Families) (trail : Trail) (rest : Id) : Type 0 where
  pub frames_in : AllByRecursion (λ frame. IsIn store frame.low) trail.frames
  pub rest_in : IsIn store rest
  pub short : greatest_size (left_below store trail.frames (family_of store rest)) ≤ trail.room

-- from one place to another what is left stays the same, in each store
pub record SameLeft (before after : Trail) (from to : Id) : Type 0 where
  pub room : after.room ≡ before.room
  pub left : (store : Families) → IsSound store → left_below store after.frames (family_of store to) ≡ left_below store before.frames (family_of store from)
  pub place : (store : Families) → IsSound store → IsPlace store before from → IsPlace store after to
