-- The sets of all sizes before which a given one stands.
use Rattle.std.proofs.Common.{◌≡◌, ℕ, zero, suc, ◌+◌, ◌*◌, ◌<◌, ◌≤◌, Bool, true, false, List, [], ◌∷◌, ◌++◌, length, drop, slice_index_or, filter, Contains, IsTrue, ⊎_elim, refl, sym, ap, ◌∙◌, subst, arith, eqb-true, eq-eqb, ltb-true, lt-ltb, add-one}
use Rattle.std.specs.Prelude.{nat_lt, ◌==◌, ◌&&◌, ◌||◌}
use Rattle.std.proofs.lemmas.Bool.{false≢true}
use Rattle.std.proofs.lemmas.List.Elements.{filter-append}
use Rattle.std.specs.List.{AllByRecursion, flat_map}
use Rattle.fault_system.specs.Listings.{is_lower, is_before}
use Rattle.fault_system.proofs.Elements.{In, In-append, In-contains, In-filter, each-at, each-made}
use Rattle.zdd_store.specs.inner.Family.{Family, precedes, is_within}
use Rattle.zdd_store.specs.inner.Answers.{sets_of}
use Rattle.zdd_store.specs.inner.Store.{Families, IsIn, IsSound, family_of}
use Rattle.zdd_store.specs.declared.id.Id.{Id}
use Rattle.zdd_families.proofs.Joins.{filter_keeps, filter_drops, same_filter}
use Rattle.cutset_lister.specs.inner.Trails.{Trail, left_below, greatest_size}
use Rattle.cutset_lister.specs.inner.Walks.{Walk, AreSizes, IsSameListing, IsStarted, all_sets}
use Rattle.cutset_lister.proofs.Below.{size-of}
use Rattle.cutset_lister.proofs.BySize.{none-most, size-most, sets_of-most, sets_of-size}
use Rattle.cutset_lister.proofs.Going.{moved}
use Rattle.cutset_lister.proofs.Skipping.{AreAmong}

-- of sets of one size, the order of families is that of listings
same_order : (a b : List ℕ) → length a ≡ length b → is_lower a b ≡ precedes a b
same_order [] b same = refl
same_order (n ∷ ns) [] same = absurd (omega arith)
same_order (n ∷ ns) (m ∷ ms) same = ap (λ r. nat_lt n m || ((n == m) && r)) (same_order ns ms (omega arith))

before_same : (a b : List ℕ) → length a ≡ length b → is_before a b ≡ precedes a b
before_same a b same = by (nat_lt (length a) (length b)) (length a == length b) refl (eq-eqb (length a) (length b) same) ∙ same_order a b same
  where
    by : (l e : Bool) → nat_lt (length a) (length b) ≡ l → e ≡ true → l || (e && is_lower a b) ≡ is_lower a b
    by true e is f = let h : length a < length b = ltb-true (length a) (length b) is in absurd (omega arith)
    by false true is f = refl
    by false false is f = absurd (false≢true f)

before_smaller : (a b : List ℕ) → length b < length a → is_before a b ≡ false
before_smaller a b less = by (nat_lt (length a) (length b)) (length a == length b) refl refl
  where
    by : (l e : Bool) → nat_lt (length a) (length b) ≡ l → (length a == length b) ≡ e → l || (e && is_lower a b) ≡ false
    by true e is f = let h : length a < length b = ltb-true (length a) (length b) is in absurd (omega arith)
    by false true is f = let h : length a ≡ length b = eqb-true (length a) (length b) f in absurd (omega arith)
    by false false is f = refl

before_greater : (a b : List ℕ) → length a < length b → is_before a b ≡ true
before_greater a b less = by (nat_lt (length a) (length b)) (lt-ltb (length a) (length b) less)
  where
    by : (l : Bool) → l ≡ true → l || ((length a == length b) && is_lower a b) ≡ true
    by true is = refl
    by false is = absurd (false≢true is)

-- each set of the families of some sizes has one of these sizes
in_sizes : (store : Families) (family : Family) (size : ℕ) (ids : List Id) (set : List ℕ) → AreSizes store family size ids → In set (flat_map (family_of store) ids) → size ≤ length set
in_sizes store family size [] set sizes here = absurd here
in_sizes store family size (x ∷ xs) set sizes here =
    ⊎_elim (λ h. let same : length set ≡ size = sets_of-size size family set (subst (In set) sizes.1 h) in omega arith)
    (λ r. let more : size + 1 ≤ length set = in_sizes store family (size + 1) xs set sizes.2 r in omega arith)
    (In-append set (family_of store x) (flat_map (family_of store) xs) here)

size_here : (store : Families) (family : Family) (size : ℕ) (id : Id) (set : List ℕ) → family_of store id ≡ sets_of size family → Contains (family_of store id) set → length set ≡ size
size_here store family size id set is here = sets_of-size size family set (subst (In set) is (In-contains set (family_of store id) here))

-- the sets of all sizes that a set is before: those of its size that it stands before, and all of more numbers
seek_parts : (store : Families) (family : Family) (size more : ℕ) (ids : List Id) (after : List ℕ) → IsSound store → AreSizes store family size ids → length after ≡ size + more
    → filter (is_before after) (flat_map (family_of store) ids) ≡ filter (precedes after) (family_of store (slice_index_or ids more (record { position = 0 }))) ++ flat_map (family_of store) (drop (suc more) ids)
seek_parts store family size more [] after sound sizes at = sym (ap (λ f. filter (precedes after) f ++ []) sound.empty)
seek_parts store family size zero (x ∷ xs) after sound sizes at =
    filter-append (is_before after) (family_of store x) (flat_map (family_of store) xs)
    ∙ ap (λ f. f ++ filter (is_before after) (flat_map (family_of store) xs))
    (same_filter (is_before after) (precedes after) (family_of store x) (λ set here. before_same after set (let same : length set ≡ size = size_here store family size x set sizes.1 here in omega arith)))
    ∙ ap (λ f. filter (precedes after) (family_of store x) ++ f)
    (filter_keeps (is_before after) (flat_map (family_of store) xs)
    (λ set here. before_greater after set (let more : size + 1 ≤ length set = in_sizes store family (size + 1) xs set sizes.2 (In-contains set (flat_map (family_of store) xs) here) in omega arith)))
seek_parts store family size (suc more) (x ∷ xs) after sound sizes at =
    filter-append (is_before after) (family_of store x) (flat_map (family_of store) xs)
    ∙ ap (λ f. f ++ filter (is_before after) (flat_map (family_of store) xs))
    (filter_drops (is_before after) (family_of store x) (λ set here. before_smaller after set (let same : length set ≡ size = size_here store family size x set sizes.1 here in omega arith)))
    ∙ seek_parts store family (size + 1) more xs after sound sizes.2 (omega arith)

-- the family of a size: it is in the store, its sets are not greater than any, and their numbers are among the events
part_in : (store : Families) (family : Family) (size place : ℕ) (ids : List Id) → IsSound store → AreSizes store family size ids → IsIn store (slice_index_or ids place (record { position = 0 }))
part_in store family size place [] sound sizes = let some = sound.some in omega arith
part_in store family size zero (x ∷ xs) sound sizes = sizes.0
part_in store family size (suc place) (x ∷ xs) sound sizes = part_in store family (size + 1) place xs sound sizes.2

part_most : (store : Families) (family : Family) (size place most : ℕ) (ids : List Id) → IsSound store → AreSizes store family size ids → size + length ids ≤ most + 1 → greatest_size (family_of store (slice_index_or ids place (record { position = 0 }))) ≤ most
part_most store family size place most [] sound sizes few = none-most store most 0 sound refl
part_most store family size zero most (x ∷ xs) sound sizes few = let here : greatest_size (family_of store x) ≤ size = sets_of-most size family (family_of store x) sizes.1 in omega arith
part_most store family size (suc place) most (x ∷ xs) sound sizes few = part_most store family (size + 1) place most xs sound sizes.2 (omega arith)

among_filter : (events : List ℕ) (test : List ℕ → Bool) (family : Family) → AreAmong events family → AreAmong events (filter test family)
among_filter events test family all = each-made (λ set. IsTrue (is_within set events)) (filter test family) (λ set here. each-at (λ s. IsTrue (is_within s events)) set family all (In-filter test set family here).0)

among_sizes : (events : List ℕ) (size : ℕ) (family : Family) → AreAmong events family → AreAmong events (sets_of size family)
unfolding sets_of
among_sizes events size family all = among_filter events (λ set. length set == size) family all

part_among : (store : Families) (family : Family) (events : List ℕ) (size place : ℕ) (ids : List Id) → IsSound store → AreSizes store family size ids → AreAmong events family → AreAmong events (family_of store (slice_index_or ids place (record { position = 0 })))
part_among store family events size place [] sound sizes all = subst (AreAmong events) (sym sound.empty) tt
part_among store family events size zero (x ∷ xs) sound sizes all = subst (AreAmong events) (sym sizes.1) (among_sizes events size family all)
part_among store family events size (suc place) (x ∷ xs) sound sizes all = part_among store family events (size + 1) place xs sound sizes.2 all

filter-most : (test : List ℕ → Bool) (family : Family) → greatest_size (filter test family) ≤ greatest_size family
filter-most test family = size-most (filter test family) (greatest_size family) (λ set here. size-of family set (In-filter test set family here).0)

-- behind a given set, in a listing that was started
module _ (store : Families) (walk : Walk) (part : Id) (after : List ℕ) (sound : IsSound store) (started : IsStarted store walk) (is : part ≡ slice_index_or walk.parts (length after) (record { position = 0 })) where
  pub sought_in : IsIn store part
  sought_in = subst (IsIn store) (sym is) (part_in store started.family 0 (length after) walk.parts sound started.parts)

  pub sought_left : (path : Trail) (rest : Id) → left_below store path.frames (family_of store rest) ≡ filter (precedes after) (family_of store part)
      → left_below store path.frames (family_of store rest) ++ flat_map (family_of store) (drop (length after + 1) walk.parts) ≡ filter (is_before after) (all_sets store walk)
  sought_left path rest left =
      ap (λ f. f ++ flat_map (family_of store) (drop (length after + 1) walk.parts)) (left ∙ ap (λ id. filter (precedes after) (family_of store id)) is)
      ∙ ap (λ n. filter (precedes after) (family_of store (slice_index_or walk.parts (length after) (record { position = 0 }))) ++ flat_map (family_of store) (drop n walk.parts)) (add-one (length after))
      ∙ sym (seek_parts store started.family 0 (length after) walk.parts after sound started.parts (omega arith))

  pub sought_same : (path : Trail) (rest : Id) → left_below store path.frames (family_of store rest) ≡ filter (precedes after) (family_of store part) → AllByRecursion (λ frame. IsIn store frame.low) path.frames
      → IsIn store rest → path.room ≡ walk.path.room → IsSameListing store walk (record { parts = walk.parts; begun = length after + 1; path = path; rest = rest })
  sought_same path rest left frames_in here room =
      let count = started.part_count in
      let most : greatest_size (family_of store part) ≤ walk.path.room =
      subst (λ id. greatest_size (family_of store id) ≤ walk.path.room) (sym is) (part_most store started.family 0 (length after) walk.path.room walk.parts sound started.parts (omega arith))
      in
      let less : greatest_size (filter (precedes after) (family_of store part)) ≤ greatest_size (family_of store part) = filter-most (precedes after) (family_of store part) in
      let same : greatest_size (left_below store path.frames (family_of store rest)) ≡ greatest_size (filter (precedes after) (family_of store part)) = ap greatest_size left in
      moved store walk (length after + 1) path rest started room (record { frames_in = frames_in; rest_in = here; short = omega arith })

  pub sought_steps : (before steps : ℕ) → ((events : List ℕ) → AreAmong events (family_of store part) → steps ≤ before + length events + 1) → steps ≤ before + 2 * (walk.path.room + 1)
  sought_steps before steps few =
      let bound : steps ≤ before + length started.events + 1 = few started.events (subst (λ id. AreAmong started.events (family_of store id)) (sym is) (part_among store started.family started.events 0 (length after) walk.parts sound started.parts started.within)) in
      let count = started.events_are in
      omega arith
