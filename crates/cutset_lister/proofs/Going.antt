-- A listing on its way: where it begins, and what each move leaves.
use Rattle.std.proofs.Common.{◌≡◌, ℕ, ◌+◌, ◌-◌, ◌≤◌, ◌↔◌, List, [], ◌++◌, length, drop, Contains, IsTrue, refl, sym, ap, ◌∙◌, subst, arith}
use Rattle.std.specs.List.{AllByRecursion, flat_map}
use Rattle.fault_system.specs.Listings.{IsInListingOrder}
use Rattle.fault_system.proofs.Elements.{each-made, contains_In}
use Rattle.zdd_store.specs.inner.Family.{Family, is_within}
use Rattle.zdd_store.specs.inner.Store.{Families, IsIn, IsSound, family_at, family_of}
use Rattle.zdd_store.specs.declared.id.Id.{Id}
use Rattle.zdd_store.proofs.Orders.{all_contained}
use Rattle.cutset_lister.specs.inner.Trails.{Trail, IsPlace, SameLeft, left_below, greatest_size}
use Rattle.cutset_lister.specs.inner.Walks.{Walk, AreSizes, IsSameListing, IsStarted, sets_left}
use Rattle.cutset_lister.proofs.BySize.{all_listed_sizes, none-most}
use Rattle.cutset_lister.proofs.Counting.{within-shorter}
use Rattle.cutset_lister.proofs.Sorted.{all_listed, all_ordered}

-- on a way of no number all sets of the family are left
pub left-begin : (store : Families) (path : Trail) (family : Family) → path.frames ≡ [] → left_below store path.frames family ≡ family
unfolding left_below
left-begin store path family is = ap (λ frames. left_below store frames family) is

place_begin : (store : Families) (path : Trail) (rest : Id) → path.frames ≡ [] → IsIn store rest → greatest_size (family_of store rest) ≤ path.room → IsPlace store path rest
place_begin store path rest is here few = record {
  frames_in = subst (AllByRecursion (λ frame. IsIn store frame.low)) (sym is) tt;
  rest_in = here;
  short = let same : greatest_size (left_below store path.frames (family_of store rest)) ≡ greatest_size (family_of store rest) = ap greatest_size (left-begin store path (family_of store rest) is) in omega arith;
}

-- a listing at its beginning
pub begins : (store : Families) (family : Family) (events : List ℕ) (parts : List Id) (path : Trail) → IsSound store → ((set : List ℕ) → Contains family set → IsTrue (is_within set events)) → AreSizes store family 0 parts
    → length parts ≡ length events + 1 → path ≡ record { frames = []; room = length events } → IsStarted store (record { parts = parts; begun = 0; path = path; rest = record { position = 0 } })
begins store family events parts path sound among sizes count is =
    let room : path.room ≡ length events = ap (λ p. p.room) is in
    record {
      family = family;
      events = events;
      parts = sizes;
      part_count = omega arith;
      events_are = sym room;
      within = each-made (λ set. IsTrue (is_within set events)) family (λ set here. among set (contains_In set family here));
      place = place_begin store path (record { position = 0 }) (ap (λ p. p.frames) is) (let some = sound.some in omega arith) (let none : greatest_size (family_at store 0) ≤ 0 = none-most store 0 0 sound refl in omega arith);
    }

pub begins_ordered : (before store : Families) (family : Id) (events : List ℕ) (parts : List Id) → IsSound before → IsIn before family → AreSizes store (family_of before family) 0 parts → length parts ≡ length events + 1
    → IsInListingOrder (flat_map (family_of store) parts)
begins_ordered before store family events parts sound here sizes count =
    all_ordered (length events) (family_of before family) (flat_map (family_of store) parts) (all_listed_sizes store (family_of before family) (length events) parts sizes count) (sound.ordered family.position here)

pub begins_listed : (before store : Families) (family : Id) (events : List ℕ) (parts : List Id) → IsSound before → IsIn before family → ((set : List ℕ) → Contains (family_of before family) set → IsTrue (is_within set events))
    → AreSizes store (family_of before family) 0 parts → length parts ≡ length events + 1 → (set : List ℕ) → Contains (flat_map (family_of store) parts) set ↔ Contains (family_of before family) set
begins_listed before store family events parts sound here among sizes count =
    all_listed (length events) (family_of before family) (flat_map (family_of store) parts) (all_listed_sizes store (family_of before family) (length events) parts sizes count)
    (λ set there. within-shorter set events (all_contained _ (family_of before family) set (sound.rising family.position here) there) (among set there))

pub begins_left : (store : Families) (parts : List Id) (path : Trail) (room : ℕ) → IsSound store → path ≡ record { frames = []; room = room }
    → left_below store path.frames (family_at store 0) ++ flat_map (family_of store) parts ≡ flat_map (family_of store) parts
begins_left store parts path room sound is = ap (λ f. f ++ flat_map (family_of store) parts) (left-begin store path (family_at store 0) (ap (λ p. p.frames) is) ∙ sound.empty)

-- from a started listing to another place of it
pub moved : (store : Families) (walk : Walk) (begun : ℕ) (path : Trail) (rest : Id) → IsStarted store walk → path.room ≡ walk.path.room → IsPlace store path rest
    → IsSameListing store walk (record { parts = walk.parts; begun = begun; path = path; rest = rest })
moved store walk begun path rest started room place =
    let count = started.part_count in
    record {
      all = refl;
      events = room;
      started = record {
        family = started.family;
        events = started.events;
        parts = started.parts;
        part_count = omega arith;
        events_are = started.events_are ∙ sym room;
        within = started.within;
        place = place;
      };
    }

-- on to the next part, where nothing is left of the one before
pub next_same : (store : Families) (walk : Walk) (begun : ℕ) (path : Trail) (middle rest : Id) → SameLeft walk.path path walk.rest middle → path.frames ≡ [] → IsStarted store walk → IsIn store rest
    → greatest_size (family_of store rest) ≤ length walk.parts - 1 → IsSameListing store walk (record { parts = walk.parts; begun = begun; path = path; rest = rest })
next_same store walk begun path middle rest same none started here few =
    let room = same.room in
    let count = started.part_count in
    moved store walk begun path rest started same.room (place_begin store path rest none here (omega arith))

pub next_left : (store : Families) (walk : Walk) (begun : ℕ) (path : Trail) (middle rest : Id) → IsSound store → SameLeft walk.path path walk.rest middle → middle.position ≡ 0 → path.frames ≡ []
    → family_of store rest ++ flat_map (family_of store) (drop begun walk.parts) ≡ flat_map (family_of store) (drop walk.begun walk.parts)
    → left_below store path.frames (family_of store rest) ++ flat_map (family_of store) (drop begun walk.parts) ≡ sets_left store walk
next_left store walk begun path middle rest sound same none frames left =
    ap (λ f. f ++ flat_map (family_of store) (drop begun walk.parts)) (left-begin store path (family_of store rest) frames) ∙ left
    ∙ ap (λ f. f ++ flat_map (family_of store) (drop walk.begun walk.parts)) (sym (sym (same.left store sound) ∙ left-begin store path (family_of store middle) frames ∙ ap (family_at store) none ∙ sound.empty))

-- at the end
pub none_left : (store : Families) (walk : Walk) (result : Id) → IsSound store → walk.rest ≡ result → result.position ≡ 0 → (result.position ≡ 0 → (walk.path.frames ≡ []) × (drop walk.begun walk.parts ≡ [])) → sets_left store walk ≡ []
none_left store walk result sound rest is end =
    let both = end is in
    let empty : family_of store walk.rest ≡ [] = ap (λ id. family_of store id) rest ∙ ap (family_at store) is ∙ sound.empty in
    ap (λ f. f ++ flat_map (family_of store) (drop walk.begun walk.parts)) (left-begin store walk.path (family_of store walk.rest) both.0 ∙ empty)
    ∙ ap (flat_map (family_of store)) both.1

-- down to the first set
pub went_same : (store : Families) (before walk : Walk) (path : Trail) (rest : Id) → IsSameListing store before walk → path.room ≡ walk.path.room → IsPlace store path rest
    → IsSameListing store before (record { parts = walk.parts; begun = walk.begun; path = path; rest = rest })
went_same store before walk path rest same room place =
    let on = moved store walk walk.begun path rest same.started room place in
    record { all = on.all ∙ same.all; events = on.events ∙ same.events; started = on.started }
