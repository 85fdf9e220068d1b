-- What is left on a way down.
use Rattle.std.proofs.Common.{◌≡◌, ℕ, ◌+◌, ◌-◌, ◌<◌, ◌≤◌, List, [], ◌∷◌, ◌++◌, length, length-append, map, refl, sym, ap, ◌∙◌, subst, arith, ⊎_elim, inl}
use Rattle.std.specs.List.{AllByRecursion}
use Rattle.std.proofs.lemmas.List.{length-map}
use Rattle.fault_system.proofs.Elements.{In, In-front, In-mapped}
use Rattle.zdd_store.specs.inner.Family.{Family, branch}
use Rattle.zdd_store.specs.inner.Store.{Families, IsIn, IsSound, Fits, family_at, family_of, family_with}
use Rattle.zdd_store.specs.declared.id.Id.{Id}
use Rattle.zdd_store.specs.declared.id.Node.{Node}
use Rattle.zdd_store.proofs.Branches.{branch-empty}
use Rattle.zdd_store.proofs.Growing.{some_set}
use Rattle.cutset_lister.specs.declared.path.Frame.{Frame}
use Rattle.cutset_lister.specs.inner.Trails.{Trail, IsPlace, SameLeft, numbers, left_below, greatest_size}

-- one number more on the way
pub left-push : (store : Families) (frames : List Frame) (frame : Frame) (family : Family)
    → left_below store (frames ++ frame ∷ []) family ≡ left_below store frames (branch frame.number (family_of store frame.low) family)
unfolding left_below
left-push store [] frame family = refl
left-push store (f ∷ fs) frame family = ap (branch f.number (family_of store f.low)) (left-push store fs frame family)

-- the way's own set is the first that is left behind it
pub left-unit : (store : Families) (frames : List Frame) → left_below store frames ([] ∷ []) ≡ numbers frames ∷ left_below store frames []
unfolding left_below branch
left-unit store [] = refl
left-unit store (f ∷ fs) = ap (branch f.number (family_of store f.low)) (left-unit store fs)

-- a set behind the way is left
pub in_left : (store : Families) (frames : List Frame) (family : Family) (set : List ℕ) → In set family → In (numbers frames ++ set) (left_below store frames family)
unfolding left_below branch
in_left store [] family set here = here
in_left store (f ∷ fs) family set here =
    In-front (f.number ∷ (numbers fs ++ set)) (map (λ s. f.number ∷ s) (left_below store fs family)) (family_of store f.low)
    (In-mapped (λ s. f.number ∷ s) (numbers fs ++ set) (left_below store fs family) (in_left store fs family set here))

-- no set is greater than the greatest
pub size-of : (family : Family) (set : List ℕ) → In set family → length set ≤ greatest_size family
unfolding greatest_size
size-of [] set here = absurd here
size-of (s ∷ ss) set here = ⊎_elim (λ e. let same : length s ≡ length set = ap length e in omega arith) (λ r. let rest : length set ≤ greatest_size ss = size-of ss set r in omega arith) here

-- there is room for each set behind the way
pub room-left : (store : Families) (frames : List Frame) (family : Family) (set : List ℕ) (room : ℕ)
    → greatest_size (left_below store frames family) ≤ room → In set family → length frames + length set ≤ room
room-left store frames family set room short here =
    let all : length (numbers frames ++ set) ≤ greatest_size (left_below store frames family) = size-of (left_below store frames family) (numbers frames ++ set) (in_left store frames family set here) in
    let count : length (numbers frames) ≡ length frames = simp length-map in
    omega (arith, length-append (numbers frames) set)

-- a set with a number more stands under a node
below_node : (var : ℕ) (lo hi : Family) (set : List ℕ) → In set hi → In (var ∷ set) (branch var lo hi)
unfolding branch
below_node var lo hi set here = In-front (var ∷ set) (map (λ s. var ∷ s) hi) lo (In-mapped (λ s. var ∷ s) set hi here)

-- on the way to a node there is room for its number
pub room-node : (store : Families) (trail : Trail) (id : Id) (node : Node) → IsSound store → IsPlace store trail id → Fits store node → family_of store id ≡ family_with store node → length trail.frames < trail.room
room-node store trail id node sound place fits is = by (family_of store node.hi) refl
  where
    by : (hi : Family) → family_of store node.hi ≡ hi → length trail.frames < trail.room
    by [] none = absurd (some_set store node.hi.position sound fits.hi_some fits.hi_in none)
    by (set ∷ sets) some =
        let here : In (node.var ∷ set) (family_of store id) = subst (In (node.var ∷ set)) (sym is) (below_node node.var (family_of store node.lo) (family_of store node.hi) set (subst (In set) (sym some) (inl refl))) in
        let fits : length trail.frames + length (node.var ∷ set) ≤ trail.room = room-left store trail.frames (family_of store id) (node.var ∷ set) trail.room place.short here in
        omega arith

all_push : (P : Frame → Type 0) (frames : List Frame) (frame : Frame) → AllByRecursion P frames → P frame → AllByRecursion P (frames ++ frame ∷ [])
all_push P [] frame all last = (last, tt)
all_push P (f ∷ fs) frame all last = (all.0, all_push P fs frame all.1 last)

all_front : (P : Frame → Type 0) (frames : List Frame) (frame : Frame) → AllByRecursion P (frames ++ frame ∷ []) → AllByRecursion P frames × P frame
all_front P [] frame all = (tt, all.0)
all_front P (f ∷ fs) frame all = let rest = all_front P fs frame all.1 in ((all.0, rest.0), rest.1)

-- the frames of a store with one more
pub frames-push : (store : Families) (frames new : List Frame) (number : ℕ) (low : Id) → new ≡ frames ++ record { number = number; low = low } ∷ []
    → AllByRecursion (λ frame. IsIn store frame.low) frames → IsIn store low → AllByRecursion (λ frame. IsIn store frame.low) new
frames-push store frames new number low is all last = subst (AllByRecursion (λ frame. IsIn store frame.low)) (sym is) (all_push (λ frame. IsIn store frame.low) frames (record { number = number; low = low }) all last)

-- the way down: what is left below the beginning stays the same, and each step down is one look
pub record Descending (store : Families) (before now : Trail) (family id : Id) (steps_before steps : ℕ) : Type 0 where
  pub place : IsPlace store now id
  pub some : 0 < id.position
  pub left : left_below store now.frames (family_of store id) ≡ left_below store before.frames (family_of store family)
  pub room : now.room ≡ before.room
  pub counted : steps + length before.frames ≡ steps_before + length now.frames

pub descended : (store : Families) (before now new : Trail) (family id : Id) (node : Node) (steps_before steps after : ℕ) → Descending store before now family id steps_before steps → Fits store node
    → family_of store id ≡ family_with store node → new ≡ record { frames = now.frames ++ record { number = node.var; low = node.lo } ∷ []; room = now.room } → after ≡ steps + 1
    → Descending store before new family node.hi steps_before after
descended store before now new family id node steps_before steps after d fits is new_is step =
    let frames : new.frames ≡ now.frames ++ record { number = node.var; low = node.lo } ∷ [] = ap (λ t. t.frames) new_is in
    let room : new.room ≡ now.room = ap (λ t. t.room) new_is in
    let same : left_below store new.frames (family_of store node.hi) ≡ left_below store now.frames (family_of store id) =
    ap (λ f. left_below store f (family_of store node.hi)) frames ∙ left-push store now.frames (record { number = node.var; low = node.lo }) (family_of store node.hi) ∙ ap (left_below store now.frames) (sym is)
    in
    let size : greatest_size (left_below store new.frames (family_of store node.hi)) ≡ greatest_size (left_below store now.frames (family_of store id)) = ap greatest_size same in
    let short = d.place.short in
    let deeper : length new.frames ≡ length now.frames + 1 = ap length frames ∙ length-append now.frames (record { number = node.var; low = node.lo } ∷ []) in
    record {
      place = record { frames_in = frames-push store now.frames new.frames node.var node.lo frames d.place.frames_in fits.lo_in; rest_in = fits.hi_in; short = omega arith };
      some = fits.hi_some;
      left = same ∙ d.left;
      room = room ∙ d.room;
      counted = let counted = d.counted in omega arith;
    }

-- at the end of the way
at_unit : (store : Families) (id : Id) → IsSound store → id.position < 2 → 0 < id.position → family_of store id ≡ [] ∷ []
at_unit store id sound low some = let one : id.position ≡ 1 = omega arith in ap (family_at store) one ∙ sound.unit

pub descended_first : (store : Families) (before now : Trail) (family id : Id) (steps_before steps : ℕ) → IsSound store → Descending store before now family id steps_before steps → id.position < 2
    → left_below store before.frames (family_of store family) ≡ numbers now.frames ∷ left_below store now.frames []
descended_first store before now family id steps_before steps sound d low =
    sym d.left ∙ ap (left_below store now.frames) (at_unit store id sound low d.some) ∙ left-unit store now.frames

greatest-rest : (set : List ℕ) (sets : Family) → greatest_size sets ≤ greatest_size (set ∷ sets)
unfolding greatest_size
greatest-rest set sets = omega arith

pub descended_place : (store : Families) (before now : Trail) (family id empty : Id) (steps_before steps : ℕ) → IsSound store → Descending store before now family id steps_before steps → id.position < 2
    → empty.position ≡ 0 → IsPlace store now empty
descended_place store before now family id empty steps_before steps sound d low is =
    let first : left_below store now.frames (family_of store id) ≡ numbers now.frames ∷ left_below store now.frames [] =
    ap (left_below store now.frames) (at_unit store id sound low d.some) ∙ left-unit store now.frames
    in
    let whole : greatest_size (left_below store now.frames (family_of store id)) ≡ greatest_size (numbers now.frames ∷ left_below store now.frames []) = ap greatest_size first in
    let less : greatest_size (left_below store now.frames []) ≤ greatest_size (numbers now.frames ∷ left_below store now.frames []) = greatest-rest (numbers now.frames) (left_below store now.frames []) in
    let rest : greatest_size (left_below store now.frames (family_of store empty)) ≡ greatest_size (left_below store now.frames []) = ap (λ f. greatest_size (left_below store now.frames f)) (ap (family_at store) is ∙ sound.empty) in
    let short = d.place.short in
    record { frames_in = d.place.frames_in; rest_in = let some = sound.some in omega arith; short = omega arith }

pub descended_steps : (store : Families) (before now : Trail) (family id : Id) (steps_before steps : ℕ) → IsSound store → Descending store before now family id steps_before steps → id.position < 2
    → steps + 1 ≤ steps_before + before.room + 1
descended_steps store before now family id steps_before steps sound d low =
    let fits : length now.frames + length {A = ℕ} [] ≤ now.room =
    room-left store now.frames (family_of store id) [] now.room d.place.short (subst (In []) (sym (at_unit store id sound low d.some)) (inl refl))
    in
    let counted = d.counted in let same = d.room in omega arith

-- from a place without a set to the one before it
pub same-back : (t0 t1 t2 : Trail) (from to : Id) (frame : Frame) → SameLeft t0 t1 from to → to.position ≡ 0 → t1.frames ≡ t2.frames ++ frame ∷ [] → t2.room ≡ t1.room → SameLeft t0 t2 from frame.low
same-back t0 t1 t2 from to frame same none frames room =
    record {
      room = room ∙ same.room;
      left = λ store sound. back store sound ∙ same.left store sound;
      place = λ store sound place.
          let here = same.place store sound place in
          let parts = all_front (λ f. IsIn store f.low) t2.frames frame (subst (AllByRecursion (λ f. IsIn store f.low)) frames here.frames_in) in
          let size : greatest_size (left_below store t2.frames (family_of store frame.low)) ≡ greatest_size (left_below store t1.frames (family_of store to)) = ap greatest_size (back store sound) in
          let short = here.short in
          record { frames_in = parts.0; rest_in = parts.1; short = omega arith };
    }
  where
    back : (store : Families) → IsSound store → left_below store t2.frames (family_of store frame.low) ≡ left_below store t1.frames (family_of store to)
    back store sound =
        ap (left_below store t2.frames) (sym (branch-empty frame.number (family_of store frame.low)))
        ∙ sym (left-push store t2.frames frame [])
        ∙ ap (λ f. left_below store f []) (sym frames)
        ∙ ap (left_below store t1.frames) (sym (ap (family_at store) none ∙ sound.empty))

-- at the beginning
pub same-begin : (t0 t1 t2 : Trail) (from to : Id) → SameLeft t0 t1 from to → t2.frames ≡ t1.frames → t2.room ≡ t1.room → SameLeft t0 t2 from to
same-begin t0 t1 t2 from to same frames room =
    let is : t1 ≡ t2 = λ i. record { frames = sym frames i; room = sym room i } in
    subst (λ t. SameLeft t0 t from to) is same

pub same-start : (t0 t1 : Trail) (from : Id) → t1 ≡ t0 → SameLeft t0 t1 from from
same-start t0 t1 from is = subst (λ t. SameLeft t0 t from from) (sym is) (record { room = refl; left = λ store sound. refl; place = λ store sound place. place })

-- a step down leaves less room
pub less-room : (now new : Trail) (frame : Frame) → new ≡ record { frames = now.frames ++ frame ∷ []; room = now.room } → length now.frames < now.room → new.room - length new.frames < now.room - length now.frames
less-room now new frame is room =
    let deeper : length new.frames ≡ length now.frames + 1 = ap (λ t. length t.frames) is ∙ length-append now.frames (frame ∷ []) in
    let same : new.room ≡ now.room = ap (λ t. t.room) is in
    omega arith
