-- Past the sets before which a given one does not stand.
use Rattle.std.proofs.Common.{◌≡◌, ℕ, zero, suc, ◌+◌, ◌<◌, ◌≤◌, Bool, true, false, List, [], ◌∷◌, ◌++◌, length, length-append, drop, slice_index_or, filter, IsTrue, refl, sym, ap, ◌∙◌, subst, arith, eqb-true, eq-eqb, ltb-true, lt-ltb, add-one}
use Rattle.std.specs.Prelude.{nat_lt, ◌==◌, ◌&&◌, ◌||◌}
use Rattle.std.proofs.Math.Seq.{drop-cons}
use Rattle.std.proofs.Math.ListN.{drop_of_length-le}
use Rattle.std.proofs.lemmas.Bool.{false≢true}
use Rattle.std.specs.List.{AllByRecursion}
use Rattle.zdd_store.specs.inner.Family.{Family, branch, least_of, least_number, precedes, has, is_within}
use Rattle.zdd_store.specs.inner.Store.{Families, IsIn, IsSound, Fits, family_at, family_of, family_with}
use Rattle.zdd_store.specs.declared.id.Id.{Id}
use Rattle.zdd_store.specs.declared.id.Node.{Node}
use Rattle.zdd_store.proofs.Branches.{with_var, branch-empty, branch-with_var}
use Rattle.zdd_store.proofs.Growing.{some_set}
use Rattle.zdd_store.proofs.Orders.{all_contained}
use Rattle.zdd_families.proofs.Above.{above}
use Rattle.zdd_families.proofs.Joins.{filter-branch, filter_keeps, filter_drops, same_filter}
use Rattle.zdd_families.proofs.Subsets.{has_first, has_rest, within_has, within_from}
use Rattle.cutset_lister.specs.inner.Trails.{Trail, left_below}
use Rattle.cutset_lister.proofs.Below.{frames-push, left-push}
use Rattle.cutset_lister.proofs.Counting.{above-fewer, above-most}
use Rattle.cutset_lister.proofs.Going.{left-begin}

-- a set that begins with a smaller number stands before each set of a family
later : (n : ℕ) (ns : List ℕ) (family : Family) → n < least_number family → AllByRecursion (λ set. precedes (n ∷ ns) set ≡ true) family
unfolding least_number least_of
later n ns [] h = tt
later n ns ([] ∷ sets) h = (refl, later n ns sets (omega arith))
later n ns ((m ∷ ms) ∷ sets) h = (by (nat_lt n m) (lt-ltb n m (omega arith)), later n ns sets (omega arith))
  where
    by : (b : Bool) → b ≡ true → b || ((n == m) && precedes ns ms) ≡ true
    by true e = refl
    by false e = absurd (false≢true e)

filter_all : (test : List ℕ → Bool) (family : Family) → AllByRecursion (λ set. test set ≡ true) family → filter test family ≡ family
filter_all test family all = filter_keeps test family (λ set here. all_contained (λ s. test s ≡ true) family set all here)

pub filter-later : (n : ℕ) (ns : List ℕ) (family : Family) → n < least_number family → filter (precedes (n ∷ ns)) family ≡ family
filter-later n ns family h = filter_all (precedes (n ∷ ns)) family (later n ns family h)

-- EMPTY and UNIT have no set but the empty one, before which each other stands
pub filter-terminal : (store : Families) (id : Id) (n : ℕ) (ns : List ℕ) → IsSound store → id.position < 2 → filter (precedes (n ∷ ns)) (family_of store id) ≡ family_of store id
filter-terminal store id n ns sound h = by id.position refl h
  where
    by : (p : ℕ) → id.position ≡ p → p < 2 → filter (precedes (n ∷ ns)) (family_at store id.position) ≡ family_at store id.position
    by zero e k = let is = ap (family_at store) e ∙ sound.empty in ap (filter (precedes (n ∷ ns))) is ∙ sym is
    by (suc zero) e k = let is = ap (family_at store) e ∙ sound.unit in ap (filter (precedes (n ∷ ns))) is ∙ sym is
    by (suc (suc m)) e k = absurd (omega arith)

-- with the same first number the rests decide
same_first : (n : ℕ) (ns set : List ℕ) → precedes (n ∷ ns) (n ∷ set) ≡ precedes ns set
same_first n ns set = by (nat_lt n n) (n == n) refl (eq-eqb n n refl)
  where
    by : (l e : Bool) → nat_lt n n ≡ l → e ≡ true → l || (e && precedes ns set) ≡ precedes ns set
    by true e is f = let h : n < n = ltb-true n n is in absurd (omega arith)
    by false true is f = refl
    by false false is f = absurd (false≢true f)

-- after a smaller first number no set stands
smaller_first : (n var : ℕ) (ns set : List ℕ) → var < n → precedes (n ∷ ns) (var ∷ set) ≡ false
smaller_first n var ns set h = by (nat_lt n var) (n == var) refl refl
  where
    by : (l e : Bool) → nat_lt n var ≡ l → (n == var) ≡ e → l || (e && precedes ns set) ≡ false
    by true e is f = let k : n < var = ltb-true n var is in absurd (omega arith)
    by false true is f = let k : n ≡ var = eqb-true n var f in absurd (omega arith)
    by false false is f = refl

pub filter-equal : (n : ℕ) (ns : List ℕ) (lo hi : Family) → n < least_number lo → filter (precedes (n ∷ ns)) (branch n lo hi) ≡ branch n lo (filter (precedes ns) hi)
filter-equal n ns lo hi h =
    filter-branch (precedes (n ∷ ns)) n lo hi ∙ ap (λ f. branch n f (filter (λ set. precedes (n ∷ ns) (n ∷ set)) hi)) (filter-later n ns lo h)
    ∙ ap (branch n lo) (same_filter (λ set. precedes (n ∷ ns) (n ∷ set)) (precedes ns) hi (λ set here. same_first n ns set))

pub filter-smaller : (n var : ℕ) (ns : List ℕ) (lo hi : Family) → var < n → filter (precedes (n ∷ ns)) (branch var lo hi) ≡ filter (precedes (n ∷ ns)) lo
filter-smaller n var ns lo hi h =
    filter-branch (precedes (n ∷ ns)) var lo hi ∙ ap (branch var (filter (precedes (n ∷ ns)) lo)) (filter_drops (λ set. precedes (n ∷ ns) (var ∷ set)) hi (λ set here. smaller_first n var ns set h))
    ∙ branch-empty var (filter (precedes (n ∷ ns)) lo)

-- each number of the sets of a family is one of these
abbrev pub AreAmong : List ℕ → Family → Type 0
AreAmong events family = AllByRecursion (λ set. IsTrue (is_within set events)) family

among_lo : (events : List ℕ) (var : ℕ) (lo hi : Family) → AreAmong events (with_var var hi lo) → AreAmong events lo
unfolding with_var
among_lo events var lo [] all = all
among_lo events var lo (set ∷ sets) all = among_lo events var lo sets all.1

among_hi : (events : List ℕ) (var : ℕ) (lo hi : Family) → AreAmong events (with_var var hi lo) → AreAmong events hi
unfolding with_var
among_hi events var lo [] all = tt
among_hi events var lo (set ∷ sets) all = (within_from set events (λ x here. within_has (var ∷ set) events x all.0 (has_rest var set x here)), among_hi events var lo sets all.1)

among_var : (events : List ℕ) (var : ℕ) (lo hi : Family) → (hi ≡ [] → ⊥) → AreAmong events (with_var var hi lo) → has events var ≡ true
unfolding with_var
among_var events var lo [] some all = absurd (some refl)
among_var events var lo (set ∷ sets) some all = within_has (var ∷ set) events var all.0 (has_first var set)

-- the walk past the sets before which `after` does not stand: those of the family that `after` stands before are the way's numbers with those of the rest
-- that the rest of `after` stands before, and what was left on the way; each step takes one of the events at least
pub record Skipping (store : Families) (before now : Trail) (family id : Id) (after : List ℕ) (place steps_before steps : ℕ) : Type 0 where
  pub found : IsIn store id
  pub frames_in : AllByRecursion (λ frame. IsIn store frame.low) now.frames
  pub room : now.room ≡ before.room
  pub depth : length now.frames ≡ place
  pub left : left_below store now.frames (filter (precedes (drop place after)) (family_of store id)) ≡ filter (precedes after) (family_of store family)
  pub among : (events : List ℕ) → AreAmong events (family_of store family) → AreAmong events (family_of store id)
  pub counted : (events : List ℕ) → AreAmong events (family_of store family) → steps + length (above (least_number (family_of store id)) events) ≤ steps_before + length events

pub skip_begins : (store : Families) (path : Trail) (family : Id) (after : List ℕ) (steps : ℕ) → IsIn store family → path.frames ≡ [] → Skipping store path path family family after 0 steps steps
skip_begins store path family after steps here begin = record {
  found = here;
  frames_in = subst (AllByRecursion (λ frame. IsIn store frame.low)) (sym begin) tt;
  room = refl;
  depth = ap length begin;
  left = left-begin store path (filter (precedes after) (family_of store family)) begin;
  among = λ events all. all;
  counted = λ events all. let most : length (above (least_number (family_of store family)) events) ≤ length events = above-most (least_number (family_of store family)) events in omega arith;
}

-- what is left of the set that is given, from a place on
rest_after : (after : List ℕ) (place : ℕ) → place < length after → drop place after ≡ slice_index_or after place 0 ∷ drop (place + 1) after
rest_after after place h = drop-cons after place 0 h ∙ ap (λ n. slice_index_or after place 0 ∷ drop n after) (sym (add-one place))

module _ (store : Families) (before now : Trail) (family id : Id) (node : Node) (after : List ℕ) (place steps_before steps : ℕ) (sound : IsSound store) (s : Skipping store before now family id after place steps_before steps)
    (fits : Fits store node) (is : family_of store id ≡ family_with store node) (least : least_number (family_of store id) ≡ node.var) where
  among_node : (events : List ℕ) → AreAmong events (family_of store family) → AreAmong events (with_var node.var (family_of store node.hi) (family_of store node.lo))
  among_node events all = subst (AreAmong events) (is ∙ branch-with_var node.var (family_of store node.lo) (family_of store node.hi)) (s.among events all)

  count_node : (events : List ℕ) (next : Id) (new : ℕ) → AreAmong events (family_of store family) → node.var < least_number (family_of store next) → new ≡ steps + 1
      → new + length (above (least_number (family_of store next)) events) ≤ steps_before + length events
  count_node events next new all greater step =
      let here : has events node.var ≡ true = among_var events node.var (family_of store node.lo) (family_of store node.hi) (λ none. some_set store node.hi.position sound fits.hi_some fits.hi_in none) (among_node events all) in
      let fewer : length (above (least_number (family_of store next)) events) + 1 ≤ length (above (least_number (family_of store id)) events) =
      above-fewer (least_number (family_of store id)) node.var (least_number (family_of store next)) events here (omega arith) greater
      in
      let count = s.counted events all in
      omega arith

  pub skips_lower : (number new : ℕ) → place < length after → slice_index_or after place 0 ≡ number → node.var < number → new ≡ steps + 1 → Skipping store before now family node.lo after place steps_before new
  skips_lower number new within at less step = record {
    found = fits.lo_in;
    frames_in = s.frames_in;
    room = s.room;
    depth = s.depth;
    left =
        ap (λ rest. left_below store now.frames (filter (precedes rest) (family_of store node.lo))) (rest_after after place within)
        ∙ ap (left_below store now.frames) (sym (filter-smaller (slice_index_or after place 0) node.var (drop (place + 1) after) (family_of store node.lo) (family_of store node.hi) (omega arith)))
        ∙ ap (λ rest. left_below store now.frames (filter (precedes rest) (family_with store node))) (sym (rest_after after place within))
        ∙ ap (λ f. left_below store now.frames (filter (precedes (drop place after)) f)) (sym is)
        ∙ s.left;
    among = λ events all. among_lo events node.var (family_of store node.lo) (family_of store node.hi) (among_node events all);
    counted = λ events all. count_node events node.lo new all fits.lo_greater step;
  }

  pub skips_down : (trail : Trail) (new : ℕ) → place < length after → slice_index_or after place 0 ≡ node.var → trail ≡ record { frames = now.frames ++ record { number = node.var; low = node.lo } ∷ []; room = now.room } → new ≡ steps + 1
      → Skipping store before trail family node.hi after (place + 1) steps_before new
  skips_down trail new within at trail_is step =
      let frames : trail.frames ≡ now.frames ++ record { number = node.var; low = node.lo } ∷ [] = ap (λ t. t.frames) trail_is in
      let rest : drop place after ≡ node.var ∷ drop (place + 1) after = rest_after after place within ∙ ap (λ n. n ∷ drop (place + 1) after) at in
      record {
        found = fits.hi_in;
        frames_in = frames-push store now.frames trail.frames node.var node.lo frames s.frames_in fits.lo_in;
        room = ap (λ t. t.room) trail_is ∙ s.room;
        depth = ap length frames ∙ length-append now.frames (record { number = node.var; low = node.lo } ∷ []) ∙ (let d = s.depth in omega arith);
        left =
            ap (λ f. left_below store f (filter (precedes (drop (place + 1) after)) (family_of store node.hi))) frames
            ∙ left-push store now.frames (record { number = node.var; low = node.lo }) (filter (precedes (drop (place + 1) after)) (family_of store node.hi))
            ∙ ap (left_below store now.frames) (sym (filter-equal node.var (drop (place + 1) after) (family_of store node.lo) (family_of store node.hi) fits.lo_greater))
            ∙ ap (λ r. left_below store now.frames (filter (precedes r) (family_with store node))) (sym rest)
            ∙ ap (λ f. left_below store now.frames (filter (precedes (drop place after)) f)) (sym is)
            ∙ s.left;
        among = λ events all. among_hi events node.var (family_of store node.lo) (family_of store node.hi) (among_node events all);
        counted = λ events all. count_node events node.hi new all fits.hi_greater step;
      }

  -- all that is left stands behind
  pub skipped_greater : (number : ℕ) → place < length after → slice_index_or after place 0 ≡ number → number < node.var → left_below store now.frames (family_of store id) ≡ filter (precedes after) (family_of store family)
  skipped_greater number within at less =
      ap (left_below store now.frames) (sym (filter-later (slice_index_or after place 0) (drop (place + 1) after) (family_of store id) (omega arith)))
      ∙ ap (λ rest. left_below store now.frames (filter (precedes rest) (family_of store id))) (sym (rest_after after place within)) ∙ s.left

-- nothing to look at is left, or no number of the given set
module _ (store : Families) (before now : Trail) (family id : Id) (after : List ℕ) (place steps_before steps : ℕ) (sound : IsSound store) (s : Skipping store before now family id after place steps_before steps) where
  pub skipped_terminal : place < length after → id.position < 2 → left_below store now.frames (family_of store id) ≡ filter (precedes after) (family_of store family)
  skipped_terminal within low =
      ap (left_below store now.frames) (sym (filter-terminal store id (slice_index_or after place 0) (drop (place + 1) after) sound low))
      ∙ ap (λ rest. left_below store now.frames (filter (precedes rest) (family_of store id))) (sym (rest_after after place within)) ∙ s.left

  pub skipped_all : (empty : Id) → length after ≤ place → empty.position ≡ 0 → left_below store now.frames (family_of store empty) ≡ filter (precedes after) (family_of store family)
  skipped_all empty end none =
      ap (left_below store now.frames) (ap (family_at store) none ∙ sound.empty ∙ sym (filter_drops (precedes []) (family_of store id) (λ set here. refl)))
      ∙ ap (λ rest. left_below store now.frames (filter (precedes rest) (family_of store id))) (sym (drop_of_length-le after end)) ∙ s.left

  pub skipped_steps : (new : ℕ) → new ≤ steps + 1 → (events : List ℕ) → AreAmong events (family_of store family) → new ≤ steps_before + length events + 1
  skipped_steps new step events all = let count = s.counted events all in omega arith

-- past a family without sets
pub skipped_none : (store : Families) (path : Trail) (family : Id) (after : List ℕ) → IsSound store → path.frames ≡ [] → family.position ≡ 0
    → left_below store path.frames (family_of store family) ≡ filter (precedes after) (family_of store family)
skipped_none store path family after sound begin none =
    let is : family_of store family ≡ [] = ap (family_at store) none ∙ sound.empty in
    left-begin store path (family_of store family) begin ∙ is ∙ sym (ap (filter (precedes after)) is)
