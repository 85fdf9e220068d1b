-- What families cover when they are kept, cut and joined.
use Rattle.std.proofs.Common.{ℕ, zero, suc, ◌+◌, ◌≡◌, ◌<◌, ◌≤◌, ◌⊎◌, Bool, true, false, cond, ◌&&◌, ◌||◌, not, nat_le, slice_index_or, List, [], ◌∷◌, ◌++◌, map, length, All, Option, Some, Result, Ok, Err, IfOk, inl, inr, ⊎_elim, ap, ◌∙◌, sym, subst, refl, arith, leb-true, le-leb}
use Rattle.std.proofs.lemmas.Bool.{lt-leb, cases_lt, or_cases}
use Rattle.std.proofs.lemmas.List.Elements.{All-weaker}
use lib.ListN.{length-map}
use Rattle.std.specs.List.{list_all, list_any, sum_by, AllByRecursion}
use Rattle.std.specs.declared.alloc.AllocError.{AllocError}
use Rattle.fault_system.specs.Truth.{count_true}
use Rattle.fault_system.specs.Listings.{IsWithinOrder}
use Rattle.fault_system.proofs.TruthLaws.{same_answer, nat_le-all, nat_le-any}
use Rattle.zdd_store.specs.inner.Family.{covers, IsRising}
use Rattle.zdd_store.specs.inner.Store.{Families, IsIn, family_of, Keeps, IsSound}
use Rattle.zdd_store.specs.inner.Answers.{sets_up_to, IsAsked, IsLeastUpTo}
use Rattle.zdd_store.specs.declared.id.Id.{Id}
use Rattle.zdd_families.specs.inner.Unions.{some_of}
use Rattle.zdd_families.proofs.Ways.{Keeps_trans, Keeps_same}
use Rattle.zdd_families.proofs.Pairs.{covers-empty, covers-unit}
use Rattle.zdd_families.proofs.Shorter.{covers_cut}
use Rattle.cutset_engine.specs.inner.Gates.{covers_each, Stands, Made, of_all, of_both}
use Rattle.cutset_engine.specs.declared.gates.Gate.{Gate}
use Rattle.cutset_engine.specs.declared.gates.Gate.TheVariants.{And, Or}
use Rattle.std.specs.List.Sorted.{IsPermutation}
use Rattle.std.proofs.lemmas.List.Sorted.{IsPermutation-map, list_any-IsPermutation, sum_by-IsPermutation}
use Rattle.std.proofs.lemmas.List.Recursion.{is_sum_by}
use Rattle.std.proofs.lemmas.List.Folds.{list_all-append, list_any-append}

-- what is kept covers as before
pub kept_covers : (before after : Families) (id : Id) (set : List ℕ) → Keeps before after → IsIn before id → covers (family_of after id) set ≡ covers (family_of before id) set
kept_covers before after id set kept found = ap (λ family. covers family set) (kept.same id.position found)

pub kept_each : (before after : Families) (ids : List Id) (set : List ℕ) → Keeps before after → All (IsIn before) ids → covers_each after ids set ≡ covers_each before ids set
kept_each before after [] set kept found = refl
kept_each before after (id ∷ ids) set kept found =
    let head : covers (family_of after id) set ≡ covers (family_of before id) set = kept_covers before after id set kept (found 0 id (omega arith)) in
    let tail = kept_each before after ids set kept (λ k d h. found (suc k) d (omega arith)) in
    λ i. head i ∷ tail i

pub kept_in : (before after : Families) (ids : List Id) → Keeps before after → All (IsIn before) ids → All (IsIn after) ids
kept_in before after ids kept found = All-weaker (IsIn before) (IsIn after) (λ id h. omega (arith, kept.more)) ids found

-- a family that covers what it should, of any number of events
pub made_wide : (before after : Families) (most : Option ℕ) (test : List ℕ → Bool) (result : Result Id AllocError) → Keeps before after → IfOk result (IsIn after)
    → IfOk result (λ id. (set : List ℕ) → covers (family_of after id) set ≡ test set) → Made before after most test result
made_wide before after most test (Ok id) kept found right = record { kept = kept; made = record { found = found; right = λ set h. right set } }
made_wide before after most test (Err e) kept found right = record { kept = kept; made = tt }

-- a step whose operands were made before
pub made_then : (before middle after : Families) (most : Option ℕ) (test other : List ℕ → Bool) (result : Result Id AllocError) → Keeps before middle → Made middle after most test result → ((set : List ℕ) → IsWithinOrder most set → test set ≡ other set) → Made before after most other result
made_then before middle after most test other (Ok id) kept made same =
    record { kept = Keeps_trans before middle after kept made.kept; made = record { found = made.made.found; right = λ set h. made.made.right set h ∙ same set h } }
made_then before middle after most test other (Err e) kept made same = record { kept = Keeps_trans before middle after kept made.kept; made = tt }

some_step : (k : ℕ) (b : Bool) (n : ℕ) → nat_le (suc k) (cond b (n + 1) n) ≡ nat_le (suc k) n || (b && nat_le k n)
some_step k true n = same_answer _ _ (λ h. go (cases_lt k n) (leb-true _ _ h)) back where
  go : (k < n) ⊎ (n ≤ k) → suc k ≤ n + 1 → nat_le (suc k) n || nat_le k n ≡ true
  go (inl l) h = rw (le-leb (suc k) n (omega arith)) refl
  go (inr g) h = rw (le-leb k n (omega arith)) (or_true (nat_le (suc k) n)) where
    or_true : (b : Bool) → b || true ≡ true
    or_true true = refl
    or_true false = refl

  back : nat_le (suc k) n || nat_le k n ≡ true → nat_le (suc k) (n + 1) ≡ true
  back h = ⊎_elim (λ e. let l : suc k ≤ n = leb-true _ _ e in le-leb _ _ (omega arith)) (λ e. let l : k ≤ n = leb-true _ _ e in le-leb _ _ (omega arith)) (or_cases _ _ h)
some_step k false n = or_none (nat_le (suc k) n) where
  or_none : (b : Bool) → b ≡ b || false
  or_none true = refl
  or_none false = refl

-- at least k families cover a set if the count of those that do is at least k
pub some_of-count : (k : ℕ) (store : Families) (ids : List Id) (set : List ℕ) → some_of k (map (family_of store) ids) set ≡ nat_le k (count_true (covers_each store ids set))
some_of-count zero store ids set = sym (le-leb 0 _ (omega arith))
some_of-count (suc k) store [] set = sym (lt-leb (suc k) 0 (omega arith))
some_of-count (suc k) store (id ∷ ids) set =
    (λ i. some_of-count (suc k) store ids set i || (covers (family_of store id) set && some_of-count k store ids set i))
    ∙ sym (some_step k (covers (family_of store id) set) (count_true (covers_each store ids set)))

pub sound_rising : (store : Families) (id : Id) → IsSound store → IsIn store id → AllByRecursion IsRising (family_of store id)
sound_rising store id sound found = sound.rising id.position found

all_back : {X : Type 0} (P : X → Type 0) (xs ys : List X) → All P (xs ++ ys) → All P ys
all_back P [] ys h = h
all_back P (x ∷ xs) ys h = all_back P xs ys (λ k d l. h (suc k) d (omega arith))

-- of two halves
module _ (f : List Bool → Bool) (op : Bool → Bool → Bool) (append : (xs ys : List Bool) → f (xs ++ ys) ≡ op (f xs) (f ys)) where
  each_append : (store : Families) (front back : List Id) (set : List ℕ) → covers_each store (front ++ back) set ≡ covers_each store front set ++ covers_each store back set
  each_append store [] back set = refl
  each_append store (id ∷ front) back set = ap (λ bs. covers (family_of store id) set ∷ bs) (each_append store front back set)

  pub halves : (before s1 s2 after : Families) (most : Option ℕ) (front back parts : List Id) (a b : Id) (result : Result Id AllocError)
      → Keeps before s1 → Stands s1 most (λ set. f (covers_each before front set)) a → Keeps s1 s2 → Stands s2 most (λ set. f (covers_each s1 back set)) b
      → Made s2 after most (λ set. op (covers (family_of s2 a) set) (covers (family_of s2 b) set)) result → All (IsIn before) parts → parts ≡ front ++ back
      → Made before after most (λ set. f (covers_each before parts set)) result
  halves before s1 s2 after most front back parts a b result k1 first k2 second made found is =
      made_then before s2 after most _ _ result (Keeps_trans before s1 s2 k1 k2) made (λ set h.
      let one : covers (family_of s2 a) set ≡ f (covers_each before front set) = kept_covers s1 s2 a set k2 first.found ∙ first.right set h in
      let two : covers (family_of s2 b) set ≡ f (covers_each before back set) = second.right set h ∙ ap f (kept_each before s1 back set k1 (all_back (IsIn before) front back (subst (All (IsIn before)) is found))) in
      rw (one, two, is, each_append before front back set) (sym (append _ _)))

pub made_cut : (before after : Families) (k : ℕ) (most : Option ℕ) (id : Id) (result : Result Id AllocError) → IsSound before → IsIn before id → most ≡ Some k → Keeps before after → IfOk result (IsIn after) → IfOk result (λ answer. family_of after answer ≡ sets_up_to k (family_of before id)) → Made before after most (covers (family_of before id)) result
made_cut before after k most id (Ok answer) sound found is kept here family =
    record {
      kept = kept;
      made = record {
        found = here;
        right = λ set h. ap (λ fam. covers fam set) family ∙ covers_cut k (family_of before id) set (sound_rising before id sound found) (subst (λ m. IsWithinOrder m set) is h);
      };
    }
made_cut before after k most id (Err e) sound found is kept here family = record { kept = kept; made = tt }

pub made_some : (before middle after : Families) (most : Option ℕ) (bound k : ℕ) (parts : List Id) (choice : Id) (result : Result Id AllocError) → ((set : List ℕ) → IsWithinOrder most set → IsAsked bound set) → Keeps before middle → IsLeastUpTo bound (some_of k (map (family_of before) parts)) (family_of middle choice) → Made middle after most (covers (family_of middle choice)) result
    → Made before after most (λ set. nat_le k (count_true (covers_each before parts set))) result
made_some before middle after most bound k parts choice result asked kept least made =
    made_then before middle after most _ _ result kept made (λ set h. least.covering set (asked set h) ∙ some_of-count k before parts set)

pub of_all-append : (gate : Gate) (xs ys : List Bool) → of_all gate (xs ++ ys) ≡ of_both gate (of_all gate xs) (of_all gate ys)
of_all-append And xs ys = list_all-append (λ b. b) xs ys
of_all-append Or xs ys = list_any-append (λ b. b) xs ys

-- of no part
pub unit_made : (store : Families) (most : Option ℕ) (gate : Gate) → IsSound store → gate ≡ And → Made store store most (λ set. of_all gate []) (Ok (record { position = 1 }))
unit_made store most gate sound is =
    record {
      kept = Keeps_same store;
      made = record { found = omega (arith, sound.some); right = λ set h. covers-unit store (record { position = 1 }) set sound refl ∙ sym (ap (λ (g : Gate). of_all g []) is) };
    }

pub empty_made : (store : Families) (most : Option ℕ) (gate : Gate) → IsSound store → gate ≡ Or → Made store store most (λ set. of_all gate []) (Ok (record { position = 0 }))
empty_made store most gate sound is =
    record {
      kept = Keeps_same store;
      made = record { found = omega (arith, sound.some); right = λ set h. covers-empty store (record { position = 0 }) set sound refl ∙ sym (ap (λ (g : Gate). of_all g []) is) };
    }

pub none_made : (store : Families) (most : Option ℕ) (gate : Gate) (parts : List Id) (result : Result Id AllocError) → length parts ≡ 0 → Made store store most (λ set. of_all gate []) result → Made store store most (λ set. of_all gate (covers_each store parts set)) result
none_made store most gate [] result none made = made
none_made store most gate (id ∷ ids) result none made = absurd (omega arith)

-- of one part
of_one : (gate : Gate) (b : Bool) → b ≡ of_all gate (b ∷ [])
of_one And true = refl
of_one And false = refl
of_one Or true = refl
of_one Or false = refl

pub one_made : (store : Families) (most : Option ℕ) (gate : Gate) (parts : List Id) (id : Id) → All (IsIn store) parts → length parts ≡ 1 → id ≡ slice_index_or parts 0 id → Made store store most (λ set. of_all gate (covers_each store parts set)) (Ok id)
one_made store most gate [] id found one is = absurd (omega arith)
one_made store most gate (x ∷ y ∷ ids) id found one is = absurd (omega arith)
one_made store most gate (x ∷ []) id found one is =
    record {
      kept = Keeps_same store;
      made = record { found = subst (IsIn store) (sym is) (found 0 x (omega arith)); right = λ set h. ap (λ i. covers (family_of store i) set) is ∙ of_one gate (covers (family_of store x) set) };
    }

-- the order of the parts does not matter
all_as_none : (bs : List Bool) → list_all (λ b. b) bs ≡ not (list_any not bs)
all_as_none [] = refl
all_as_none (true ∷ bs) = all_as_none bs
all_as_none (false ∷ bs) = refl

of_all-permuted : (gate : Gate) (xs ys : List Bool) → IsPermutation xs ys → of_all gate xs ≡ of_all gate ys
of_all-permuted And xs ys h = all_as_none xs ∙ ap not (list_any-IsPermutation not xs ys h) ∙ sym (all_as_none ys)
of_all-permuted Or xs ys h = list_any-IsPermutation (λ b. b) xs ys h

pub made_sorted : (before after : Families) (most : Option ℕ) (gate : Gate) (parts sorted : List Id) (result : Result Id AllocError) → IsPermutation parts sorted → Made before after most (λ set. of_all gate (covers_each before sorted set)) result → Made before after most (λ set. of_all gate (covers_each before parts set)) result
made_sorted before after most gate parts sorted result h made =
    made_then before before after most _ _ result (Keeps_same before) made (λ set w. sym (of_all-permuted gate _ _ (IsPermutation-map (λ id. covers (family_of before id) set) parts sorted h)))

-- how many are true does not depend on their order
count_true-permuted : (bs cs : List Bool) → IsPermutation bs cs → count_true cs ≡ count_true bs
count_true-permuted bs cs h = summed cs ∙ sum_by-IsPermutation (λ b. cond b 1 0) bs cs h ∙ sym (summed bs)
  where
    one_more : (b : Bool) (rest : List Bool) → count_true (b ∷ rest) ≡ cond b 1 0 + count_true rest
    one_more true rest = omega arith
    one_more false rest = omega arith

    summed : (xs : List Bool) → count_true xs ≡ sum_by (λ b. cond b 1 0) xs
    summed = is_sum_by count_true (λ b. cond b 1 0) refl one_more

pub made_counted : (before after : Families) (most : Option ℕ) (k : ℕ) (parts sorted : List Id) (result : Result Id AllocError) → IsPermutation parts sorted → Made before after most (λ set. nat_le k (count_true (covers_each before sorted set))) result
    → Made before after most (λ set. nat_le k (count_true (covers_each before parts set))) result
made_counted before after most k parts sorted result h made =
    made_then before before after most _ _ result (Keeps_same before) made
    (λ set w. ap (nat_le k) (count_true-permuted _ _ (IsPermutation-map (λ id. covers (family_of before id) set) parts sorted h)))

-- at least one is any of them, and as many as there are is all of them
pub made_any : (before after : Families) (most : Option ℕ) (k : ℕ) (parts : List Id) (result : Result Id AllocError) → k ≡ 1 → Made before after most (λ set. of_all Or (covers_each before parts set)) result
    → Made before after most (λ set. nat_le k (count_true (covers_each before parts set))) result
made_any before after most k parts result is made =
    made_then before before after most _ _ result (Keeps_same before) made
    (λ set w. sym (ap (λ n. nat_le n (count_true (covers_each before parts set))) is ∙ nat_le-any (covers_each before parts set)))

pub made_all : (before after : Families) (most : Option ℕ) (k : ℕ) (parts : List Id) (result : Result Id AllocError) → k ≡ length parts → Made before after most (λ set. of_all And (covers_each before parts set)) result
    → Made before after most (λ set. nat_le k (count_true (covers_each before parts set))) result
made_all before after most k parts result is made =
    made_then before before after most _ _ result (Keeps_same before) made
    (λ set w. sym (ap (λ n. nat_le n (count_true (covers_each before parts set))) (is ∙ sym (length-map parts (λ id. covers (family_of before id) set))) ∙ nat_le-all (covers_each before parts set)))

pub keeps_then : (before middle after : Families) → Keeps before middle → Keeps middle after → Keeps before after
keeps_then = Keeps_trans
