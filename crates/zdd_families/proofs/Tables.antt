-- The table of at least so many parts, row by row.
use Rattle.std.proofs.Common.{◌≡◌, ◌≢◌, ℕ, zero, suc, ◌+◌, ◌-◌, ◌<◌, ◌≤◌, ◌⊎◌, ⊎_elim, min, max, Bool, true, false, ◌&&◌, ◌||◌, List, [], ◌∷◌, ◌++◌, length, get_or, set, replicate, All, Contains, map, drop, refl, sym, ap, ◌∙◌, subst, inl, inr, arith, length-append, length-set}
use Rattle.std.specs.List.{AllByRecursion}
use Rattle.std.proofs.lemmas.List.{get_or_default, get_or-set_same, get_or-set_other, length-map, length-replicate}
use Rattle.std.proofs.Math.ListN.{get_or-append}
use Rattle.std.proofs.Math.Seq.{get_or-append_seam}
use Rattle.std.proofs.lemmas.Bool.{cases_eq, cases_lt, false≢true}
use Rattle.zdd_store.specs.inner.Family.{Family, covers, IsAntichain, IsRising}
use Rattle.zdd_store.specs.inner.Store.{Families, IsIn, family_at, family_of, Keeps, IsSound}
use Rattle.zdd_store.specs.inner.Answers.{IsLeastUpTo}
use Rattle.zdd_store.specs.declared.id.Id.{Id}
use Rattle.zdd_families.specs.inner.Steps.{IsFound}
use Rattle.zdd_families.specs.inner.Unions.{some_of}
use Rattle.zdd_families.specs.inner.Rows.{IsMinimalNumber, IsRow, with_part, IsEntry, IsNextRow}
use Rattle.zdd_store.proofs.Orders.{first_or_rest, contains_none}
use Rattle.zdd_families.proofs.Pairs.{apart_kept, found_kept, covers-empty, covers-unit}
use Rattle.zdd_families.proofs.Products.{retest_to}
use Rattle.zdd_families.proofs.Ways.{Keeps_trans}

pub minimal_kept : (before after : Families) (id : Id) → Keeps before after → IsMinimalNumber before id → IsMinimalNumber after id
minimal_kept before after id kept m = record { found = found_kept before after id kept m.found; apart = apart_kept before after id kept m.found m.apart }

pub right_kept : (before after : Families) (IsRight : Family → Type 0) (id : Id) → Keeps before after → IsFound before 0 IsRight id → IsFound after 0 IsRight id
right_kept before after IsRight id kept f =
    record { found = found_kept before after id kept f.found; least = omega arith; right = subst IsRight (sym (kept.same id.position f.found)) f.right }

entry_kept : (most : ℕ) (before middle after : Families) (part : Id) (times : ℕ) (row : List Id) (k : ℕ) (id : Id) → Keeps middle after → IsEntry most before middle part times row k id → IsEntry most before after part times row k id
entry_kept most before middle after part times row k id kept entry = λ d. right_kept middle after _ id kept (entry d)

-- an entry made of two of the row
entry_made : (most : ℕ) (before middle after : Families) (part : Id) (times : ℕ) (row : List Id) (at : ℕ) (below here entry : Id) → at < length row → IsMinimalNumber before part → All (IsMinimalNumber before) row → Keeps before middle
    → ((d : Id) → get_or row (at - times) d ≡ below) → ((d : Id) → get_or row at d ≡ here) → IsFound after 0 (IsLeastUpTo most (with_part (family_of middle part) (family_of middle below) (family_of middle here))) entry
    → IsEntry most before after part times row at entry
entry_made most before middle after part times row at below here entry within part_is row_is kept is_below is_here f = λ d.
    let below_is : family_of middle below ≡ family_of before (get_or row (at - times) d) =
    ap (family_of middle) (sym (is_below d)) ∙ kept.same (get_or row (at - times) d).position (row_is (at - times) d (omega arith)).found in
    let here_is : family_of middle here ≡ family_of before (get_or row at d) = ap (family_of middle) (sym (is_here d)) ∙ kept.same (get_or row at d).position (row_is at d within).found in
    let part_same : family_of middle part ≡ family_of before part = kept.same part.position part_is.found in
    record {
      found = f.found;
      least = omega arith;
      right = retest_to most _ (with_part (family_of before part) (family_of before (get_or row (at - times) d)) (family_of before (get_or row at d))) (family_of after entry)
          (λ set asked. ap (λ x. with_part x (family_of middle below) (family_of middle here) set) part_same
          ∙ ap (λ x. with_part (family_of before part) x (family_of middle here) set) below_is
          ∙ ap (λ x. with_part (family_of before part) (family_of before (get_or row (at - times) d)) x set) here_is) f.right;
    }

-- a row of which the entries from `above` to `high` are made anew, the highest first, down to `low`
pub record IsHalfRow (most : ℕ) (before middle : Families) (part : Id) (times low high above : ℕ) (row now : List Id) : Type 0 where
  pub kept : Keeps before middle
  pub long : length now ≡ length row
  pub within : above ≤ high + 1
  pub down : min low (high + 1) ≤ above
  pub made : (k : ℕ) (d : Id) → above ≤ k → k ≤ high → IsEntry most before middle part times row k (get_or now k d)
  pub lower : (k : ℕ) (d : Id) → k < above → get_or now k d ≡ get_or row k d
  pub higher : (k : ℕ) (d : Id) → high < k → get_or now k d ≡ get_or row k d

-- one entry more is made
pub half_next : (most : ℕ) (before middle after : Families) (part : Id) (times low high above below : ℕ) (row now : List Id) (d entry : Id) → high < length row → low < above → below ≡ above - 1 - times → IsMinimalNumber before part → All (IsMinimalNumber before) row
    → IsHalfRow most before middle part times low high above row now → Keeps middle after
    → IsFound after 0 (IsLeastUpTo most (with_part (family_of middle part) (family_of middle (get_or now below d)) (family_of middle (get_or now (above - 1) d)))) entry
    → IsHalfRow most before after part times low high (above - 1) row (set now (above - 1) entry)
half_next most before middle after part times low high above below row now d entry fits goes below_is part_is row_is half kept f =
    record {
      kept = Keeps_trans _ _ _ half.kept kept;
      long = length-set now (above - 1) entry ∙ half.long;
      within = let w = half.within in omega arith;
      down = omega arith;
      made = λ k e h side. here k e h side (cases_eq k (above - 1));
      lower = λ k e h. get_or-set_other now (above - 1) k entry e (λ same. absurd (omega arith)) ∙ half.lower k e (omega arith);
      higher = λ k e h. let w = half.within in get_or-set_other now (above - 1) k entry e (λ same. absurd (omega arith)) ∙ half.higher k e h;
    }
  where
    one : IsEntry most before after part times row (above - 1) entry
    one =
        let w : above ≤ high + 1 = half.within in
        let inside : above - 1 < length row = omega arith in
        let long : length now ≡ length row = half.long in
        entry_made most before middle after part times row (above - 1) (get_or now below d) (get_or now (above - 1) d) entry inside part_is row_is half.kept
        (λ e. sym (half.lower (above - 1 - times) e (omega arith)) ∙ get_or_default now (above - 1 - times) e d (omega arith) ∙ ap (λ i. get_or now i d) (sym below_is))
        (λ e. sym (half.lower (above - 1) e (omega arith)) ∙ get_or_default now (above - 1) e d (omega arith)) f

    here : (k : ℕ) (e : Id) → above - 1 ≤ k → k ≤ high → (k ≡ above - 1) ⊎ (k ≢ above - 1) → IsEntry most before after part times row k (get_or (set now (above - 1) entry) k e)
    here k e h side (inl same) =
        let w : above ≤ high + 1 = half.within in
        let long : length now ≡ length row = half.long in
        let inside : above - 1 < length now = omega arith in
        subst (λ i. IsEntry most before after part times row i (get_or (set now (above - 1) entry) i e)) (sym same)
        (subst (IsEntry most before after part times row (above - 1)) (sym (get_or-set_same now (above - 1) entry e inside)) one)
    here k e h side (inr differ) =
        let more : above ≤ k = past k (above - 1) differ h (omega arith) in
        subst (IsEntry most before after part times row k) (sym (get_or-set_other now (above - 1) k entry e differ))
        (entry_kept most before middle after part times row k (get_or now k e) kept (half.made k e more side))
      where
        past : (k at : ℕ) → k ≢ at → at ≤ k → at + 1 ≡ above → above ≤ k
        past k at differ h e = ⊎_elim (λ l. omega arith) (λ same. absurd (differ (omega arith))) (cases_lt at k)

pub half_end : (most : ℕ) (before after : Families) (part : Id) (times low high above : ℕ) (row now : List Id) → above ≤ low → IsHalfRow most before after part times low high above row now → IsNextRow most before after part times low high row now
half_end most before after part times low high above row now ends half =
    record {
      long = half.long;
      made = λ k d h side. half.made k d (omega arith) side;
      lower = λ k d h. by k d h (cases_lt k above) (cases_lt high k);
      higher = half.higher;
    }
  where
    by : (k : ℕ) (d : Id) → k < low → (k < above) ⊎ (above ≤ k) → (high < k) ⊎ (k ≤ high) → get_or now k d ≡ get_or row k d
    by k d h (inl lower) side = half.lower k d lower
    by k d h (inr over) (inl side) = half.higher k d side
    by k d h (inr over) (inr side) = let down : min low (high + 1) ≤ above = half.down in absurd (omega arith)

-- all entries of the next row are families of minimal sets
pub next_minimal : (most : ℕ) (before after : Families) (part : Id) (times low high : ℕ) (row next : List Id) → Keeps before after → All (IsMinimalNumber before) row → IsNextRow most before after part times low high row next → All (IsMinimalNumber after) next
next_minimal most before after part times low high row next kept row_is is k d within = by (cases_lt k low) (cases_lt high k)
  where
    stays : get_or next k d ≡ get_or row k d → IsMinimalNumber after (get_or next k d)
    stays same =
        let long = is.long in
        subst (IsMinimalNumber after) (sym same) (minimal_kept before after (get_or row k d) kept (row_is k d (omega arith)))

    by : (k < low) ⊎ (low ≤ k) → (high < k) ⊎ (k ≤ high) → IsMinimalNumber after (get_or next k d)
    by (inl h) side = stays (is.lower k d h)
    by (inr h) (inl side) = stays (is.higher k d side)
    by (inr h) (inr side) = let e = is.made k d h side d in record { found = e.found; apart = e.right.apart }

-- where more are covered, fewer are
pub some_less : (k j : ℕ) (families : List Family) (set : List ℕ) → j ≤ k → some_of k families set ≡ true → some_of j families set ≡ true
some_less k zero families set h covered = refl
some_less zero (suc j) families set h covered = absurd (omega arith)
some_less (suc k) (suc j) [] set h covered = absurd (false≢true covered)
some_less (suc k) (suc j) (family ∷ families) set h covered =
    by (some_of (suc k) families set) (some_of k families set) (some_of (suc j) families set) (some_of j families set) (covers family set)
    (some_less (suc k) (suc j) families set h) (some_less k j families set (omega arith)) covered
  where
    by : (more fewer here below c : Bool) → (more ≡ true → here ≡ true) → (fewer ≡ true → below ≡ true) → (more || (c && fewer)) ≡ true → (here || (c && below)) ≡ true
    by true fewer here below c high low e = ap (λ b. b || (c && below)) (high refl)
    by false true true below c high low e = refl
    by false true false below true high low e = low refl
    by false true false below false high low e = e
    by false false true below c high low e = refl
    by false false false below true high low e = absurd (false≢true e)
    by false false false below false high low e = e

-- one family said several times is covered each time or not at all
pub some_times : (times k : ℕ) (family : Family) (families : List Family) (set : List ℕ) → some_of k (replicate times family ++ families) set ≡ (some_of k families set || (covers family set && some_of (k - times) families set))
some_times zero k family families set =
    let same : k - zero ≡ k = omega arith in
    absorbed (some_of k families set) (covers family set) ∙ ap (λ n. some_of k families set || (covers family set && some_of n families set)) (sym same)
  where
    absorbed : (a c : Bool) → a ≡ (a || (c && a))
    absorbed true c = refl
    absorbed false true = refl
    absorbed false false = refl
some_times (suc times) zero family families set = refl
some_times (suc times) (suc k) family families set =
    let less : suc k - suc times ≡ k - times = omega arith in
    ap (λ b. b || (covers family set && some_of k (replicate times family ++ families) set)) (some_times times (suc k) family families set)
    ∙ ap (λ b. (some_of (suc k) families set || (covers family set && some_of (suc k - times) families set)) || (covers family set && b)) (some_times times k family families set)
    ∙ joined_times (some_of (suc k) families set) (covers family set) (some_of (suc k - times) families set) (some_of k families set) (some_of (k - times) families set)
    (some_less (suc k - times) (k - times) families set (omega arith)) (some_less k (k - times) families set (omega arith))
    ∙ ap (λ n. some_of (suc k) families set || (covers family set && some_of n families set)) (sym less)
  where
    joined_times : (a c b e d : Bool) → (b ≡ true → d ≡ true) → (e ≡ true → d ≡ true) → ((a || (c && b)) || (c && (e || (c && d)))) ≡ (a || (c && d))
    joined_times true c b e d first second = refl
    joined_times false false b e d first second = refl
    joined_times false true true e d first second = sym (first refl)
    joined_times false true false true d first second = sym (second refl)
    joined_times false true false false d first second = refl

-- fewer families than k cover nothing together
pub some_few : (k : ℕ) (families : List Family) (set : List ℕ) → length families < k → some_of k families set ≡ false
some_few zero families set h = absurd (omega arith)
some_few (suc k) [] set h = refl
some_few (suc k) (family ∷ families) set h =
    ap (λ b. b || (covers family set && some_of k families set)) (some_few (suc k) families set (omega arith)) ∙ ap (λ b. covers family set && b) (some_few k families set (omega arith)) ∙ none (covers family set)
  where
    none : (b : Bool) → (b && false) ≡ false
    none true = refl
    none false = refl

-- no families are covered in any case
some_none : (k : ℕ) (families : List Family) (set : List ℕ) → k ≤ 0 → some_of k families set ≡ true
some_none zero families set h = refl
some_none (suc k) families set h = absurd (omega arith)

-- the next row is one of one part more, which is said once or several times
pub row_next : (most : ℕ) (before after : Families) (families : List Family) (family : Family) (part : Id) (k first at low high : ℕ) (row next : List Id) → first < at → low ≡ max (k - first) 1 → high ≡ min k (at - first + length families) → length row ≡ k + 1
    → ((set : List ℕ) → covers (family_of before part) set ≡ covers family set) → IsNextRow most before after part (at - first) low high row next → Keeps before after → IsRow (k - at) most before families row
    → IsRow (k - first) most after (replicate (at - first) family ++ families) next
row_next most before after families family part k first at low high row next some low_is high_is long same is kept row_is j d from within = by (cases_lt j low) (cases_lt high j)
  where
    whole : List Family
    whole = replicate (at - first) family ++ families

    inside : j < length row
    inside = let l = is.long in omega arith

    old : IsFound before 0 (IsLeastUpTo most (some_of j families)) (get_or row j d)
    old = row_is j d (omega arith) inside

    stays : get_or next j d ≡ get_or row j d → ((set : List ℕ) → some_of j families set ≡ some_of j whole set) → IsFound after 0 (IsLeastUpTo most (some_of j whole)) (get_or next j d)
    stays e test =
        let f = right_kept before after (IsLeastUpTo most (some_of j families)) (get_or row j d) kept old in
        subst (IsFound after 0 (IsLeastUpTo most (some_of j whole))) (sym e)
        (record { found = f.found; least = omega arith; right = retest_to most (some_of j families) (some_of j whole) _ (λ set asked. test set) f.right })

    by : (j < low) ⊎ (low ≤ j) → (high < j) ⊎ (j ≤ high) → IsFound after 0 (IsLeastUpTo most (some_of j whole)) (get_or next j d)
    by (inl h) side = stays (is.lower j d h) (λ set. some_none j families set (omega arith) ∙ sym (some_none j whole set (omega arith)))
    by (inr h) (inl side) =
        let count : length whole ≡ at - first + length families = length-append (replicate (at - first) family) families ∙ ap (λ n. n + length families) (length-replicate (at - first) family) in
        stays (is.higher j d side) (λ set. some_few j families set (omega arith) ∙ sym (some_few j whole set (omega arith)))
    by (inr h) (inr side) =
        let e = is.made j d h side d in
        let below = row_is (j - (at - first)) d (omega arith) (omega arith) in
        record {
          found = e.found;
          least = omega arith;
          right = retest_to most _ (some_of j whole) _
              (λ set asked. ap (λ b. b || (covers (family_of before part) set && covers (family_of before (get_or row (j - (at - first)) d)) set)) (old.right.covering set asked)
              ∙ ap (λ b. some_of j families set || (covers (family_of before part) set && b)) (below.right.covering set asked)
              ∙ ap (λ b. some_of j families set || (b && some_of (j - (at - first)) families set)) (same set)
              ∙ sym (some_times (at - first) j family families set)) e.right;
        }

-- the row of no parts
pub row_start : (most : ℕ) (store : Families) → IsSound store → IsRow 0 most store [] (record { position = 1 } ∷ [])
row_start most store sound zero d from within =
    let some = sound.some in
    record { found = some; least = omega arith; right = record { covering = λ set asked. covers-unit store (record { position = 1 }) set sound refl; apart = apart } }
  where
    apart : IsAntichain (family_at store 1)
    apart = subst IsAntichain (sym sound.unit) (λ part whole here there h. sym (only part here) ∙ only whole there)
      where
        only : (set : List ℕ) → Contains ([] ∷ []) set → [] ≡ set
        only set here = by (first_or_rest [] [] set here)
          where
            by : ([] ≡ set) ⊎ Contains [] set → [] ≡ set
            by (inl e) = e
            by (inr k) = absurd (contains_none set k)
row_start most store sound (suc k) d from within = absurd (omega arith)

pub row_none : (most : ℕ) (store : Families) (row : List Id) → IsSound store → 1 ≤ length row → IsRow 0 most store [] row → IsRow 0 most store [] (row ++ record { position = 0 } ∷ [])
row_none most store row sound some here k d from within = by (cases_lt k (length row))
  where
    none : (j : ℕ) → 1 ≤ j → IsFound store 0 (IsLeastUpTo most (some_of j [])) (record { position = 0 })
    none zero h = absurd (omega arith)
    none (suc j) h =
        let more = sound.some in
        record {
          found = omega arith;
          least = omega arith;
          right = record {
            covering = λ set asked. covers-empty store (record { position = 0 }) set sound refl;
            apart = subst IsAntichain (sym sound.empty) (λ part whole here there k. absurd (contains_none part here));
          };
        }

    by : (k < length row) ⊎ (length row ≤ k) → IsFound store 0 (IsLeastUpTo most (some_of k [])) (get_or (row ++ record { position = 0 } ∷ []) k d)
    by (inl h) = subst (IsFound store 0 (IsLeastUpTo most (some_of k []))) (sym (get_or-append row (record { position = 0 } ∷ []) d k h)) (here k d from h)
    by (inr h) =
        let is : length row ≡ k = omega (arith, length-append row (record { position = 0 } ∷ [])) in
        subst (λ i. IsFound store 0 (IsLeastUpTo most (some_of i [])) (get_or (row ++ record { position = 0 } ∷ []) i d)) is
        (subst (IsFound store 0 (IsLeastUpTo most (some_of (length row) []))) (sym (get_or-append_seam row (record { position = 0 }) [] d)) (none (length row) some))

-- the families from a place on
pub drop_map : {A B : Type 0} (f : A → B) (xs : List A) (i : ℕ) (d : A) → i < length xs → drop i (map f xs) ≡ f (get_or xs i d) ∷ drop (i + 1) (map f xs)
drop_map f [] i d h = absurd (omega arith)
drop_map f (x ∷ xs) zero d h = refl
drop_map f (x ∷ xs) (suc i) d h =
    let one : suc (i + 1) ≡ suc i + 1 = omega arith in
    drop_map f xs i d (omega arith) ∙ ap (λ n. f (get_or xs i d) ∷ drop n (f x ∷ map f xs)) one

pub drop_none : {A B : Type 0} (f : A → B) (xs : List A) → drop (length xs) (map f xs) ≡ []
drop_none f [] = refl
drop_none f (x ∷ xs) = drop_none f xs

-- one item said again and again
pub drop_run : {A B : Type 0} (f : A → B) (xs : List A) (x : A) (times first : ℕ) → first + times ≤ length xs → ((i : ℕ) (d : A) → first ≤ i → i < first + times → get_or xs i d ≡ x)
    → drop first (map f xs) ≡ replicate times (f x) ++ drop (first + times) (map f xs)
drop_run f xs x zero first within same =
    let none : first ≡ first + zero = omega arith in
    ap (λ n. drop n (map f xs)) none
drop_run f xs x (suc times) first within same =
    let one : first + 1 + times ≡ first + suc times = omega arith in
    drop_map f xs first x (omega arith)
    ∙ ap (λ y. f y ∷ drop (first + 1) (map f xs)) (same first x (omega arith) (omega arith))
    ∙ ap (λ ys. f x ∷ ys) (drop_run f xs x times (first + 1) (omega arith) (λ i d h k. same i d (omega arith) (omega arith)) ∙ ap (λ n. replicate times (f x) ++ drop n (map f xs)) one)

-- a row stays one when the store grows
pub row_kept : (most first : ℕ) (before after : Families) (families : List Family) (row : List Id) → Keeps before after → IsRow first most before families row → IsRow first most after families row
row_kept most first before after families row kept here k d from within = right_kept before after (IsLeastUpTo most (some_of k families)) (get_or row k d) kept (here k d from within)

-- with fewer parts than k there is no set
pub few_parts : (most : ℕ) (store : Families) (k : ℕ) (parts : List Id) → IsSound store → length parts < k → IsLeastUpTo most (some_of k (map (family_of store) parts)) (family_at store 0)
few_parts most store k parts sound h =
    record {
      covering = λ set asked. covers-empty store (record { position = 0 }) set sound refl ∙ sym (some_few k (map (family_of store) parts) set (omega (arith, length-map parts (family_of store))));
      apart = subst IsAntichain (sym sound.empty) (λ part whole here there e. absurd (contains_none part here));
    }

-- the sets of parts of a store rise
pub parts_rise : (store : Families) (parts : List Id) → IsSound store → All (IsIn store) parts → AllByRecursion (AllByRecursion IsRising) (map (family_of store) parts)
parts_rise store [] sound all = tt
parts_rise store (part ∷ parts) sound all = (sound.rising part.position (all 0 part (omega arith)), parts_rise store parts sound (λ k d h. all (suc k) d (omega arith)))
