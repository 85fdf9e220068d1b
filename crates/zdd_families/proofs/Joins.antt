-- Joining two families under a variable: what it covers, that none of its sets is within another; and what is left without the
-- sets that contain those of another family, branch by branch.
use Rattle.std.proofs.Common.{◌≡◌, ℕ, ◌<◌, ◌≤◌, ◌⊎◌, min, Bool, true, false, not, cond, ◌&&◌, ◌||◌, List, [], ◌∷◌, filter, Contains, refl, sym, ap, ◌∙◌, subst, inl, inr, arith}
use Rattle.std.proofs.lemmas.Bool.{false≢true}
use Rattle.zdd_store.specs.inner.Family.{Family, branch, least_of, least_number, has, is_within, covers, IsAntichain, sets_without}
use Rattle.zdd_store.proofs.Branches.{with_var, branch-with_var}
use Rattle.zdd_store.proofs.Orders.{first_or_rest, contains_first, contains_rest, contains_none}
use Rattle.zdd_store.specs.inner.Answers.{IsLeastFamily}
use Rattle.zdd_families.specs.inner.Steps.{joined}
use Rattle.zdd_families.proofs.Booleans.{or_left, or_right, or_cases, not_true, true_or_false, same_test}
use Rattle.zdd_families.proofs.Subsets.{has_first, has_rest, has_cases, within_has, within_from, within_self, within-without}
use Rattle.zdd_families.proofs.Covers.{covers_member, member_covers, covers_more, member-greater, covers-with, covers-branch}

-- members of a filter
pub filter_member : {A : Type 0} (test : A → Bool) (xs : List A) (x : A) → Contains xs x → test x ≡ true → Contains (filter test xs) x
filter_member test [] x here h = absurd (contains_none x here)
filter_member test (first ∷ rest) x here h = by (test first) refl (first_or_rest first rest x here) (λ k. filter_member test rest x k h)
  where
    by : (b : Bool) → test first ≡ b → (first ≡ x) ⊎ Contains rest x → (Contains rest x → Contains (filter test rest) x) → Contains (cond b (first ∷ filter test rest) (filter test rest)) x
    by true e (inl is) more = subst (λ y. Contains (first ∷ filter test rest) y) is (contains_first first (filter test rest))
    by true e (inr k) more = contains_rest first (filter test rest) x (more k)
    by false e (inl is) more = absurd (false≢true (sym e ∙ ap test is ∙ h))
    by false e (inr k) more = more k

pub member_filter : {A : Type 0} (test : A → Bool) (xs : List A) (x : A) → Contains (filter test xs) x → Contains xs x × (test x ≡ true)
member_filter test [] x here = absurd (contains_none x here)
member_filter test (first ∷ rest) x here = by (test first) refl here (member_filter test rest x)
  where
    by : (b : Bool) → test first ≡ b → Contains (cond b (first ∷ filter test rest) (filter test rest)) x → (Contains (filter test rest) x → Contains rest x × (test x ≡ true)) → Contains (first ∷ rest) x × (test x ≡ true)
    by true e here more = by_first (first_or_rest first (filter test rest) x here) more
      where
        by_first : (first ≡ x) ⊎ Contains (filter test rest) x → (Contains (filter test rest) x → Contains rest x × (test x ≡ true)) → Contains (first ∷ rest) x × (test x ≡ true)
        by_first (inl is) more = (subst (λ y. Contains (first ∷ rest) y) is (contains_first first rest), sym (ap test is) ∙ e)
        by_first (inr k) more = let m = more k in (contains_rest first rest x m.0, m.1)
    by false e here more = let m = more here in (contains_rest first rest x m.0, m.1)

-- members of a branch: those of lo, and those of hi with the variable
pub record WithVar (var : ℕ) (hi : Family) (set : List ℕ) : Type 0 where
  pub rest : List ℕ
  pub is : set ≡ var ∷ rest
  pub member : Contains hi rest

with_var_member : (var : ℕ) (lo hi : Family) (set : List ℕ) → Contains (with_var var hi lo) set → Contains lo set ⊎ WithVar var hi set
unfolding with_var
with_var_member var lo [] set here = inl here
with_var_member var lo (first ∷ rest) set here = by (first_or_rest (var ∷ first) (with_var var rest lo) set here) (with_var_member var lo rest set)
  where
    by : (var ∷ first ≡ set) ⊎ Contains (with_var var rest lo) set → (Contains (with_var var rest lo) set → Contains lo set ⊎ WithVar var rest set) → Contains lo set ⊎ WithVar var (first ∷ rest) set
    by (inl e) more = inr (record { rest = first; is = sym e; member = contains_first first rest })
    by (inr k) more = again (more k)
      where
        again : Contains lo set ⊎ WithVar var rest set → Contains lo set ⊎ WithVar var (first ∷ rest) set
        again (inl h) = inl h
        again (inr w) = inr (record { rest = w.rest; is = w.is; member = contains_rest first rest w.rest w.member })

lo_in_with_var : (var : ℕ) (lo hi : Family) (set : List ℕ) → Contains lo set → Contains (with_var var hi lo) set
unfolding with_var
lo_in_with_var var lo [] set here = here
lo_in_with_var var lo (first ∷ rest) set here = contains_rest (var ∷ first) (with_var var rest lo) set (lo_in_with_var var lo rest set here)

hi_in_with_var : (var : ℕ) (lo hi : Family) (set : List ℕ) → Contains hi set → Contains (with_var var hi lo) (var ∷ set)
unfolding with_var
hi_in_with_var var lo [] set here = absurd (contains_none set here)
hi_in_with_var var lo (first ∷ rest) set here = by (first_or_rest first rest set here) (hi_in_with_var var lo rest set)
  where
    by : (first ≡ set) ⊎ Contains rest set → (Contains rest set → Contains (with_var var rest lo) (var ∷ set)) → Contains ((var ∷ first) ∷ with_var var rest lo) (var ∷ set)
    by (inl e) more = subst (λ s. Contains ((var ∷ first) ∷ with_var var rest lo) (var ∷ s)) e (contains_first (var ∷ first) (with_var var rest lo))
    by (inr k) more = contains_rest (var ∷ first) (with_var var rest lo) (var ∷ set) (more k)

pub branch_member : (var : ℕ) (lo hi : Family) (set : List ℕ) → Contains (branch var lo hi) set → Contains lo set ⊎ WithVar var hi set
branch_member var lo hi set here = with_var_member var lo hi set (subst (λ f. Contains f set) (branch-with_var var lo hi) here)

pub lo_in_branch : (var : ℕ) (lo hi : Family) (set : List ℕ) → Contains lo set → Contains (branch var lo hi) set
lo_in_branch var lo hi set here = subst (λ f. Contains f set) (sym (branch-with_var var lo hi)) (lo_in_with_var var lo hi set here)

pub hi_in_branch : (var : ℕ) (lo hi : Family) (set : List ℕ) → Contains hi set → Contains (branch var lo hi) (var ∷ set)
hi_in_branch var lo hi set here = subst (λ f. Contains f (var ∷ set)) (sym (branch-with_var var lo hi)) (hi_in_with_var var lo hi set here)

-- with the sets of low, those of high that contain a set of low cover no more
pub absorb : (low high : Family) (set : List ℕ) → (covers low set || covers (sets_without high low) set) ≡ (covers low set || covers high set)
unfolding sets_without
absorb low high set = same_test (covers low set || covers (sets_without high low) set) (covers low set || covers high set)
    (λ h. fewer (or_cases (covers low set) (covers (sets_without high low) set) h)) (λ h. more (or_cases (covers low set) (covers high set) h))
  where
    fewer : (covers low set ≡ true) ⊎ (covers (filter (λ s. not (covers low s)) high) set ≡ true) → covers low set || covers high set ≡ true
    fewer (inl h) = or_left (covers low set) (covers high set) h
    fewer (inr h) =
        let c = member_covers (filter (λ s. not (covers low s)) high) set h in
        or_right (covers low set) (covers high set) (covers_member high c.part set (member_filter (λ s. not (covers low s)) high c.part c.member).0 c.within)

    more : (covers low set ≡ true) ⊎ (covers high set ≡ true) → covers low set || covers (filter (λ s. not (covers low s)) high) set ≡ true
    more (inl h) = or_left (covers low set) (covers (filter (λ s. not (covers low s)) high) set) h
    more (inr h) = by (true_or_false (covers low (member_covers high set h).part))
      where
        by : (covers low (member_covers high set h).part ≡ true) ⊎ (covers low (member_covers high set h).part ≡ false) → covers low set || covers (filter (λ s. not (covers low s)) high) set ≡ true
        by (inl k) = or_left (covers low set) (covers (filter (λ s. not (covers low s)) high) set) (covers_more low (member_covers high set h).part set (member_covers high set h).within k)
        by (inr k) = or_right (covers low set) (covers (filter (λ s. not (covers low s)) high) set)
            (covers_member (filter (λ s. not (covers low s)) high) (member_covers high set h).part set
            (filter_member (λ s. not (covers low s)) high (member_covers high set h).part (member_covers high set h).member (ap not k)) (member_covers high set h).within)

-- the join of two families under a variable covers what it should
pub covers-join : (var : ℕ) (low high : Family) (set : List ℕ) → covers (branch var low (sets_without high low)) set ≡ joined var low high set
covers-join var low high set = covers-branch var low (sets_without high low) set ∙ by (has set var) (covers low set) (covers (sets_without high low) set) (covers high set) (absorb low high set)
  where
    by : (h l w c : Bool) → (l || w) ≡ (l || c) → (l || (h && w)) ≡ (l || (h && c))
    by true l w c e = e
    by false l w c e = refl

-- a set without a number is no superset of one with it
no_superset : (part whole : List ℕ) (var : ℕ) → has whole var ≡ false → is_within (var ∷ part) whole ≡ true → ⊥
no_superset part whole var none h = false≢true (sym none ∙ within_has (var ∷ part) whole var h (has_first var part))

-- with the variable taken from both, a subset stays one
within_tails : (part whole : List ℕ) (var : ℕ) → has part var ≡ false → is_within (var ∷ part) (var ∷ whole) ≡ true → is_within part whole ≡ true
within_tails part whole var none h =
    sym (within-without part whole var none) ∙ within_from part (var ∷ whole) (λ x here. within_has (var ∷ part) (var ∷ whole) x h (has_rest var part x here))

pub antichain-join : (var : ℕ) (low high : Family) → var < least_number low → var < least_number high → IsAntichain low → IsAntichain high → IsAntichain (branch var low (sets_without high low))
unfolding sets_without
antichain-join var low high l r apart_low apart_high part whole here there h =
    by (branch_member var low (filter (λ s. not (covers low s)) high) part here) (branch_member var low (filter (λ s. not (covers low s)) high) whole there)
  where
    by : Contains low part ⊎ WithVar var (filter (λ s. not (covers low s)) high) part → Contains low whole ⊎ WithVar var (filter (λ s. not (covers low s)) high) whole → part ≡ whole
    by (inl p) (inl w) = apart_low part whole p w h
    by (inl p) (inr w) =
        let of_high = member_filter (λ s. not (covers low s)) high w.rest w.member in
        let within_rest : is_within part w.rest ≡ true = sym (within-without part w.rest var (member-greater low part var p l)) ∙ ap (is_within part) (sym w.is) ∙ h in
        absurd (false≢true (sym (not_true (covers low w.rest) of_high.1) ∙ covers_member low part w.rest p within_rest))
    by (inr p) (inl w) = absurd (no_superset p.rest whole var (member-greater low whole var w l) (ap (λ s. is_within s whole) (sym p.is) ∙ h))
    by (inr p) (inr w) =
        let p_high = member_filter (λ s. not (covers low s)) high p.rest p.member in
        let w_high = member_filter (λ s. not (covers low s)) high w.rest w.member in
        let within_rest : is_within p.rest w.rest ≡ true =
        within_tails p.rest w.rest var (member-greater high p.rest var p_high.0 r) (ap (λ s. is_within s (var ∷ w.rest)) (sym p.is) ∙ ap (is_within part) (sym w.is) ∙ h) in
        p.is ∙ ap (λ s. var ∷ s) (apart_high p.rest w.rest p_high.0 w_high.0 within_rest) ∙ sym w.is

-- the least family of a join
pub least-join : (var : ℕ) (low high : Family) → var < least_number low → var < least_number high → IsAntichain low → IsAntichain high
    → IsLeastFamily (joined var low high) (branch var low (sets_without high low))
least-join var low high l r apart_low apart_high = record { covering = covers-join var low high; apart = antichain-join var low high l r apart_low apart_high }

-- the children of an antichain are antichains
pub antichain-lo : (var : ℕ) (lo hi : Family) → IsAntichain (branch var lo hi) → IsAntichain lo
antichain-lo var lo hi apart part whole here there h = apart part whole (lo_in_branch var lo hi part here) (lo_in_branch var lo hi whole there) h

pub antichain-hi : (var : ℕ) (lo hi : Family) → IsAntichain (branch var lo hi) → IsAntichain hi
antichain-hi var lo hi apart part whole here there h =
    let larger : is_within (var ∷ part) (var ∷ whole) ≡ true = within_from (var ∷ part) (var ∷ whole) (λ x k. by x (has_cases var part x k)) in
    let same : var ∷ part ≡ var ∷ whole = apart (var ∷ part) (var ∷ whole) (hi_in_branch var lo hi part here) (hi_in_branch var lo hi whole there) larger in
    cc
  where
    by : (x : ℕ) → (var ≡ x) ⊎ (has part x ≡ true) → has (var ∷ whole) x ≡ true
    by x (inl e) = subst (λ y. has (var ∷ whole) y ≡ true) e (has_first var whole)
    by x (inr k) = has_rest var whole x (within_has part whole x h k)

-- a filter has no smaller numbers
pub least-filter : (test : List ℕ → Bool) (family : Family) → least_number family ≤ least_number (filter test family)
unfolding least_number
least-filter test [] = omega arith
least-filter test (set ∷ sets) = by (test set) (least-filter test sets)
  where
    by : (b : Bool) → least_number sets ≤ least_number (filter test sets) → min (least_of set) (least_number sets) ≤ least_number (cond b (set ∷ filter test sets) (filter test sets))
    by true h = omega arith
    by false h = omega arith

-- tests that agree on the members leave the same
pub same_filter : {A : Type 0} (test other : A → Bool) (xs : List A) → ((x : A) → Contains xs x → test x ≡ other x) → filter test xs ≡ filter other xs
same_filter test other [] h = refl
same_filter test other (x ∷ xs) h =
    ap (λ b. cond b (x ∷ filter test xs) (filter test xs)) (h x (contains_first x xs))
    ∙ ap (λ rest. cond (other x) (x ∷ rest) rest) (same_filter test other xs (λ y here. h y (contains_rest x xs y here)))

-- a filter of a branch is the branch of filters
filter-with_var : (test : List ℕ → Bool) (var : ℕ) (lo hi : Family) → filter test (with_var var hi lo) ≡ with_var var (filter (λ set. test (var ∷ set)) hi) (filter test lo)
unfolding with_var
filter-with_var test var lo [] = refl
filter-with_var test var lo (set ∷ sets) = ap (λ rest. cond (test (var ∷ set)) ((var ∷ set) ∷ rest) rest) (filter-with_var test var lo sets) ∙ by (test (var ∷ set))
  where
    by : (b : Bool) → cond b ((var ∷ set) ∷ with_var var (filter (λ s. test (var ∷ s)) sets) (filter test lo)) (with_var var (filter (λ s. test (var ∷ s)) sets) (filter test lo))
        ≡ with_var var (cond b (set ∷ filter (λ s. test (var ∷ s)) sets) (filter (λ s. test (var ∷ s)) sets)) (filter test lo)
    by true = refl
    by false = refl

pub filter-branch : (test : List ℕ → Bool) (var : ℕ) (lo hi : Family) → filter test (branch var lo hi) ≡ branch var (filter test lo) (filter (λ set. test (var ∷ set)) hi)
filter-branch test var lo hi = ap (filter test) (branch-with_var var lo hi) ∙ filter-with_var test var lo hi ∙ sym (branch-with_var var (filter test lo) (filter (λ set. test (var ∷ set)) hi))

-- a filter of a filter is one of both tests
filter-filter : {A : Type 0} (test other : A → Bool) (xs : List A) → filter test (filter other xs) ≡ filter (λ x. other x && test x) xs
filter-filter test other [] = refl
filter-filter test other (x ∷ xs) = by (other x) (test x) refl (filter-filter test other xs)
  where
    by : (o t : Bool) → test x ≡ t → filter test (filter other xs) ≡ filter (λ y. other y && test y) xs → filter test (cond o (x ∷ filter other xs) (filter other xs)) ≡ cond (o && t) (x ∷ filter (λ y. other y && test y) xs) (filter (λ y. other y && test y) xs)
    by true true e h = ap (λ b. cond b (x ∷ filter test (filter other xs)) (filter test (filter other xs))) e ∙ ap (λ rest. x ∷ rest) h
    by true false e h = ap (λ b. cond b (x ∷ filter test (filter other xs)) (filter test (filter other xs))) e ∙ h
    by false t e h = h

-- what is left of a branch without the sets that contain one of another branch
pub without-branch : (var : ℕ) (lo hi other_lo other_hi : Family) → var < least_number lo → var < least_number hi → var < least_number other_lo → var < least_number other_hi
    → sets_without (branch var lo hi) (branch var other_lo other_hi) ≡ branch var (sets_without lo other_lo) (sets_without (sets_without hi other_hi) other_lo)
unfolding sets_without
without-branch var lo hi other_lo other_hi l r l' r' =
    filter-branch (λ set. not (covers (branch var other_lo other_hi) set)) var lo hi
    ∙ ap (λ f. branch var f (filter (λ set. not (covers (branch var other_lo other_hi) (var ∷ set))) hi)) (same_filter _ (λ set. not (covers other_lo set)) lo in_lo)
    ∙ ap (branch var (filter (λ set. not (covers other_lo set)) lo)) (same_filter _ (λ set. not (covers other_hi set) && not (covers other_lo set)) hi in_hi
    ∙ sym (filter-filter (λ set. not (covers other_lo set)) (λ set. not (covers other_hi set)) hi))
  where
    in_lo : (set : List ℕ) → Contains lo set → not (covers (branch var other_lo other_hi) set) ≡ not (covers other_lo set)
    in_lo set here = ap not (covers-branch var other_lo other_hi set ∙ ap (λ b. covers other_lo set || (b && covers other_hi set)) (member-greater lo set var here l) ∙ none (covers other_lo set))
      where
        none : (b : Bool) → (b || false) ≡ b
        none true = refl
        none false = refl

    in_hi : (set : List ℕ) → Contains hi set → not (covers (branch var other_lo other_hi) (var ∷ set)) ≡ (not (covers other_hi set) && not (covers other_lo set))
    in_hi set here =
        ap not (covers-branch var other_lo other_hi (var ∷ set) ∙ ap (λ b. covers other_lo (var ∷ set) || (b && covers other_hi (var ∷ set))) (has_first var set)
        ∙ ap (λ b. b || covers other_hi (var ∷ set)) (covers-with other_lo set var l') ∙ ap (λ b. covers other_lo set || b) (covers-with other_hi set var r'))
        ∙ both_not (covers other_lo set) (covers other_hi set)
      where
        both_not : (a b : Bool) → not (a || b) ≡ (not b && not a)
        both_not true true = refl
        both_not true false = refl
        both_not false true = refl
        both_not false false = refl

-- without any sets to contain, all stay; without sets, none is left
filter_all : {A : Type 0} (test : A → Bool) (xs : List A) → ((x : A) → Contains xs x → test x ≡ true) → filter test xs ≡ xs
filter_all test [] h = refl
filter_all test (x ∷ xs) h =
    ap (λ b. cond b (x ∷ filter test xs) (filter test xs)) (h x (contains_first x xs)) ∙ ap (λ rest. x ∷ rest) (filter_all test xs (λ y here. h y (contains_rest x xs y here)))

pub filter_keeps : {A : Type 0} (test : A → Bool) (xs : List A) → ((x : A) → Contains xs x → test x ≡ true) → filter test xs ≡ xs
filter_keeps test xs h = filter_all test xs h

pub filter_drops : {A : Type 0} (test : A → Bool) (xs : List A) → ((x : A) → Contains xs x → test x ≡ false) → filter test xs ≡ []
filter_drops test [] h = refl
filter_drops test (x ∷ xs) h =
    ap (λ b. cond b (x ∷ filter test xs) (filter test xs)) (h x (contains_first x xs)) ∙ filter_drops test xs (λ y here. h y (contains_rest x xs y here))

pub without-none : (family : Family) → sets_without family [] ≡ family
unfolding sets_without covers
without-none family = filter_keeps (λ set. not (covers [] set)) family (λ set here. refl)

-- each set contains the empty set, and itself
pub without-unit : (family : Family) → sets_without family ([] ∷ []) ≡ []
unfolding sets_without covers is_within
without-unit family = filter_drops (λ set. not (covers ([] ∷ []) set)) family (λ set here. refl)

pub without-same : (family : Family) → sets_without family family ≡ []
unfolding sets_without
without-same family = filter_drops (λ set. not (covers family set)) family (λ set here. ap not (covers_member family set set here (within_self set)))
