-- What families cover: of branches, of filters, and by their members.
use Rattle.std.proofs.Common.{◌≡◌, ℕ, ◌<◌, ◌≤◌, ◌⊎◌, min, Bool, true, false, ◌&&◌, ◌||◌, List, [], ◌∷◌, Contains, refl, sym, ap, ◌∙◌, inl, inr, arith}
use Rattle.std.proofs.lemmas.Bool.{false≢true}
use Rattle.zdd_store.specs.inner.Family.{Family, branch, least_of, least_number, has, is_within, covers}
use Rattle.zdd_store.proofs.Branches.{with_var, branch-with_var}
use Rattle.zdd_store.proofs.Orders.{first_or_rest, contains_first, contains_rest, contains_none}
use Rattle.zdd_families.proofs.Booleans.{or_left, or_right, or_cases, same_test}
use Rattle.zdd_families.proofs.Subsets.{has-greater, within_self, within_trans, within_more, within-without}

-- a family covers what contains one of its sets
pub covers_member : (family : Family) (part set : List ℕ) → Contains family part → is_within part set ≡ true → covers family set ≡ true
unfolding covers
covers_member [] part set here h = absurd (contains_none part here)
covers_member (first ∷ rest) part set here h = by (first_or_rest first rest part here) (λ k. covers_member rest part set k h)
  where
    by : (first ≡ part) ⊎ Contains rest part → (Contains rest part → covers rest set ≡ true) → is_within first set || covers rest set ≡ true
    by (inl e) more = or_left (is_within first set) (covers rest set) (ap (λ p. is_within p set) e ∙ h)
    by (inr k) more = or_right (is_within first set) (covers rest set) (more k)

-- and nothing else
pub record Covering (family : Family) (set : List ℕ) : Type 0 where
  pub part : List ℕ
  pub member : Contains family part
  pub within : is_within part set ≡ true

pub member_covers : (family : Family) (set : List ℕ) → covers family set ≡ true → Covering family set
unfolding covers
member_covers [] set h = absurd (false≢true h)
member_covers (first ∷ rest) set h = by (or_cases (is_within first set) (covers rest set) h) (member_covers rest set)
  where
    by : (is_within first set ≡ true) ⊎ (covers rest set ≡ true) → (covers rest set ≡ true → Covering rest set) → Covering (first ∷ rest) set
    by (inl e) more = record { part = first; member = contains_first first rest; within = e }
    by (inr e) more = let c = more e in record { part = c.part; member = contains_rest first rest c.part c.member; within = c.within }

-- a larger set is covered too
pub covers_more : (family : Family) (set larger : List ℕ) → is_within set larger ≡ true → covers family set ≡ true → covers family larger ≡ true
covers_more family set larger h k = let c = member_covers family set k in covers_member family c.part larger c.member (within_trans c.part set larger c.within h)

-- the least number of a family is no greater than that of a member
pub least-member : (family : Family) (set : List ℕ) → Contains family set → least_number family ≤ least_of set
unfolding least_number
least-member [] set here = absurd (contains_none set here)
least-member (first ∷ rest) set here = by (first_or_rest first rest set here) (least-member rest set)
  where
    by : (first ≡ set) ⊎ Contains rest set → (Contains rest set → least_number rest ≤ least_of set) → min (least_of first) (least_number rest) ≤ least_of set
    by (inl e) more = let same : least_of first ≡ least_of set = ap least_of e in omega arith
    by (inr k) more = let below : least_number rest ≤ least_of set = more k in omega arith

-- no member has a number that is less than the least of the family
pub member-greater : (family : Family) (set : List ℕ) (var : ℕ) → Contains family set → var < least_number family → has set var ≡ false
member-greater family set var here h = let low : least_number family ≤ least_of set = least-member family set here in has-greater set var (omega arith)

-- a number less than those of a family makes no difference to what it covers
pub covers-with : (family : Family) (set : List ℕ) (var : ℕ) → var < least_number family → covers family (var ∷ set) ≡ covers family set
covers-with family set var h = same_test (covers family (var ∷ set)) (covers family set)
    (λ k. let c = member_covers family (var ∷ set) k in
    covers_member family c.part set c.member (sym (within-without c.part set var (member-greater family c.part var c.member h)) ∙ c.within))
    (covers_more family set (var ∷ set) (within_more set set var (within_self set)))

covers-with_var : (var : ℕ) (lo hi : Family) (set : List ℕ) → covers (with_var var hi lo) set ≡ (covers lo set || (has set var && covers hi set))
unfolding covers with_var is_within
covers-with_var var lo [] set = by (covers lo set) (has set var)
  where
    by : (l h : Bool) → l ≡ (l || (h && false))
    by true h = refl
    by false true = refl
    by false false = refl
covers-with_var var lo (first ∷ rest) set = ap (λ c. (has set var && is_within first set) || c) (covers-with_var var lo rest set) ∙ by (has set var) (is_within first set) (covers lo set) (covers rest set)
  where
    by : (h w l r : Bool) → ((h && w) || (l || (h && r))) ≡ (l || (h && (w || r)))
    by true true true r = refl
    by true true false r = refl
    by true false l r = refl
    by false w l r = refl

-- a branch covers what lo covers, and with the variable what hi covers
pub covers-branch : (var : ℕ) (lo hi : Family) (set : List ℕ) → covers (branch var lo hi) set ≡ (covers lo set || (has set var && covers hi set))
covers-branch var lo hi set = ap (λ f. covers f set) (branch-with_var var lo hi) ∙ covers-with_var var lo hi set
