-- Sizes of the sets of families, and the families of the sets of a size.
use Rattle.std.proofs.Common.{◌≡◌, ℕ, zero, suc, ◌-◌, ◌<◌, ◌≤◌, Bool, true, false, List, [], ◌∷◌, length, filter, Contains, Ok, refl, sym, ap, ◌∙◌, subst, arith, eqb-true, eq-eqb}
use Rattle.std.specs.Prelude.{nat_le, ◌==◌}
use Rattle.std.proofs.lemmas.Bool.{leb-true, le-leb}
use Rattle.zdd_store.specs.inner.Family.{Family, branch, least_number}
use Rattle.zdd_store.specs.inner.Store.{Families, IsIn, family_at, family_of, Keeps, IsSound}
use Rattle.zdd_store.specs.inner.Answers.{HasAtLeast, HasAtMost, sets_up_to, sets_of}
use Rattle.zdd_store.specs.declared.id.Id.{Id}
use Rattle.zdd_store.proofs.Branches.{branch-empty}
use Rattle.zdd_store.proofs.Orders.{all_contained}
use Rattle.zdd_families.specs.inner.Steps.{IsFound, Answered, IsSplit}
use Rattle.zdd_families.specs.declared.split.Parts.{Parts}
use Rattle.zdd_families.proofs.Ways.{answered, Keeps_same}
use Rattle.zdd_families.proofs.Booleans.{same_test}
use Rattle.zdd_families.proofs.Joins.{least-filter, filter-branch, same_filter, filter_keeps, filter_drops}

-- with a number more
le_more : (most : ℕ) (var : ℕ) (set : List ℕ) → 1 ≤ most → nat_le (length (var ∷ set)) most ≡ nat_le (length set) (most - 1)
le_more most var set h = same_test (nat_le (length (var ∷ set)) most) (nat_le (length set) (most - 1))
    (λ e. let k : length (var ∷ set) ≤ most = leb-true (length (var ∷ set)) most e in le-leb (length set) (most - 1) (omega arith))
    (λ e. let k : length set ≤ most - 1 = leb-true (length set) (most - 1) e in le-leb (length (var ∷ set)) most (omega arith))

le_none : (var : ℕ) (set : List ℕ) → nat_le (length (var ∷ set)) 0 ≡ false
le_none var set = by (nat_le (length (var ∷ set)) 0) refl
  where
    by : (b : Bool) → nat_le (length (var ∷ set)) 0 ≡ b → b ≡ false
    by true e = let k : length (var ∷ set) ≤ 0 = leb-true (length (var ∷ set)) 0 e in absurd (omega arith)
    by false e = refl

eq_more : (size : ℕ) (var : ℕ) (set : List ℕ) → 1 ≤ size → (length (var ∷ set) == size) ≡ (length set == size - 1)
eq_more size var set h = same_test (length (var ∷ set) == size) (length set == size - 1)
    (λ e. let k : length (var ∷ set) ≡ size = eqb-true (length (var ∷ set)) size e in eq-eqb (length set) (size - 1) (omega arith))
    (λ e. let k : length set ≡ size - 1 = eqb-true (length set) (size - 1) e in eq-eqb (length (var ∷ set)) size (omega arith))

eq_none : (var : ℕ) (set : List ℕ) → (length (var ∷ set) == 0) ≡ false
eq_none var set = by (length (var ∷ set) == 0) refl
  where
    by : (b : Bool) → (length (var ∷ set) == 0) ≡ b → b ≡ false
    by true e = let k : length (var ∷ set) ≡ 0 = eqb-true (length (var ∷ set)) 0 e in absurd (omega arith)
    by false e = refl

pub up_to-branch : (most var : ℕ) (lo hi : Family) → 1 ≤ most → sets_up_to most (branch var lo hi) ≡ branch var (sets_up_to most lo) (sets_up_to (most - 1) hi)
unfolding sets_up_to
up_to-branch most var lo hi h = filter-branch _ var lo hi ∙ ap (branch var (filter (λ set. nat_le (length set) most) lo)) (same_filter _ _ hi (λ set here. le_more most var set h))

pub up_to-none : (var : ℕ) (lo hi : Family) → sets_up_to 0 (branch var lo hi) ≡ sets_up_to 0 lo
unfolding sets_up_to
up_to-none var lo hi = filter-branch _ var lo hi ∙ ap (branch var (filter (λ set. nat_le (length set) 0) lo)) (filter_drops _ hi (λ set here. le_none var set)) ∙ branch-empty var _

pub of-branch : (size var : ℕ) (lo hi : Family) → 1 ≤ size → sets_of size (branch var lo hi) ≡ branch var (sets_of size lo) (sets_of (size - 1) hi)
unfolding sets_of
of-branch size var lo hi h = filter-branch _ var lo hi ∙ ap (branch var (filter (λ set. length set == size) lo)) (same_filter _ _ hi (λ set here. eq_more size var set h))

pub of-none : (var : ℕ) (lo hi : Family) → sets_of 0 (branch var lo hi) ≡ sets_of 0 lo
unfolding sets_of
of-none var lo hi = filter-branch _ var lo hi ∙ ap (branch var (filter (λ set. length set == 0) lo)) (filter_drops _ hi (λ set here. eq_none var set)) ∙ branch-empty var _

-- what the sizes tell
pub all_up_to : (size most : ℕ) (family : Family) → size ≤ most → size < 4294967295 → HasAtMost size family → family ≡ sets_up_to most family
unfolding sets_up_to
all_up_to size most family h fits few =
    sym (filter_keeps _ family (λ set here. let k : length set ≤ size = all_contained (λ s. length s ≤ size) family set (few fits) here in le-leb (length set) most (omega arith)))

pub none_up_to : (size most : ℕ) (family : Family) → most < size → HasAtLeast size family → [] ≡ sets_up_to most family
unfolding sets_up_to
none_up_to size most family h many = sym (filter_drops _ family (λ set here. by set here (nat_le (length set) most) refl))
  where
    by : (set : List ℕ) → Contains family set → (b : Bool) → nat_le (length set) most ≡ b → b ≡ false
    by set here true e = let k : length set ≤ most = leb-true (length set) most e in let l : size ≤ length set = all_contained (λ s. size ≤ length s) family set many here in absurd (omega arith)
    by set here false e = refl

none_of : (size : ℕ) (family : Family) → ((set : List ℕ) → Contains family set → length set ≡ size → ⊥) → [] ≡ sets_of size family
unfolding sets_of
none_of size family never = sym (filter_drops _ family (λ set here. by set here (length set == size) refl))
  where
    by : (set : List ℕ) → Contains family set → (b : Bool) → (length set == size) ≡ b → b ≡ false
    by set here true e = absurd (never set here (eqb-true (length set) size e))
    by set here false e = refl

pub none_of_more : (most size : ℕ) (family : Family) → most < size → most < 4294967295 → HasAtMost most family → [] ≡ sets_of size family
none_of_more most size family h fits few = none_of size family (λ set here e. let k : length set ≤ most = all_contained (λ s. length s ≤ most) family set (few fits) here in omega arith)

pub none_of_less : (least size : ℕ) (family : Family) → size < least → HasAtLeast least family → [] ≡ sets_of size family
none_of_less least size family h many = none_of size family (λ set here e. let k : least ≤ length set = all_contained (λ s. least ≤ length s) family set many here in omega arith)

pub up_to_empty : (most : ℕ) → [] ≡ sets_up_to most []
unfolding sets_up_to
up_to_empty most = refl

pub up_to_unit : (most : ℕ) → [] ∷ [] ≡ sets_up_to most ([] ∷ [])
unfolding sets_up_to
up_to_unit most = sym (filter_keeps _ ([] ∷ []) (λ set here. by set (all_contained (λ s. s ≡ []) ([] ∷ []) set (refl, tt) here)))
  where
    by : (set : List ℕ) → set ≡ [] → nat_le (length set) most ≡ true
    by set e = le-leb (length set) most (let k : length set ≡ 0 = ap length e in omega arith)

pub of_empty : (size : ℕ) → [] ≡ sets_of size []
unfolding sets_of
of_empty size = refl

pub of_unit : [] ∷ [] ≡ sets_of 0 ([] ∷ [])
unfolding sets_of
of_unit = refl

pub of_unit_none : (size : ℕ) → ¬ (size ≡ 0) → [] ≡ sets_of size ([] ∷ [])
of_unit_none size h = none_of size ([] ∷ []) (λ set here e. let k : length set ≡ 0 = ap length (all_contained (λ s. s ≡ []) ([] ∷ []) set (refl, tt) here) in h (sym e ∙ k))

-- a filter of a family has no smaller numbers
pub least-up_to : (most : ℕ) (family : Family) → least_number family ≤ least_number (sets_up_to most family)
unfolding sets_up_to
least-up_to most family = least-filter _ family

pub least-of : (size : ℕ) (family : Family) → least_number family ≤ least_number (sets_of size family)
unfolding sets_of
least-of size family = least-filter _ family

-- what is told of a family of one store holds in a store that is the same
pub told_up_to : (store : Families) (a : Id) (most : ℕ) → IsSound store → a.position < 2 → family_of store a ≡ sets_up_to most (family_of store a)
told_up_to store a most sound h = by a.position refl h
  where
    by : (p : ℕ) → a.position ≡ p → p < 2 → family_of store a ≡ sets_up_to most (family_of store a)
    by zero e k = let is : family_of store a ≡ [] = ap (family_at store) e ∙ sound.empty in is ∙ up_to_empty most ∙ ap (sets_up_to most) (sym is)
    by (suc zero) e k = let is : family_of store a ≡ [] ∷ [] = ap (family_at store) e ∙ sound.unit in is ∙ up_to_unit most ∙ ap (sets_up_to most) (sym is)
    by (suc (suc n)) e k = absurd (omega arith)

-- where each set has the size, all are left
pub all_of : (size : ℕ) (family : Family) → size < 4294967295 → HasAtLeast size family → HasAtMost size family → family ≡ sets_of size family
unfolding sets_of
all_of size family fits many few =
    sym (filter_keeps _ family (λ set here.
    let low : size ≤ length set = all_contained (λ s. size ≤ length s) family set many here in
    let high : length set ≤ size = all_contained (λ s. length s ≤ size) family set (few fits) here in
    eq-eqb (length set) size (omega arith)))

-- an answer of a filter that the sizes tell
pub told_answer : (store : Families) (a id : Id) (F : Family → Family) → ((family : Family) → least_number family ≤ least_number (F family)) → IsIn store id → family_of store id ≡ F (family_of store a)
    → Answered store store (least_number (family_of store a)) (λ family. family ≡ F (family_of store a)) (Ok id)
told_answer store a id F least here is =
    let fewer : least_number (family_of store a) ≤ least_number (F (family_of store a)) = least (family_of store a) in
    let low : least_number (family_of store id) ≡ least_number (F (family_of store a)) = ap least_number is in
    answered id here (omega arith) is

pub Keeps_is : (s0 s1 : Families) → s1 ≡ s0 → Keeps s0 s1
Keeps_is s0 s1 same = subst (Keeps s0) (sym same) (Keeps_same s0)

-- a filter of a family of which only the sets without the variable are left
pub filter_lo : (s1 s2 : Families) (a lo : Id) (parts : Parts) (var : ℕ) (F : Family → Family) → IsSplit s1 a var parts
    → F (branch var (family_of s1 parts.lo) (family_of s1 parts.hi)) ≡ F (family_of s1 parts.lo) → family_of s2 lo ≡ F (family_of s1 parts.lo) → family_of s2 lo ≡ F (family_of s1 a)
filter_lo s1 s2 a lo parts var F split none is = is ∙ sym none ∙ ap F (sym split.family)

-- a filter of a family, from those of its parts
pub filter_made : (s1 s2 s3 s4 : Families) (a lo hi answer : Id) (parts : Parts) (var l1 l2 : ℕ) (F G : Family → Family) → IsSplit s1 a var parts
    → F (branch var (family_of s1 parts.lo) (family_of s1 parts.hi)) ≡ branch var (F (family_of s1 parts.lo)) (G (family_of s1 parts.hi)) → Keeps s1 s2 → Keeps s2 s3
    → IsFound s2 l1 (λ f. f ≡ F (family_of s1 parts.lo)) lo → IsFound s3 l2 (λ f. f ≡ G (family_of s2 parts.hi)) hi
    → family_of s4 answer ≡ branch var (family_of s3 lo) (family_of s3 hi) → family_of s4 answer ≡ F (family_of s1 a)
filter_made s1 s2 s3 s4 a lo hi answer parts var l1 l2 F G split step k2 k3 f1 f2 made =
    made ∙ ap (λ f. branch var f (family_of s3 hi)) (k3.same lo.position f1.found ∙ f1.right)
    ∙ ap (branch var (F (family_of s1 parts.lo))) (f2.right ∙ ap G (k2.same parts.hi.position split.hi_in))
    ∙ sym step ∙ ap F (sym split.family)

pub least_filtered : (F : Family → Family) (a family : Family) → ((f : Family) → least_number f ≤ least_number (F f)) → family ≡ F a → least_number a ≤ least_number family
least_filtered F a family least e = subst (λ f. least_number a ≤ least_number f) (sym e) (least a)
