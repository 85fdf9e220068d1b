-- Sets within others are no longer, and what the sizes of sets tell of what families cover.
use Rattle.std.proofs.Common.{◌≡◌, ℕ, ◌+◌, ◌<◌, ◌≤◌, Bool, true, false, cond, not, ◌&&◌, ◌||◌, List, [], ◌∷◌, length, filter, Contains, refl, sym, ap, ◌∙◌, subst, ⊎_elim, arith}
use Rattle.std.specs.Prelude.{nat_le}
use Rattle.std.specs.List.{list_any, AllByRecursion}
use Rattle.std.proofs.lemmas.Bool.{leb-false}
use Rattle.zdd_store.specs.inner.Family.{Family, has, is_within, covers, sets_without, IsRising, IsAntichain}
use Rattle.zdd_store.specs.inner.Answers.{HasAtLeast, HasAtMost, IsAsked, IsLeastUpTo, sets_up_to}
use Rattle.zdd_store.proofs.Orders.{all_contained}
use Rattle.zdd_families.proofs.Subsets.{has_first, has_rest, has_cases, has_none, least-has, within_has, within_from}
use Rattle.zdd_families.proofs.Covers.{member_covers}
use Rattle.zdd_families.proofs.Joins.{filter_keeps, member_filter}

-- a set without one of its numbers: all others are left
remove_one : (set : List ℕ) (n : ℕ) → has set n ≡ true → (rest : List ℕ) × (length set ≡ length rest + 1) × ((x : ℕ) → (x ≡ n → ⊥) → has set x ≡ true → has rest x ≡ true)
remove_one [] n h = absurd (has_none n h)
remove_one (m ∷ ms) n h =
    ⊎_elim (λ e. (ms, omega arith, λ x differ here. ⊎_elim (λ same. absurd (differ (sym same ∙ e))) (λ r. r) (has_cases m ms x here)))
    (λ k. let r = remove_one ms n k in (m ∷ r.0, omega (arith, r.1), λ x differ here. ⊎_elim (λ same. subst (λ y. has (m ∷ r.0) y ≡ true) same (has_first m r.0)) (λ there. has_rest m r.0 x (r.2 x differ there)) (has_cases m ms x here)))
    (has_cases m ms n h)

-- a rising set within another is no longer
pub within-shorter : (part set : List ℕ) → IsRising part → is_within part set ≡ true → length part ≤ length set
unfolding IsRising
within-shorter [] set rising within = omega arith
within-shorter (n ∷ ns) set rising within =
    let r = remove_one set n (within_has (n ∷ ns) set n within (has_first n ns)) in
    let rest : is_within ns r.0 ≡ true = within_from ns r.0 (λ x h. r.2 x (λ same. absurd (omega (arith, rising.0, least-has ns x h))) (within_has (n ∷ ns) set x within (has_rest n ns x h))) in
    omega (arith, r.1, within-shorter ns r.0 rising.1 rest)

-- the sets of at most so many numbers cover what all cover, where no more are asked
pub covers_cut : (most : ℕ) (family : Family) (set : List ℕ) → AllByRecursion IsRising family → length set ≤ most → covers (sets_up_to most family) set ≡ covers family set
unfolding covers sets_up_to
covers_cut most [] set rising few = refl
covers_cut most (part ∷ family) set rising few = by (nat_le (length part) most) refl (covers_cut most family set rising.1 few) where
  by : (b : Bool) → nat_le (length part) most ≡ b → list_any (λ p. is_within p set) (filter (λ s. nat_le (length s) most) family) ≡ list_any (λ p. is_within p set) family
      → list_any (λ p. is_within p set) (cond b (part ∷ filter (λ s. nat_le (length s) most) family) (filter (λ s. nat_le (length s) most) family)) ≡ is_within part set || list_any (λ p. is_within p set) family
  by true e rest = ap (λ b. is_within part set || b) rest
  by false e rest = out (is_within part set) refl where
    out : (b : Bool) → is_within part set ≡ b → list_any (λ p. is_within p set) (filter (λ s. nat_le (length s) most) family) ≡ b || list_any (λ p. is_within p set) family
    out true w = let l : most < length part = leb-false _ _ e in absurd (omega (arith, within-shorter part set rising.0 w))
    out false w = rest

-- a family whose sets are longer than a set does not cover it
pub covers-short : (least : ℕ) (family : Family) (set : List ℕ) → HasAtLeast least family → AllByRecursion IsRising family → length set < least → covers family set ≡ false
covers-short least family set many rising h = by (covers family set) refl
  where
    by : (b : Bool) → covers family set ≡ b → b ≡ false
    by true e =
        let c = member_covers family set e in
        let long : least ≤ length c.part = all_contained (λ s. least ≤ length s) family c.part many c.member in
        let shorter : length c.part ≤ length set = within-shorter c.part set (all_contained IsRising family c.part rising c.member) c.within in
        absurd (omega arith)
    by false e = refl

-- sets that are shorter than all of another family contain none of it
pub without-larger : (most least : ℕ) (a b : Family) → most < least → most < 4294967295 → HasAtMost most a → HasAtLeast least b → AllByRecursion IsRising b → sets_without a b ≡ a
unfolding sets_without
without-larger most least a b h fits few many rising = filter_keeps _ a keeps
  where
    keeps : (set : List ℕ) → Contains a set → not (covers b set) ≡ true
    keeps set here =
        let short : length set ≤ most = all_contained (λ s. length s ≤ most) a set (few fits) here in
        ap not (covers-short least b set many rising (omega arith))

-- two families do not both cover a set that is asked for, where the sets of one of them are longer
pub both-short : (most least : ℕ) (a b : Family) → most < least → most < 4294967295 → HasAtLeast least a → AllByRecursion IsRising a → (set : List ℕ) → IsAsked most set → (covers a set && covers b set) ≡ false
both-short most least a b h fits many rising set asked =
    let short : length set ≤ most = asked fits in
    ap (λ c. c && covers b set) (covers-short least a set many rising (omega arith))

pub both-short-second : (most least : ℕ) (a b : Family) → most < least → most < 4294967295 → HasAtLeast least b → AllByRecursion IsRising b → (set : List ℕ) → IsAsked most set → (covers a set && covers b set) ≡ false
both-short-second most least a b h fits many rising set asked =
    let short : length set ≤ most = asked fits in
    ap (λ c. covers a set && c) (covers-short least b set many rising (omega arith)) ∙ none (covers a set)
  where
    none : (b : Bool) → (b && false) ≡ false
    none true = refl
    none false = refl

-- a filter of an antichain is one
antichain-filter : (test : List ℕ → Bool) (family : Family) → IsAntichain family → IsAntichain (filter test family)
antichain-filter test family apart part whole here there h = apart part whole (member_filter test family part here).0 (member_filter test family whole there).0 h

-- the sets of at most so many numbers are what is asked for
pub up_to-asked : (most : ℕ) (family answer : Family) → most < 4294967295 → AllByRecursion IsRising family → IsAntichain family → answer ≡ sets_up_to most family → IsLeastUpTo most (covers family) answer
unfolding sets_up_to
up_to-asked most family answer fits rising apart e =
    subst (IsLeastUpTo most (covers family)) (sym e)
    (record { covering = λ set asked. covers_cut most family set rising (asked fits); apart = antichain-filter (λ set. nat_le (length set) most) family apart })

pub all-asked : (most : ℕ) (family : Family) → IsAntichain family → IsLeastUpTo most (covers family) family
all-asked most family apart = record { covering = λ set asked. refl; apart = apart }
