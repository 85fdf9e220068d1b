-- The numbers of a set from a bound on, and that a least family has no smaller numbers than what its test looks at.
use Rattle.std.proofs.Common.{◌≡◌, ℕ, ◌+◌, ◌<◌, ◌≤◌, ◌⊎◌, length, Bool, true, false, cond, List, [], ◌∷◌, filter, Contains, refl, sym, ap, ◌∙◌, subst, inl, inr, arith}
use Rattle.std.specs.Prelude.{nat_le}
use Rattle.std.proofs.lemmas.Bool.{false≢true, leb-true, le-leb}
use Rattle.zdd_store.specs.inner.Family.{Family, least_of, least_number, has, is_within, covers}
use Rattle.zdd_store.specs.inner.Answers.{IsLeastFamily}
use Rattle.zdd_store.proofs.Orders.{contains_first, contains_rest}
use Rattle.zdd_families.proofs.Booleans.{same_test}
use Rattle.zdd_families.proofs.Subsets.{has_first, has_rest, has_cases, has_none, least-has, within_has, within_from, within_self, within_trans}
use Rattle.zdd_families.proofs.Covers.{covers_member, member_covers, covers_more, least-member}

-- the numbers of a set that are not less than a bound
unfoldable pub above : ℕ → List ℕ → List ℕ
above low set = filter (nat_le low) set

pub above_has : (low : ℕ) (set : List ℕ) (x : ℕ) → has set x ≡ true → low ≤ x → has (above low set) x ≡ true
unfolding above
above_has low [] x here h = absurd (has_none x here)
above_has low (n ∷ ns) x here h = by (nat_le low n) refl (has_cases n ns x here) (λ k. above_has low ns x k h)
  where
    by : (b : Bool) → nat_le low n ≡ b → (n ≡ x) ⊎ (has ns x ≡ true) → (has ns x ≡ true → has (filter (nat_le low) ns) x ≡ true)
        → has (cond b (n ∷ filter (nat_le low) ns) (filter (nat_le low) ns)) x ≡ true
    by true e (inl is) more = subst (λ y. has (n ∷ filter (nat_le low) ns) y ≡ true) is (has_first n (filter (nat_le low) ns))
    by true e (inr k) more = has_rest n (filter (nat_le low) ns) x (more k)
    by false e (inl is) more = absurd (false≢true (sym e ∙ ap (nat_le low) is ∙ le-leb low x h))
    by false e (inr k) more = more k

pub has_above : (low : ℕ) (set : List ℕ) (x : ℕ) → has (above low set) x ≡ true → (has set x ≡ true) × (low ≤ x)
unfolding above
has_above low [] x here = absurd (has_none x here)
has_above low (n ∷ ns) x here = by (nat_le low n) refl here (has_above low ns x)
  where
    by : (b : Bool) → nat_le low n ≡ b → has (cond b (n ∷ filter (nat_le low) ns) (filter (nat_le low) ns)) x ≡ true
        → (has (filter (nat_le low) ns) x ≡ true → (has ns x ≡ true) × (low ≤ x)) → (has (n ∷ ns) x ≡ true) × (low ≤ x)
    by true e here more = by_case (has_cases n (filter (nat_le low) ns) x here) more
      where
        by_case : (n ≡ x) ⊎ (has (filter (nat_le low) ns) x ≡ true) → (has (filter (nat_le low) ns) x ≡ true → (has ns x ≡ true) × (low ≤ x)) → (has (n ∷ ns) x ≡ true) × (low ≤ x)
        by_case (inl is) more = (subst (λ y. has (n ∷ ns) y ≡ true) is (has_first n ns), leb-true low x (ap (nat_le low) (sym is) ∙ e))
        by_case (inr k) more = let m = more k in (has_rest n ns x m.0, m.1)
    by false e here more = let m = more here in (has_rest n ns x m.0, m.1)

above_within : (low : ℕ) (set : List ℕ) → is_within (above low set) set ≡ true
above_within low set = within_from (above low set) set (λ x here. (has_above low set x here).0)

-- a family without smaller numbers covers as much of the numbers from the bound on
pub covers-above : (low : ℕ) (family : Family) (set : List ℕ) → low ≤ least_number family → covers family (above low set) ≡ covers family set
covers-above low family set h = same_test (covers family (above low set)) (covers family set) (covers_more family (above low set) set (above_within low set))
    (λ k. let c = member_covers family set k in
    covers_member family c.part (above low set) c.member
    (within_from c.part (above low set) (λ x here. above_has low set x (within_has c.part set x c.within here)
    (let low_member : least_number family ≤ least_of c.part = least-member family c.part c.member in
    let low_number : least_of c.part ≤ x = least-has c.part x here in omega arith))))

-- a bound of each number is one of the least
least_from : (low : ℕ) (set : List ℕ) → low ≤ 4294967296 → ((x : ℕ) → has set x ≡ true → low ≤ x) → low ≤ least_of set
unfolding least_of
least_from low [] h all = h
least_from low (n ∷ ns) h all =
    let rest : low ≤ least_of ns = least_from low ns h (λ x here. all x (has_rest n ns x here)) in
    let first : low ≤ n = all n (has_first n ns) in
    omega arith

least_from_members : (low : ℕ) (family : Family) → low ≤ 4294967296 → ((set : List ℕ) → Contains family set → low ≤ least_of set) → low ≤ least_number family
unfolding least_number
least_from_members low [] h all = h
least_from_members low (set ∷ sets) h all =
    let rest : low ≤ least_number sets = least_from_members low sets h (λ s here. all s (contains_rest set sets s here)) in
    let first : low ≤ least_of set = all set (contains_first set sets) in
    omega arith

-- a least family has no number below a bound if its test looks at no number below it
pub least-bound : (low : ℕ) (test : List ℕ → Bool) (family : Family) → low ≤ 4294967296 → ((set : List ℕ) → test (above low set) ≡ test set) → IsLeastFamily test family → low ≤ least_number family
least-bound low test family h looks least = least_from_members low family h (λ set here. least_from low set h (numbers set here))
  where
    numbers : (set : List ℕ) → Contains family set → (x : ℕ) → has set x ≡ true → low ≤ x
    numbers set here x in_set =
        let self : covers family set ≡ true = covers_member family set set here (within_self set) in
        let restricted : covers family (above low set) ≡ true = least.covering (above low set) ∙ looks set ∙ sym (least.covering set) ∙ self in
        let c = member_covers family (above low set) restricted in
        let same : c.part ≡ set = least.apart c.part set c.member here (within_trans c.part (above low set) set c.within (above_within low set)) in
        let kept : is_within set (above low set) ≡ true = subst (λ s. is_within s (above low set) ≡ true) same c.within in
        (has_above low set x (within_has set (above low set) x kept in_set)).1

-- no least number is above the bound of all
pub least_number-most : (family : Family) → least_number family ≤ 4294967296
unfolding least_number
least_number-most [] = omega arith
least_number-most (set ∷ sets) = let rest : least_number sets ≤ 4294967296 = least_number-most sets in omega arith

above-le : (low : ℕ) (set : List ℕ) → length (above low set) ≤ length set
unfolding above
above-le low [] = omega arith
above-le low (n ∷ ns) = by (nat_le low n) (above-le low ns)
  where
    by : (b : Bool) → length (filter (nat_le low) ns) ≤ length ns → length (cond b (n ∷ filter (nat_le low) ns) (filter (nat_le low) ns)) ≤ length (n ∷ ns)
    by true h = omega arith
    by false h = omega arith

-- without a number that it has, a set is shorter
pub above-shorter : (low : ℕ) (set : List ℕ) (x : ℕ) → has set x ≡ true → x < low → length (above low set) + 1 ≤ length set
unfolding above
above-shorter low [] x here h = absurd (has_none x here)
above-shorter low (n ∷ ns) x here h = by (nat_le low n) refl (has_cases n ns x here) (λ k. above-shorter low ns x k h) (above-le low ns)
  where
    by : (b : Bool) → nat_le low n ≡ b → (n ≡ x) ⊎ (has ns x ≡ true) → (has ns x ≡ true → length (filter (nat_le low) ns) + 1 ≤ length ns) → length (filter (nat_le low) ns) ≤ length ns
        → length (cond b (n ∷ filter (nat_le low) ns) (filter (nat_le low) ns)) + 1 ≤ length (n ∷ ns)
    by true e (inl is) more le = let above_low : low ≤ n = leb-true low n e in absurd (omega arith)
    by true e (inr k) more le = let m : length (filter (nat_le low) ns) + 1 ≤ length ns = more k in omega arith
    by false e c more le = omega arith
