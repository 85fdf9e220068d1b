-- From what a family covers to its sets: a least family has exactly the minimal sets of what its test tells.
use Rattle.std.proofs.Common.{◌≡◌, ℕ, zero, suc, ◌+◌, ◌<◌, ◌≤◌, ◌⊎◌, Bool, true, false, ◌&&◌, ◌||◌, List, [], ◌∷◌, Contains, refl, sym, ap, ◌∙◌, subst, inl, inr, arith, eqb-true}
use Rattle.std.specs.Prelude.{nat_lt, ◌==◌, if◌then◌else◌}
use Rattle.std.specs.List.{AllByRecursion}
use Rattle.std.proofs.lemmas.Bool.{false≢true, lt-ltb, ltb-true, cases_lt, eqb-false}
use Rattle.zdd_store.specs.inner.Family.{Family, least_of, has, is_within, covers, IsRising, IsMinimal}
use Rattle.zdd_store.specs.inner.Answers.{IsLeastFamily}
use Rattle.zdd_store.proofs.Orders.{all_contained}
use Rattle.zdd_families.specs.inner.Unions.{with_number, union_of, HasMinimalSets, IsInEither, IsUnionOfBoth, IsUnionOfSome, some_of}
use Rattle.zdd_families.specs.inner.Steps.{either, both}
use Rattle.zdd_families.proofs.Booleans.{or_left, or_right, or_cases, and_made, and_cases}
use Rattle.zdd_families.proofs.Subsets.{has_first, has_rest, has_cases, has_none, within_has, within_from, within_self, within_trans, same_rising}
use Rattle.zdd_families.proofs.Covers.{covers_member, member_covers}

-- a set with a property that is within another
pub record Below (Property : List ℕ → Type 0) (set : List ℕ) : Type 0 where
  pub part : List ℕ
  pub has_it : Property part
  pub within : is_within part set ≡ true

-- a test tells a property of rising sets: a set passes exactly if a set with the property is within it
pub record Tells (test : List ℕ → Bool) (Property : List ℕ → Type 0) : Type 0 where
  pub rising : (set : List ℕ) → Property set → IsRising set
  pub below : (set : List ℕ) → test set ≡ true → Below Property set
  pub passes : (part set : List ℕ) → Property part → is_within part set ≡ true → test set ≡ true

pub minimal_sets_of : (test : List ℕ → Bool) (Property : List ℕ → Type 0) (family : Family) → Tells test Property → IsLeastFamily test family → AllByRecursion IsRising family → HasMinimalSets family Property
minimal_sets_of test Property family tells least rising set = (there, back)
  where
    there : Contains family set → IsMinimal Property set
    there here =
        let up : IsRising set = all_contained IsRising family set rising here in
        let self : test set ≡ true = sym (least.covering set) ∙ covers_member family set set here (within_self set) in
        let b = tells.below set self in
        let again = member_covers family b.part (least.covering b.part ∙ tells.passes b.part b.part b.has_it (within_self b.part)) in
        let one : again.part ≡ set = least.apart again.part set again.member here (within_trans again.part b.part set again.within b.within) in
        let back_within : is_within set b.part ≡ true = subst (λ s. is_within s b.part ≡ true) one again.within in
        let is : b.part ≡ set = same_rising b.part set (tells.rising b.part b.has_it) up b.within back_within in (
          subst Property is b.has_it,
          λ part has_it within.
              let c = member_covers family part (least.covering part ∙ tells.passes part part has_it (within_self part)) in
              let same : c.part ≡ set = least.apart c.part set c.member here (within_trans c.part part set c.within within) in
              same_rising part set (tells.rising part has_it) up within (subst (λ s. is_within s part ≡ true) same c.within),
        )

    back : IsMinimal Property set → Contains family set
    back minimal =
        let c = member_covers family set (least.covering set ∙ tells.passes set set minimal.0 (within_self set)) in
        let b = tells.below c.part (sym (least.covering c.part) ∙ covers_member family c.part c.part c.member (within_self c.part)) in
        let first : b.part ≡ set = minimal.1 b.part b.has_it (within_trans b.part c.part set b.within c.within) in
        let within_part : is_within set c.part ≡ true = subst (λ s. is_within s c.part ≡ true) first b.within in
        let is : c.part ≡ set = same_rising c.part set (all_contained IsRising family c.part rising c.member) (tells.rising set minimal.0) c.within within_part in
        subst (Contains family) is c.member

-- what a union of two families covers is told by its sets
pub tells_either : (a b : Family) → AllByRecursion IsRising a → AllByRecursion IsRising b → Tells (either a b) (IsInEither a b)
tells_either a b up_a up_b = record { rising = rising; below = λ set h. below set (or_cases (covers a set) (covers b set) h); passes = passes }
  where
    rising : (set : List ℕ) → Contains a set ⊎ Contains b set → IsRising set
    rising set (inl h) = all_contained IsRising a set up_a h
    rising set (inr h) = all_contained IsRising b set up_b h

    below : (set : List ℕ) → (covers a set ≡ true) ⊎ (covers b set ≡ true) → Below (IsInEither a b) set
    below set (inl h) = let c = member_covers a set h in record { part = c.part; has_it = inl c.member; within = c.within }
    below set (inr h) = let c = member_covers b set h in record { part = c.part; has_it = inr c.member; within = c.within }

    passes : (part set : List ℕ) → Contains a part ⊎ Contains b part → is_within part set ≡ true → covers a set || covers b set ≡ true
    passes part set (inl h) within = or_left (covers a set) (covers b set) (covers_member a part set h within)
    passes part set (inr h) within = or_right (covers a set) (covers b set) (covers_member b part set h within)

-- a number put into a set: what the set has then, and that it rises still
pub has_with_number : (n : ℕ) (set : List ℕ) (x : ℕ) → has (with_number n set) x ≡ true → (n ≡ x) ⊎ (has set x ≡ true)
has_with_number n [] x h = has_cases n [] x h
has_with_number n (m ∷ ms) x h = by (nat_lt n m) (n == m) refl h (has_with_number n ms x)
  where
    last : (n ≡ x) ⊎ (has ms x ≡ true) → (n ≡ x) ⊎ (has (m ∷ ms) x ≡ true)
    last (inl e) = inl e
    last (inr k) = inr (has_rest m ms x k)

    deeper : (m ≡ x) ⊎ (has (with_number n ms) x ≡ true) → (has (with_number n ms) x ≡ true → (n ≡ x) ⊎ (has ms x ≡ true)) → (n ≡ x) ⊎ (has (m ∷ ms) x ≡ true)
    deeper (inl e) more = inr (subst (λ y. has (m ∷ ms) y ≡ true) e (has_first m ms))
    deeper (inr k) more = last (more k)

    by : (lt eq : Bool) → (n == m) ≡ eq → has (if lt then n ∷ m ∷ ms else if eq then m ∷ ms else m ∷ with_number n ms) x ≡ true
        → (has (with_number n ms) x ≡ true → (n ≡ x) ⊎ (has ms x ≡ true)) → (n ≡ x) ⊎ (has (m ∷ ms) x ≡ true)
    by true eq e here more = has_cases n (m ∷ ms) x here
    by false true e here more = inr here
    by false false e here more = deeper (has_cases m (with_number n ms) x here) more

pub with_number_has : (n : ℕ) (set : List ℕ) (x : ℕ) → (n ≡ x) ⊎ (has set x ≡ true) → has (with_number n set) x ≡ true
with_number_has n [] x (inl e) = subst (λ y. has (n ∷ []) y ≡ true) e (has_first n [])
with_number_has n [] x (inr h) = absurd (has_none x h)
with_number_has n (m ∷ ms) x h = by (nat_lt n m) (n == m) refl h (with_number_has n ms x)
  where
    deeper : (n ≡ x) ⊎ (has (m ∷ ms) x ≡ true) → ((n ≡ x) ⊎ (has ms x ≡ true) → has (with_number n ms) x ≡ true) → has (m ∷ with_number n ms) x ≡ true
    deeper (inl e) more = has_rest m (with_number n ms) x (more (inl e))
    deeper (inr k) more = in_rest (has_cases m ms x k)
      where
        in_rest : (m ≡ x) ⊎ (has ms x ≡ true) → has (m ∷ with_number n ms) x ≡ true
        in_rest (inl e) = subst (λ y. has (m ∷ with_number n ms) y ≡ true) e (has_first m (with_number n ms))
        in_rest (inr l) = has_rest m (with_number n ms) x (more (inr l))

    same : (n ≡ x) ⊎ (has (m ∷ ms) x ≡ true) → n ≡ m → has (m ∷ ms) x ≡ true
    same (inl e) is = subst (λ y. has (m ∷ ms) y ≡ true) (sym is ∙ e) (has_first m ms)
    same (inr k) is = k

    front : (n ≡ x) ⊎ (has (m ∷ ms) x ≡ true) → has (n ∷ m ∷ ms) x ≡ true
    front (inl e) = subst (λ y. has (n ∷ m ∷ ms) y ≡ true) e (has_first n (m ∷ ms))
    front (inr k) = has_rest n (m ∷ ms) x k

    by : (lt eq : Bool) → (n == m) ≡ eq → (n ≡ x) ⊎ (has (m ∷ ms) x ≡ true) → ((n ≡ x) ⊎ (has ms x ≡ true) → has (with_number n ms) x ≡ true)
        → has (if lt then n ∷ m ∷ ms else if eq then m ∷ ms else m ∷ with_number n ms) x ≡ true
    by true eq e here more = front here
    by false true e here more = same here (eqb-true n m e)
    by false false e here more = deeper here more

least-with_number : (low n : ℕ) (set : List ℕ) → low ≤ n → low ≤ least_of set → low ≤ least_of (with_number n set)
unfolding least_of
least-with_number low n [] h k = omega arith
least-with_number low n (m ∷ ms) h k = by (nat_lt n m) (n == m) (least-with_number low n ms h (omega arith))
  where
    by : (lt eq : Bool) → low ≤ least_of (with_number n ms) → low ≤ least_of (if lt then n ∷ m ∷ ms else if eq then m ∷ ms else m ∷ with_number n ms)
    by true eq more = omega arith
    by false true more = k
    by false false more = omega arith

rising-with_number : (n : ℕ) (set : List ℕ) → n < 4294967296 → IsRising set → IsRising (with_number n set)
unfolding IsRising least_of
rising-with_number n [] h up = (h, tt)
rising-with_number n (m ∷ ms) h up = by (nat_lt n m) (n == m) refl refl (rising-with_number n ms h up.1)
  where
    by : (lt eq : Bool) → nat_lt n m ≡ lt → (n == m) ≡ eq → IsRising (with_number n ms) → IsRising (if lt then n ∷ m ∷ ms else if eq then m ∷ ms else m ∷ with_number n ms)
    by true eq e f more = let below : n < m = ltb-true n m e in let up_m : m < least_of ms = up.0 in (omega arith, up)
    by false true e f more = up
    by false false e f more = (above_m (cases_lt m n), more)
      where
        above_m : (m < n) ⊎ (n ≤ m) → m < least_of (with_number n ms)
        above_m (inl k) = let low : m + 1 ≤ least_of (with_number n ms) = least-with_number (m + 1) n ms (omega arith) (let up_m : m < least_of ms = up.0 in omega arith) in omega arith
        above_m (inr k) = absurd (not_less (cases_lt n m))
          where
            not_less : (n < m) ⊎ (m ≤ n) → ⊥
            not_less (inl l) = false≢true (sym e ∙ lt-ltb n m l)
            not_less (inr l) = eqb-false n m f (omega arith)

least_of_most : (set : List ℕ) → least_of set ≤ 4294967296
unfolding least_of
least_of_most [] = omega arith
least_of_most (n ∷ ns) = let rest : least_of ns ≤ 4294967296 = least_of_most ns in omega arith

-- the union of two sets has what either has, and rises
pub has_union : (a b : List ℕ) (x : ℕ) → has (union_of a b) x ≡ true → (has a x ≡ true) ⊎ (has b x ≡ true)
has_union [] b x h = inr h
has_union (n ∷ ns) b x h = by (has_with_number n (union_of ns b) x h) (has_union ns b x)
  where
    last : (has ns x ≡ true) ⊎ (has b x ≡ true) → (has (n ∷ ns) x ≡ true) ⊎ (has b x ≡ true)
    last (inl k) = inl (has_rest n ns x k)
    last (inr k) = inr k

    by : (n ≡ x) ⊎ (has (union_of ns b) x ≡ true) → (has (union_of ns b) x ≡ true → (has ns x ≡ true) ⊎ (has b x ≡ true)) → (has (n ∷ ns) x ≡ true) ⊎ (has b x ≡ true)
    by (inl e) more = inl (subst (λ y. has (n ∷ ns) y ≡ true) e (has_first n ns))
    by (inr k) more = last (more k)

pub union_has_first : (a b : List ℕ) (x : ℕ) → has a x ≡ true → has (union_of a b) x ≡ true
union_has_first [] b x h = absurd (has_none x h)
union_has_first (n ∷ ns) b x h = by (has_cases n ns x h) (union_has_first ns b x)
  where
    by : (n ≡ x) ⊎ (has ns x ≡ true) → (has ns x ≡ true → has (union_of ns b) x ≡ true) → has (with_number n (union_of ns b)) x ≡ true
    by (inl e) more = with_number_has n (union_of ns b) x (inl e)
    by (inr k) more = with_number_has n (union_of ns b) x (inr (more k))

pub union_has_second : (a b : List ℕ) (x : ℕ) → has b x ≡ true → has (union_of a b) x ≡ true
union_has_second [] b x h = h
union_has_second (n ∷ ns) b x h = with_number_has n (union_of ns b) x (inr (union_has_second ns b x h))

pub rising_union : (a b : List ℕ) → IsRising a → IsRising b → IsRising (union_of a b)
unfolding IsRising
rising_union [] b up_a up_b = up_b
rising_union (n ∷ ns) b up_a up_b =
    let up_n : n < least_of ns = up_a.0 in
    let most : least_of ns ≤ 4294967296 = least_of_most ns in
    rising-with_number n (union_of ns b) (omega arith) (rising_union ns b up_a.1 up_b)

-- both are within a set exactly if their union is
pub union_within : (a b set : List ℕ) → is_within a set ≡ true → is_within b set ≡ true → is_within (union_of a b) set ≡ true
union_within a b set h k = within_from (union_of a b) set (λ x here. by x (has_union a b x here))
  where
    by : (x : ℕ) → (has a x ≡ true) ⊎ (has b x ≡ true) → has set x ≡ true
    by x (inl l) = within_has a set x h l
    by x (inr l) = within_has b set x k l

pub first_within : (a b set : List ℕ) → is_within (union_of a b) set ≡ true → is_within a set ≡ true
first_within a b set h = within_from a set (λ x here. within_has (union_of a b) set x h (union_has_first a b x here))

pub second_within : (a b set : List ℕ) → is_within (union_of a b) set ≡ true → is_within b set ≡ true
second_within a b set h = within_from b set (λ x here. within_has (union_of a b) set x h (union_has_second a b x here))

-- what a product of two families covers is told by its sets
pub tells_both : (a b : Family) → AllByRecursion IsRising a → AllByRecursion IsRising b → Tells (both a b) (IsUnionOfBoth a b)
tells_both a b up_a up_b = record { rising = rising; below = below; passes = passes }
  where
    rising : (set : List ℕ) → IsUnionOfBoth a b set → IsRising set
    rising set h = subst IsRising (sym h.4) (rising_union h.0 h.1 (all_contained IsRising a h.0 up_a h.2) (all_contained IsRising b h.1 up_b h.3))

    below : (set : List ℕ) → covers a set && covers b set ≡ true → Below (IsUnionOfBoth a b) set
    below set h =
        let of_a = member_covers a set (and_cases (covers a set) (covers b set) h).0 in
        let of_b = member_covers b set (and_cases (covers a set) (covers b set) h).1 in
        record {
          part = union_of of_a.part of_b.part;
          has_it = (of_a.part, of_b.part, of_a.member, of_b.member, refl);
          within = union_within of_a.part of_b.part set of_a.within of_b.within;
        }

    passes : (part set : List ℕ) → IsUnionOfBoth a b part → is_within part set ≡ true → covers a set && covers b set ≡ true
    passes part set h within =
        let union_is : is_within (union_of h.0 h.1) set ≡ true = ap (λ s. is_within s set) (sym h.4) ∙ within in
        and_made (covers a set) (covers b set) (covers_member a h.0 set h.2 (first_within h.0 h.1 set union_is)) (covers_member b h.1 set h.3 (second_within h.0 h.1 set union_is))

-- what at least k of some families cover is told by the unions of one set each of k of them
none_within : (set : List ℕ) → is_within [] set ≡ true
unfolding is_within
none_within set = refl

rising_none : IsRising []
unfolding IsRising
rising_none = tt

some_rising : (k : ℕ) (families : List Family) → AllByRecursion (AllByRecursion IsRising) families → (set : List ℕ) → IsUnionOfSome k families set → IsRising set
some_rising zero families up set h = subst IsRising (sym h) rising_none
some_rising (suc k) [] up set h = absurd h
some_rising (suc k) (family ∷ families) up set h = by h (some_rising (suc k) families up.1 set) (some_rising k families up.1)
  where
    by : IsUnionOfSome (suc k) families set ⊎ ((part : List ℕ) × (other : List ℕ) × Contains family part × IsUnionOfSome k families other × (set ≡ union_of part other))
        → (IsUnionOfSome (suc k) families set → IsRising set) → ((other : List ℕ) → IsUnionOfSome k families other → IsRising other) → IsRising set
    by (inl l) more fewer = more l
    by (inr r) more fewer = subst IsRising (sym r.4) (rising_union r.0 r.1 (all_contained IsRising family r.0 up.0 r.2) (fewer r.1 r.3))

some_below : (k : ℕ) (families : List Family) (set : List ℕ) → some_of k families set ≡ true → Below (IsUnionOfSome k families) set
some_below zero families set h = record { part = []; has_it = refl; within = none_within set }
some_below (suc k) [] set h = absurd (false≢true h)
some_below (suc k) (family ∷ families) set h = by (or_cases (some_of (suc k) families set) (covers family set && some_of k families set) h) (some_below (suc k) families set) (some_below k families set)
  where
    by : (some_of (suc k) families set ≡ true) ⊎ (covers family set && some_of k families set ≡ true)
        → (some_of (suc k) families set ≡ true → Below (IsUnionOfSome (suc k) families) set) → (some_of k families set ≡ true → Below (IsUnionOfSome k families) set)
        → Below (IsUnionOfSome (suc k) (family ∷ families)) set
    by (inl l) more fewer = let b = more l in record { part = b.part; has_it = inl b.has_it; within = b.within }
    by (inr r) more fewer =
        let c = member_covers family set (and_cases (covers family set) (some_of k families set) r).0 in
        let b = fewer (and_cases (covers family set) (some_of k families set) r).1 in
        record { part = union_of c.part b.part; has_it = inr (c.part, b.part, c.member, b.has_it, refl); within = union_within c.part b.part set c.within b.within }

some_passes : (k : ℕ) (families : List Family) (part set : List ℕ) → IsUnionOfSome k families part → is_within part set ≡ true → some_of k families set ≡ true
some_passes zero families part set h within = refl
some_passes (suc k) [] part set h within = absurd h
some_passes (suc k) (family ∷ families) part set h within = by h (λ l. some_passes (suc k) families part set l within) (λ other. some_passes k families other set)
  where
    by : IsUnionOfSome (suc k) families part ⊎ ((one : List ℕ) × (other : List ℕ) × Contains family one × IsUnionOfSome k families other × (part ≡ union_of one other))
        → (IsUnionOfSome (suc k) families part → some_of (suc k) families set ≡ true) → ((other : List ℕ) → IsUnionOfSome k families other → is_within other set ≡ true → some_of k families set ≡ true)
        → some_of (suc k) families set || (covers family set && some_of k families set) ≡ true
    by (inl l) more fewer = or_left (some_of (suc k) families set) (covers family set && some_of k families set) (more l)
    by (inr r) more fewer =
        let union_is : is_within (union_of r.0 r.1) set ≡ true = ap (λ s. is_within s set) (sym r.4) ∙ within in
        or_right (some_of (suc k) families set) (covers family set && some_of k families set)
        (and_made (covers family set) (some_of k families set) (covers_member family r.0 set r.2 (first_within r.0 r.1 set union_is)) (fewer r.1 r.3 (second_within r.0 r.1 set union_is)))

pub tells_some : (k : ℕ) (families : List Family) → AllByRecursion (AllByRecursion IsRising) families → Tells (some_of k families) (IsUnionOfSome k families)
tells_some k families up = record { rising = some_rising k families up; below = some_below k families; passes = some_passes k families }
