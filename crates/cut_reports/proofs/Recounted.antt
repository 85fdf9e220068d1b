-- What is counted of a family is counted of its listing.
use Rattle.std.proofs.Common.{◌≡◌, ℕ, suc, ◌+◌, ◌<◌, ◌↔◌, ◌&&◌, Bool, true, false, cond, List, [], ◌∷◌, ◌++◌, length, length-append, filter, Contains, Option, None, Some, IfSome, inl, inr, ⊎_elim, refl, sym, ap, subst, ◌∙◌, arith}
use Rattle.std.specs.Prelude.{◌==◌, ◌||◌, IsTrue, nat_lt}
use Rattle.std.specs.List.{count_by, list_any}
use Rattle.std.proofs.lemmas.Bool.{false≢true, ltb-true}
use Rattle.std.proofs.lemmas.List.Sums.{length-filter}
use Rattle.std.proofs.lemmas.List.Elements.{filter-append}
use Rattle.fault_system.specs.Listings.{IsBefore, IsInListingOrder}
use Rattle.fault_system.proofs.Elements.{In, In-append, In-back, In-contains, In-front, contains_In, each-at}
use Rattle.fault_system.proofs.Orders.{not_both_before}
use Rattle.zdd_store.specs.inner.Family.{Family, IsInOrder, precedes}
use Rattle.fta_outside.specs.Counts.{AreCountsOf, capped, has_event, has_size, is_alone}
use Rattle.fta_outside.specs.declared.counts.FamilyCounts.{FamilyCounts}

-- no set stands twice
abbrev Apart : Family → Type 0
Apart [] = Unit {0}
Apart (set ∷ sets) = (In set sets → ⊥) × Apart sets

listing-apart : (sets : Family) → IsInListingOrder sets → Apart sets
listing-apart [] o = tt
listing-apart (set ∷ sets) o = ((λ i. let before : IsBefore set set = each-at (IsBefore set) set sets o.0 i in not_both_before set set before before), listing-apart sets o.1)

pass : (a b c : Bool) → a || (b && c) ≡ true → (a ≡ true → ⊥) → (c ≡ true → ⊥) → ⊥
pass true b c e f g = f refl
pass false true c e f g = g e
pass false false c e f g = false≢true e

not-itself : (set : List ℕ) → precedes set set ≡ true → ⊥
not-itself [] e = false≢true e
not-itself (n ∷ ns) e = pass (nat_lt n n) (n == n) (precedes ns ns) e (λ h. let less : n < n = ltb-true n n h in omega arith) (not-itself ns)

family-apart : (sets : Family) → IsInOrder sets → Apart sets
unfolding IsInOrder
family-apart [] o = tt
family-apart (set ∷ sets) o = ((λ i. not-itself set (each-at (λ other. IsTrue (precedes set other)) set sets o.0 i)), family-apart sets o.1)

filtered-step : (test : List ℕ → Bool) (set : List ℕ) (sets : Family) (b : Bool) → test set ≡ b → length (filter test (set ∷ sets)) ≡ cond b 1 0 + length (filter test sets)
filtered-step test set sets true e =
    let step : length (filter test (set ∷ sets)) ≡ suc (length (filter test sets)) = ap (λ b. length (cond b (set ∷ filter test sets) (filter test sets))) e in
    omega (arith, step)
filtered-step test set sets false e =
    let step : length (filter test (set ∷ sets)) ≡ length (filter test sets) = ap (λ b. length (cond b (set ∷ filter test sets) (filter test sets))) e in
    omega (arith, step)

-- a list of which one set is taken out
parted : (set : List ℕ) (sets : Family) → In set sets → (front : Family) × (back : Family) × (sets ≡ front ++ set ∷ back)
parted set [] i = absurd i
parted set (first ∷ rest) i = ⊎_elim (λ e. ([], rest, ap (λ one. one ∷ rest) e)) (λ r. let p = parted set rest r in (first ∷ p.0, p.1, ap (λ others. first ∷ others) p.2)) i

in-more : (one : List ℕ) (front : Family) (set : List ℕ) (back : Family) → In one (front ++ back) → In one (front ++ set ∷ back)
in-more one front set back i = ⊎_elim (λ l. In-front one front (set ∷ back) l) (λ r. In-back one front (set ∷ back) (inr r)) (In-append one front back i)

in-less : (one : List ℕ) (front : Family) (set : List ℕ) (back : Family) → In one (front ++ set ∷ back) → (set ≡ one → ⊥) → In one (front ++ back)
in-less one front set back i apart = ⊎_elim (λ l. In-front one front back l) (λ r. ⊎_elim (λ e. absurd (apart e)) (λ b. In-back one front back b) r) (In-append one front (set ∷ back) i)

apart-out : (front : Family) (set : List ℕ) (back : Family) → Apart (front ++ set ∷ back) → Apart (front ++ back)
apart-out [] set back a = a.1
apart-out (first ∷ front) set back a = ((λ i. a.0 (in-more first front set back i)), apart-out front set back a.1)

not-out : (front : Family) (set : List ℕ) (back : Family) → Apart (front ++ set ∷ back) → In set (front ++ back) → ⊥
not-out [] set back a i = a.0 i
not-out (first ∷ front) set back a i = ⊎_elim (λ e. a.0 (In-back first front (set ∷ back) (inl (sym e)))) (λ r. not-out front set back a.1 r) i

counted-out : (test : List ℕ → Bool) (front : Family) (set : List ℕ) (back : Family) → length (filter test (front ++ set ∷ back)) ≡ cond (test set) 1 0 + length (filter test (front ++ back))
counted-out test front set back =
    let whole : length (filter test (front ++ set ∷ back)) ≡ length (filter test front) + length (filter test (set ∷ back)) =
    ap length (filter-append test front (set ∷ back)) ∙ length-append (filter test front) (filter test (set ∷ back)) in
    let rest : length (filter test (front ++ back)) ≡ length (filter test front) + length (filter test back) = ap length (filter-append test front back) ∙ length-append (filter test front) (filter test back) in
    let one : length (filter test (set ∷ back)) ≡ cond (test set) 1 0 + length (filter test back) = filtered-step test set back (test set) refl in
    omega (arith, whole, rest, one)

-- two lists of the same sets, none of which stands twice, pass a test as often
same-size : (test : List ℕ → Bool) (sets others : Family) → Apart sets → Apart others → ((set : List ℕ) → In set sets → In set others) → ((set : List ℕ) → In set others → In set sets)
    → length (filter test sets) ≡ length (filter test others)
same-size test [] [] a b f g = refl
same-size test [] (other ∷ others) a b f g = absurd (g other (inl refl))
same-size test (set ∷ sets) others a b f g =
    let p = parted set others (f set (inl refl)) in
    let front : Family = p.0 in
    let back : Family = p.1 in
    let whole : Apart (front ++ set ∷ back) = subst Apart p.2 b in
    let rest : length (filter test sets) ≡ length (filter test (front ++ back)) =
    same-size test sets (front ++ back) a.1 (apart-out front set back whole)
    (λ one i. in-less one front set back (subst (λ (l : Family). In one l) p.2 (f one (inr i))) (λ e. a.0 (subst (λ (t : List ℕ). In t sets) (sym e) i)))
    (λ one i. ⊎_elim (λ e. absurd (not-out front set back whole (subst (λ (t : List ℕ). In t (front ++ back)) (sym e) i))) (λ r. r) (g one (subst (λ (l : Family). In one l) (sym p.2) (in-more one front set back i)))) in
    filtered-step test set sets (test set) refl ∙ ap (λ n. cond (test set) 1 0 + n) rest ∙ sym (counted-out test front set back) ∙ ap (λ (l : Family). length (filter test l)) (sym p.2)

-- the listing of a family passes a test as often
same-count : (test : List ℕ → Bool) (family sets : Family) → IsInOrder family → IsInListingOrder sets → ((set : List ℕ) → Contains sets set ↔ Contains family set) → length (filter test sets) ≡ length (filter test family)
same-count test family sets ordered listing same =
    same-size test sets family (listing-apart sets listing) (family-apart family ordered) (λ set i. In-contains set family ((same set).0 (contains_In set sets i)))
    (λ set i. In-contains set sets ((same set).1 (contains_In set family i)))

some-any : (test : List ℕ → Bool) (sets : Family) → 0 < length (filter test sets) → list_any test sets ≡ true
some-any test [] h = absurd (omega arith)
some-any test (set ∷ sets) h = by (test set) refl (λ more. some-any test sets more) (filtered-step test set sets (test set) refl)
  where
    by : (b : Bool) → test set ≡ b → (0 < length (filter test sets) → list_any test sets ≡ true) → length (filter test (set ∷ sets)) ≡ cond b 1 0 + length (filter test sets) → (b || list_any test sets) ≡ true
    by true e rest count = refl
    by false e rest count = rest (omega (arith, h, count))

any-some : (test : List ℕ → Bool) (sets : Family) → list_any test sets ≡ true → 0 < length (filter test sets)
any-some test [] e = absurd (false≢true e)
any-some test (set ∷ sets) e = by (test set) refl e (λ more. any-some test sets more) (filtered-step test set sets (test set) refl)
  where
    by : (b : Bool) → test set ≡ b → (b || list_any test sets) ≡ true → (list_any test sets ≡ true → 0 < length (filter test sets)) → length (filter test (set ∷ sets)) ≡ cond b 1 0 + length (filter test sets) → 0 < length (filter test (set ∷ sets))
    by true f any rest count = omega (arith, count)
    by false f any rest count = let more = rest any in omega (arith, count, more)

same-bool : (a b : Bool) → (a ≡ true → b ≡ true) → (b ≡ true → a ≡ true) → a ≡ b
same-bool true true f g = refl
same-bool true false f g = sym (f refl)
same-bool false true f g = g refl
same-bool false false f g = refl

-- what is counted of a family is counted of its listing
pub recounted : (counts : FamilyCounts) (family sets : Family) → IsInOrder family → IsInListingOrder sets → ((set : List ℕ) → Contains sets set ↔ Contains family set) → AreCountsOf counts family → AreCountsOf counts sets
recounted counts family sets ordered listing same are = record {
  of_orders = λ i h. are.of_orders i h ∙ ap capped (sym (counted (has_size i)));
  of_events = λ i h. are.of_events i h ∙ ap capped (sym (counted (has_event i)));
  of_singles = λ i h. are.of_singles i h ∙ sym (any (is_alone i));
} where
  counted : (test : List ℕ → Bool) → count_by test sets ≡ count_by test family
  counted test = sym (length-filter test sets) ∙ same-count test family sets ordered listing same ∙ length-filter test family

  any : (test : List ℕ → Bool) → list_any test sets ≡ list_any test family
  any test =
      let count : length (filter test sets) ≡ length (filter test family) = same-count test family sets ordered listing same in
      same-bool (list_any test sets) (list_any test family) (λ e. some-any test family (let more = any-some test sets e in omega (arith, more, count)))
      (λ e. some-any test sets (let more = any-some test family e in omega (arith, more, count)))

-- where it is counted
pub some_recounted : (counts : Option FamilyCounts) (family sets left : Family) → IsInOrder family → IsInListingOrder sets → ((set : List ℕ) → Contains sets set ↔ Contains family set) → left ≡ sets
    → IfSome counts (λ found. AreCountsOf found family) → IfSome counts (λ found. AreCountsOf found left)
some_recounted None family sets left ordered listing same is are = tt
some_recounted (Some found) family sets left ordered listing same is are = subst (AreCountsOf found) (sym is) (recounted found family sets ordered listing same are)
