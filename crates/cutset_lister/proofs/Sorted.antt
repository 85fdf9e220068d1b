-- The sets of a family, size by size, are its sets in listing order.
use Rattle.std.proofs.Common.{◌≡◌, ℕ, zero, suc, ◌+◌, ◌<◌, ◌≤◌, ◌↔◌, Bool, true, false, cond, ◌&&◌, ◌||◌, List, [], ◌∷◌, ◌++◌, length, filter, Contains, ⊎_elim, inl, refl, sym, ap, ◌∙◌, subst, arith, add-one, eqb-true, eq-eqb}
use Rattle.std.specs.Prelude.{IsTrue, nat_lt, ◌==◌}
use Rattle.std.proofs.lemmas.Bool.{false≢true, cases_lt}
use Rattle.fault_system.specs.Listings.{is_lower, IsBefore, IsInListingOrder}
use Rattle.fault_system.proofs.Elements.{In, In-contains, contains_In, In-append, In-front, In-back, In-filter, In-filtered, each-at, each-made}
use Rattle.fault_system.proofs.Orders.{before_made, order-append}
use Rattle.zdd_store.specs.inner.Family.{Family, precedes, IsInOrder}
use Rattle.zdd_store.specs.inner.Answers.{sets_of}
use Rattle.zdd_store.specs.inner.Store.{Families, IsIn, Keeps, family_of}
use Rattle.zdd_store.specs.declared.id.Id.{Id}
use Rattle.zdd_families.proofs.Ways.{Keeps_trans}
use Rattle.zdd_families.proofs.Sizing.{Keeps_is}
use Rattle.cutset_lister.specs.inner.Listed.{listed}

or_step : (a b c d : Bool) → a || (b && c) ≡ true → (c ≡ true → d ≡ true) → a || (b && d) ≡ true
or_step true b c d e f = refl
or_step false true c d e f = f e
or_step false false c d e f = e

-- of two sets of one size, the order of families is that of listings
lower_of : (a b : List ℕ) → length a ≡ length b → precedes a b ≡ true → is_lower a b ≡ true
lower_of [] b same e = absurd (false≢true e)
lower_of (n ∷ ns) [] same e = absurd (omega arith)
lower_of (n ∷ ns) (m ∷ ms) same e = or_step (nat_lt n m) (n == m) (precedes ns ms) (is_lower ns ms) e (λ h. lower_of ns ms (omega arith) h)

last_of : (a b c : Bool) → b ≡ true → c ≡ true → a || (b && c) ≡ true
last_of true b c e f = refl
last_of false true c e f = f
last_of false false c e f = e

before_of : (a b : List ℕ) → length a ≡ length b → precedes a b ≡ true → IsBefore a b
before_of a b same e = last_of (nat_lt (length a) (length b)) (length a == length b) (is_lower a b) (eq-eqb (length a) (length b) same) (lower_of a b same e)

ordered_size : (size : ℕ) (family : Family) → IsInOrder family → IsInListingOrder (sets_of size family)
unfolding sets_of IsInOrder
ordered_size size [] o = tt
ordered_size size (set ∷ sets) o = by (length set == size) refl (ordered_size size sets o.1)
  where
    by : (b : Bool) → (length set == size) ≡ b → IsInListingOrder (filter (λ s. length s == size) sets) → IsInListingOrder (cond b (set ∷ filter (λ s. length s == size) sets) (filter (λ s. length s == size) sets))
    by true e rest = (
      each-made (IsBefore set) (filter (λ s. length s == size) sets) (λ c i.
          let f = In-filter (λ s. length s == size) c sets i in
          before_of set c (eqb-true (length set) size e ∙ sym (eqb-true (length c) size f.1)) (each-at (λ other. IsTrue (precedes set other)) c sets o.0 f.0)),
      rest,
    )
    by false e rest = rest

in_listed : (k : ℕ) (family : Family) (set : List ℕ) → In set (listed k family) → In set family × (length set < k)
unfolding listed sets_of
in_listed zero family set i = absurd i
in_listed (suc k) family set i =
    ⊎_elim (λ f. let h = in_listed k family set f in (h.0, omega (arith, h.1)))
    (λ b. let h = In-filter (λ s. length s == k) set family b in (h.0, let same : length set ≡ k = eqb-true (length set) k h.1 in omega arith))
    (In-append set (listed k family) (filter (λ s. length s == k) family) i)

listed_in : (k : ℕ) (family : Family) (set : List ℕ) → In set family → length set < k → In set (listed k family)
unfolding listed sets_of
listed_in zero family set i less = absurd (omega arith)
listed_in (suc k) family set i less =
    ⊎_elim (λ h. In-front set (listed k family) (filter (λ s. length s == k) family) (listed_in k family set i h))
    (λ h. In-back set (listed k family) (filter (λ s. length s == k) family) (In-filtered (λ s. length s == k) set family (eq-eqb (length set) k (omega arith)) i))
    (cases_lt (length set) k)

of_size : (k : ℕ) (family : Family) (set : List ℕ) → In set (sets_of k family) → length set ≡ k
unfolding sets_of
of_size k family set i = eqb-true (length set) k (In-filter (λ s. length s == k) set family i).1

shorter : (k : ℕ) (a b : List ℕ) → length a < k → length b ≡ k → length a < length b
shorter k a b h e = omega arith

ordered_listed : (k : ℕ) (family : Family) → IsInOrder family → IsInListingOrder (listed k family)
unfolding listed
ordered_listed zero family o = tt
ordered_listed (suc k) family o =
    order-append (listed k family) (sets_of k family) (ordered_listed k family o) (ordered_size k family o) (λ a b i j. before_made a b (inl (shorter k a b (in_listed k family a i).1 (of_size k family b j))))

-- the sets of one size more
pub listed_more : (size : ℕ) (family : Family) → listed size family ++ sets_of size family ≡ listed (size + 1) family
unfolding listed
listed_more size family = ap (λ k. listed k family) (sym (add-one size))

-- the sets of all sizes are in listing order, and they are those of the family
pub all_ordered : (most : ℕ) (family sets : Family) → sets ≡ listed (most + 1) family → IsInOrder family → IsInListingOrder sets
all_ordered most family sets is o = subst IsInListingOrder (sym is) (ordered_listed (most + 1) family o)

pub all_listed : (most : ℕ) (family sets : Family) → sets ≡ listed (most + 1) family → ((set : List ℕ) → Contains family set → length set ≤ most) → (set : List ℕ) → Contains sets set ↔ Contains family set
all_listed most family sets is few set = (
  λ here. contains_In set family (in_listed (most + 1) family set (subst (In set) is (In-contains set sets here))).0,
  λ here. let short = few set here in contains_In set sets (subst (In set) (sym is) (listed_in (most + 1) family set (In-contains set family here) (omega arith))),
)

-- the sets of fewer numbers than so many are in the list, and each number of the store keeps its family
pub record ListedSoFar (before now : Families) (family : Id) (size : ℕ) (sets : Family) : Type 0 where
  pub kept : Keeps before now
  pub sets_are : sets ≡ listed size (family_of before family)

pub none_listed : (store : Families) (family : Id) (sets : Family) → sets ≡ [] → ListedSoFar store store family 0 sets
unfolding listed
none_listed store family sets is = record { kept = Keeps_is store store refl; sets_are = is }

pub more_listed : (before middle now : Families) (family : Id) (size : ℕ) (sets new : Family) → IsIn before family → ListedSoFar before middle family size sets → Keeps middle now → new ≡ sets ++ sets_of size (family_of middle family) → ListedSoFar before now family (size + 1) new
more_listed before middle now family size sets new here so_far kept is = record {
  kept = Keeps_trans before middle now so_far.kept kept;
  sets_are =
      is ∙ ap (λ (f : Family). sets ++ sets_of size f) (so_far.kept.same family.position here) ∙ ap (λ (s : Family). s ++ sets_of size (family_of before family)) so_far.sets_are
      ∙ listed_more size (family_of before family);
}
