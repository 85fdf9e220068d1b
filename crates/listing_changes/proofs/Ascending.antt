-- The sorted numbers of a set rise.
use Rattle.std.proofs.Common.{ℕ, ◌+◌, ◌≡◌, ◌<◌, ◌≤◌, zero, suc, false, List, [], ◌∷◌, length, map, Option, Some, All, eqb, get_or, sym, ap, ◌∙◌, arith}
use Rattle.std.specs.Prelude.{AllPairs}
use Rattle.std.specs.List.{AllByRecursion, IsDistinct}
use Rattle.std.specs.Ordering.{nat_cmp}
use Rattle.std.specs.List.Sorted.{IsPermutation, IsSorted}
use Rattle.std.proofs.lemmas.Bool.{eq-eqb, eqb-true, ne_eqb}
use Rattle.std.proofs.lemmas.List.Kept.{AllPairs-from_increasing}
use Rattle.std.proofs.lemmas.List.Sorted.{All-permutation, IsNonDecreasingBy-from_sort}
use Rattle.std.proofs.lemmas.Map.Keys.{IsDistinct-IsPermutation, IsDistinct-cons, IsStrictlyIncreasing-from_distinct}
use Rattle.plain_values.specs.Rising.{RisesWithin}
use Rattle.fault_system.specs.Systems.{System, IsSystem}
use Rattle.fault_system.specs.CutSets.{IsEventSet}
use Rattle.listing_changes.specs.inner.Numbers.{AreNumbers, number_of, numbers_there}
use Rattle.listing_changes.proofs.Matching.{same-bool}
use Rattle.listing_changes.proofs.Names.{one-number, same-name}

-- numbers in a range of which each is less than all later ones rise
rises-by : (low high : ℕ) (xs : List ℕ) → All (λ x. low ≤ x) xs → All (λ x. x < high) xs → AllPairs (λ x y. x < y) xs → RisesWithin low high xs
rises-by low high [] above below up = tt
rises-by low high (x ∷ xs) above below up = (
  above 0 0 (omega arith),
  below 0 0 (omega arith),
  rises-by (x + 1) high xs (λ k d h. let less : x < get_or xs k d = up 0 (suc k) d (omega arith) (omega (arith, h)) in omega (arith, less))
      (λ k d h. below (suc k) d (omega (arith, h))) (λ i j d h k. up (suc i) (suc j) d (omega (arith, h)) (omega (arith, k))),
)

-- ---- numbers of different events differ

eqb-flips : (x y : ℕ) → eqb x y ≡ eqb y x
eqb-flips x y = same-bool (eqb x y) (eqb y x) (λ e. eq-eqb y x (sym (eqb-true x y e))) (λ e. eq-eqb x y (sym (eqb-true y x e)))

none-differ : IsDistinct eqb []
unfolding IsDistinct
none-differ = tt

first-of : (f : ℕ → Option ℕ) (x y : ℕ) (xs ys : List ℕ) → map f (x ∷ xs) ≡ map Some (y ∷ ys) → (f x ≡ Some y) × (map f xs ≡ map Some ys)
first-of f x y xs ys is = (cc, cc)

module _ (here there : System) (is : IsSystem here) where
  abbrev table : List (Option ℕ)
  table = numbers_there here there

  -- no later event has this number
  apart-from : (low first number : ℕ) (set numbers : List ℕ) → first < low → first < length here.events → number_of table first ≡ Some number → RisesWithin low (length here.events) set → AreNumbers table set numbers → AllByRecursion (λ other. eqb number other ≡ false) numbers
  apart-from low first number [] [] before within known up are = tt
  apart-from low first number [] (n ∷ ns) before within known up are = absurd (cc)
  apart-from low first number (event ∷ set) [] before within known up are = absurd (cc)
  apart-from low first number (event ∷ set) (n ∷ ns) before within known up are =
      let parts = first-of (number_of table) event n set ns are in (
        ne_eqb number n (λ same. let one : first ≡ event = one-number here there is first event number within up.1 known (parts.0 ∙ ap Some (sym same)) in absurd (omega (arith, one, before, up.0))),
        apart-from (event + 1) first number set ns (omega (arith, before, up.0)) within known up.2 parts.1,
      )

  numbers-differ : (low : ℕ) (set numbers : List ℕ) → RisesWithin low (length here.events) set → AreNumbers table set numbers → IsDistinct eqb numbers
  numbers-differ low [] [] up are = none-differ
  numbers-differ low [] (n ∷ ns) up are = absurd (cc)
  numbers-differ low (event ∷ set) [] up are = absurd (cc)
  numbers-differ low (event ∷ set) (n ∷ ns) up are =
      let parts = first-of (number_of table) event n set ns are in
      IsDistinct-cons eqb n ns (apart-from (event + 1) event n set ns (omega arith) up.1 parts.0 up.2 parts.1) (numbers-differ (event + 1) set ns up.2 parts.1)

  -- and each is a number of the other system
  numbers-few : (low : ℕ) (set numbers : List ℕ) → RisesWithin low (length here.events) set → AreNumbers table set numbers → All (λ n. n < length there.events) numbers
  numbers-few low set [] up are k d h = absurd (omega (arith, h))
  numbers-few low [] (n ∷ ns) up are k d h = absurd (cc)
  numbers-few low (event ∷ set) (n ∷ ns) up are zero d h = (same-name here there event n up.1 (first-of (number_of table) event n set ns are).0).0
  numbers-few low (event ∷ set) (n ∷ ns) up are (suc k) d h = numbers-few (event + 1) set ns up.2 (first-of (number_of table) event n set ns are).1 k d (omega (arith, h))

  -- sorted they are a set of events there
  pub sorted-set : (set numbers sorted : List ℕ) → IsEventSet here set → AreNumbers table set numbers → IsPermutation numbers sorted → IsSorted nat_cmp sorted → IsEventSet there sorted
  sorted-set set numbers sorted up are moved in_order =
      let differ = IsDistinct-IsPermutation eqb eqb-flips numbers sorted moved (numbers-differ 0 set numbers up are) in
      let rising = IsStrictlyIncreasing-from_distinct sorted (IsNonDecreasingBy-from_sort (λ n. n) sorted in_order) differ in
      rises-by 0 (length there.events) sorted (λ k d h. omega arith) (All-permutation (λ n. n < length there.events) numbers sorted moved (numbers-few 0 set numbers up are)) (AllPairs-from_increasing sorted rising)
