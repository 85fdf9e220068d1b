-- Rising lists of exactly the numbers of a set.
use Rattle.std.proofs.Common.{ℕ, zero, suc, ◌+◌, ◌≡◌, ◌<◌, ◌≤◌, List, [], ◌∷◌, length, map, AllPairs, Contains, ◌∙◌, sym, subst, arith, ⊎_elim}
use Rattle.std.specs.List.{range_with_len}
use Rattle.std.specs.List.Sorted.{IsStrictlyIncreasing}
use Rattle.std.proofs.lemmas.Bool.{false≢true, and_from, and_parts}
use Rattle.std.proofs.lemmas.List.{get_or_default}
use Rattle.std.proofs.lemmas.List.Kept.{AllPairs-from_increasing}
use Rattle.std.proofs.lemmas.List.FromFn.{length-range_with_len, get_or-range_with_len}
use Rattle.std.proofs.lemmas.List.Elements.{Contains-get_or}
use Rattle.plain_values.specs.Rising.{RisesWithin}
use Rattle.fault_system.specs.Truth.{NumberSet, Has, set_of}
use Rattle.fault_system.proofs.NumberSets.{RisesWithin-at, RisesWithin-filter, contained-in_set, same_rising, set_of-cases, set_of-contained, set_of-filter, set_of-first, set_of-rest}
use Rattle.derivations.specs.Derived.{numbers_in}
use Rattle.derivations.specs.inner.Ordered.{place_at}

-- where a number of a list stands
pub found-at : (xs : List ℕ) (n : ℕ) → Has (set_of xs) n → (k : ℕ) × (k < length xs) × (place_at xs k ≡ n)
found-at xs n h =
    let c : Contains xs n = set_of-contained xs n h in
    (c.0, c.1, get_or_default xs c.0 0 n c.1 ∙ c.2)

pub at-found : (xs : List ℕ) (k : ℕ) → k < length xs → Has (set_of xs) (place_at xs k)
at-found xs k h = contained-in_set xs (place_at xs k) (Contains-get_or xs k 0 h)

pub set_of-mapped : (f : ℕ → ℕ) (xs : List ℕ) (n : ℕ) → Has (set_of xs) n → Has (set_of (map f xs)) (f n)
set_of-mapped f [] n h = absurd (false≢true h)
set_of-mapped f (x ∷ xs) n h = ⊎_elim
    (λ same. subst (λ k. Has (set_of (f x ∷ map f xs)) (f k)) same (set_of-first (f x) (map f xs)))
    (λ later. set_of-rest (f x) (map f xs) (f n) (set_of-mapped f xs n later))
    (set_of-cases x xs n h)

pub set_of-map_from : (f : ℕ → ℕ) (xs : List ℕ) (n : ℕ) → Has (set_of (map f xs)) n → (m : ℕ) × Has (set_of xs) m × (f m ≡ n)
set_of-map_from f [] n h = absurd (false≢true h)
set_of-map_from f (x ∷ xs) n h = ⊎_elim
    (λ same. (x, set_of-first x xs, same))
    (λ later. let it = set_of-map_from f xs n later in (it.0, set_of-rest x xs it.0 it.1, it.2))
    (set_of-cases (f x) (map f xs) n h)

-- numbers of which each is below all later ones rise
rises-pairs : (xs : List ℕ) (low high : ℕ) → AllPairs (λ x y. x < y) xs → ((n : ℕ) → Has (set_of xs) n → (low ≤ n) × (n < high)) → RisesWithin low high xs
rises-pairs [] low high pairs each = tt
rises-pairs (x ∷ xs) low high pairs each =
    let here = each x (set_of-first x xs) in (
      here.0,
      here.1,
      rises-pairs xs (x + 1) high
          (λ i j d h k. pairs (suc i) (suc j) d (omega arith) (omega arith))
          (λ n h. let at = found-at xs n h in
          let above : x < place_at xs at.0 = pairs 0 (suc at.0) 0 (omega arith) (omega (arith, at.1)) in
          (omega (arith, above, at.2), (each n (set_of-rest x xs n h)).1)),
    )

pub rises-increasing : (xs : List ℕ) (low high : ℕ) → IsStrictlyIncreasing xs → ((n : ℕ) → Has (set_of xs) n → (low ≤ n) × (n < high)) → RisesWithin low high xs
rises-increasing xs low high rising = rises-pairs xs low high (AllPairs-from_increasing xs rising)

range-rises : (a n : ℕ) → RisesWithin a (a + n) (range_with_len a n)
range-rises a zero = tt
range-rises a (suc n) =
    let next : (a + 1) + n ≡ a + suc n = omega arith in
    (omega arith, omega arith, subst (λ k. RisesWithin (a + 1) k (range_with_len (a + 1) n)) next (range-rises (a + 1) n))

from-zero : (size : ℕ) → RisesWithin 0 size (range_with_len 0 size)
from-zero size = let sum : 0 + size ≡ size = omega arith in subst (λ k. RisesWithin 0 k (range_with_len 0 size)) sum (range-rises 0 size)

pub numbers-rise : (size : ℕ) (set : NumberSet) → RisesWithin 0 size (numbers_in size set)
numbers-rise size set = RisesWithin-filter set 0 size (range_with_len 0 size) (from-zero size)

in-range : (size n : ℕ) → n < size → Has (set_of (range_with_len 0 size)) n
in-range size n h =
    let long = length-range_with_len 0 size in
    let sum : 0 + n ≡ n = omega arith in
    contained-in_set (range_with_len 0 size) n (n, omega (arith, long), get_or-range_with_len 0 size n n h ∙ sum)

pub numbers-in : (size : ℕ) (set : NumberSet) (n : ℕ) → Has (set_of (numbers_in size set)) n → (n < size) × Has set n
numbers-in size set n h =
    let both = and_parts _ _ (sym (set_of-filter set (range_with_len 0 size) n) ∙ h) in
    ((RisesWithin-at 0 size (range_with_len 0 size) n (from-zero size) both.0).1, both.1)

pub numbers-all : (size : ℕ) (set : NumberSet) (n : ℕ) → n < size → Has set n → Has (set_of (numbers_in size set)) n
numbers-all size set n fits has = set_of-filter set (range_with_len 0 size) n ∙ and_from _ _ (in-range size n fits) has

-- a rising list of the numbers of a set is that of its numbers
pub are-numbers : (size : ℕ) (set : NumberSet) (xs : List ℕ) → IsStrictlyIncreasing xs → ((n : ℕ) → Has (set_of xs) n → (n < size) × Has set n) → ((n : ℕ) → n < size → Has set n → Has (set_of xs) n) → xs ≡ numbers_in size set
are-numbers size set xs rising into all =
    same_rising 0 0 size xs (numbers_in size set)
    (rises-increasing xs 0 size rising (λ n h. (omega arith, (into n h).0))) (numbers-rise size set)
    (λ n h. let is = into n h in numbers-all size set n is.0 is.1)
    (λ n h. let is = numbers-in size set n h in all n is.0 is.1)

-- rising numbers that are all below a lower end
pub rises-below : (low high end : ℕ) (xs : List ℕ) → RisesWithin low high xs → ((n : ℕ) → Has (set_of xs) n → n < end) → RisesWithin low end xs
rises-below low high end [] r h = tt
rises-below low high end (x ∷ xs) r h = (r.0, h x (set_of-first x xs), rises-below (x + 1) high end xs r.2 (λ n k. h n (set_of-rest x xs n k)))
