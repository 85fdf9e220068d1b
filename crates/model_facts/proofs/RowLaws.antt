-- Lists by number, and what stands apart in them.
use Rattle.std.proofs.Common.{ℕ, zero, suc, ◌+◌, ◌≡◌, ◌<◌, Bool, true, false, cond, filter, List, [], ◌∷◌, slice_get, get_or, Some, refl, subst, arith}
use Rattle.std.specs.List.{AllByRecursion}
use Rattle.plain_values.specs.Numbered.{numbered_from, numbers_below}
use Rattle.instantiator.proofs.Apart.{Apart, apart-append, each-append, each-weaker}

-- ---- numbered parts

module _ {Part Row : Type 0} (give : ℕ → Part → List Row) where
  pub numbered-each : (P : Row → Type 0) (k : ℕ) (parts : List Part) → ((n i : ℕ) (part : Part) → n ≡ k + i → slice_get parts i ≡ Some part → AllByRecursion P (give n part)) → AllByRecursion P (numbered_from give k parts)
  numbered-each P k [] each = tt
  numbered-each P k (part ∷ parts) each =
      each-append P (give k part) (numbered_from give (k + 1) parts) (each k 0 part (omega arith) refl)
      (numbered-each P (k + 1) parts (λ n i other is at. each n (suc i) other (omega (arith, is)) at))

  module _ (R : Row → Row → Type 0) (From : ℕ → Part → Row → Type 0) where
    -- rows of one part stand apart, and those of different parts
    pub numbered-apart : (k : ℕ) (parts : List Part) → ((n i : ℕ) (part : Part) → n ≡ k + i → slice_get parts i ≡ Some part → AllByRecursion (From n part) (give n part))
        → ((n i : ℕ) (part : Part) → n ≡ k + i → slice_get parts i ≡ Some part → Apart R (give n part))
        → ((m n i j : ℕ) (x y : Part) (a b : Row) → m ≡ k + i → n ≡ k + j → i < j → slice_get parts i ≡ Some x → slice_get parts j ≡ Some y → From m x a → From n y b → R a b) → Apart R (numbered_from give k parts)
    numbered-apart k [] from inside between = tt
    numbered-apart k (part ∷ parts) from inside between =
        let here : k ≡ k + 0 = omega arith in
        apart-append R (give k part) (numbered_from give (k + 1) parts) (inside k 0 part here refl)
        (numbered-apart (k + 1) parts (λ n i other is at. from n (suc i) other (omega (arith, is)) at) (λ n i other is at. inside n (suc i) other (omega (arith, is)) at)
        (λ m n i j x y a b first second less at there. between m n (suc i) (suc j) x y a b (omega (arith, first)) (omega (arith, second)) (omega (arith, less)) at there))
        (each-weaker (From k part) (λ a. AllByRecursion (R a) (numbered_from give (k + 1) parts))
        (λ a is.
        numbered-each (R a) (k + 1) parts
        (λ n j y second there.
        let later : n ≡ k + suc j = omega (arith, second) in
        each-weaker (From n y) (R a) (λ b its. between k n 0 (suc j) part y a b here later (omega arith) refl there is its) (give n y) (from n (suc j) y later there))) (give k part) (from k 0 part here refl))

-- ---- numbers

pub below-each : (P : ℕ → Type 0) (n : ℕ) → ((i : ℕ) → i < n → P i) → AllByRecursion P (numbers_below n)
below-each P zero each = tt
below-each P (suc n) each = each-append P (numbers_below n) (n ∷ []) (below-each P n (λ i less. each i (omega (arith, less)))) (each n (omega arith), tt)

pub below-apart : (R : ℕ → ℕ → Type 0) (n : ℕ) → ((i j : ℕ) → i < j → j < n → R i j) → Apart R (numbers_below n)
below-apart R zero apart = tt
below-apart R (suc n) apart =
    apart-append R (numbers_below n) (n ∷ []) (below-apart R n (λ i j less within. apart i j less (omega (arith, within)))) (tt, tt)
    (below-each (λ a. AllByRecursion (R a) (n ∷ [])) n (λ i less. (apart i n less (omega arith), tt)))

module _ {A : Type 0} (p : A → Bool) where
  kept-each : (P : A → Type 0) (b : Bool) (x : A) (xs : List A) → P x → AllByRecursion P xs → AllByRecursion P (cond b (x ∷ xs) xs)
  kept-each P true x xs here later = (here, later)
  kept-each P false x xs here later = later

  pub filter-each : (P : A → Type 0) (xs : List A) → AllByRecursion P xs → AllByRecursion P (filter p xs)
  filter-each P [] each = tt
  filter-each P (x ∷ xs) each = kept-each P (p x) x (filter p xs) each.0 (filter-each P xs each.1)

  kept-apart : (R : A → A → Type 0) (b : Bool) (x : A) (xs : List A) → AllByRecursion (R x) xs → Apart R xs → Apart R (cond b (x ∷ xs) xs)
  kept-apart R true x xs here later = (here, later)
  kept-apart R false x xs here later = later

  pub filter-apart : (R : A → A → Type 0) (xs : List A) → Apart R xs → Apart R (filter p xs)
  filter-apart R [] apart = tt
  filter-apart R (x ∷ xs) apart = kept-apart R (p x) x (filter p xs) (filter-each (R x) xs apart.0) (filter-apart R xs apart.1)

-- Numbers below a count that rise.
pub record IsRising (count : ℕ) (numbers : List ℕ) : Type 0 where
  pub each : AllByRecursion (λ number. number < count) numbers
  pub apart : Apart (λ a b. a < b) numbers

pub rising-filter : (p : ℕ → Bool) (count : ℕ) → IsRising count (filter p (numbers_below count))
rising-filter p count = record {
  each = filter-each p (λ number. number < count) (numbers_below count) (below-each (λ number. number < count) count (λ i less. less));
  apart = filter-apart p (λ a b. a < b) (numbers_below count) (below-apart (λ a b. a < b) count (λ i j less within. less));
}

pub rising-none : (count : ℕ) → IsRising count []
rising-none count = record { each = tt; apart = tt }

-- what stands apart by numbers that rise
pub rising-apart : (R : ℕ → ℕ → Type 0) (count : ℕ) → ((a b : ℕ) → a < b → b < count → R a b) → (numbers : List ℕ) → AllByRecursion (λ number. number < count) numbers → Apart (λ a b. a < b) numbers → Apart R numbers
rising-apart R count apart [] each rise = tt
rising-apart R count apart (x ∷ xs) each rise = (all xs each.1 rise.0, rising-apart R count apart xs each.1 rise.1)
  where
    all : (ys : List ℕ) → AllByRecursion (λ number. number < count) ys → AllByRecursion (λ b. x < b) ys → AllByRecursion (R x) ys
    all [] within more = tt
    all (y ∷ ys) within more = (apart x y more.0 within.0, all ys within.1 more.1)

-- ---- items by number

module _ {A : Type 0} (P : A → Type 0) where
  pub each-at : (xs : List A) (k : ℕ) (x : A) → AllByRecursion P xs → slice_get xs k ≡ Some x → P x
  each-at [] k x each at = cc
  each-at (y ∷ xs) zero x each at = let is : y ≡ x = cc in subst P is each.0
  each-at (y ∷ xs) (suc k) x each at = each-at xs k x each.1 at

  pub each-or : (d : A) → P d → (xs : List A) (k : ℕ) → AllByRecursion P xs → P (get_or xs k d)
  each-or d none [] k each = none
  each-or d none (x ∷ xs) zero each = each.0
  each-or d none (x ∷ xs) (suc k) each = each-or d none xs k each.1
