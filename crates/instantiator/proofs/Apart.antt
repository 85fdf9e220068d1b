-- Lists in which each item stands apart from all later ones.
use Rattle.std.proofs.Common.{suc, List, [], ◌∷◌, ◌++◌, map, flat_map, arith}
use Rattle.std.specs.List.{AllByRecursion, AllPairs}
use Rattle.std.proofs.lemmas.List.Elements.{All-from_recursion, recursion_from_All}
use Rattle.std.proofs.lemmas.List.Kept.{AllPairs-cons}

-- ---- each item

module _ {A : Type 0} (P : A → Type 0) where
  pub each-append : (xs ys : List A) → AllByRecursion P xs → AllByRecursion P ys → AllByRecursion P (xs ++ ys)
  each-append [] ys a b = b
  each-append (x ∷ xs) ys a b = (a.0, each-append xs ys a.1 b)

  pub each-map : {B : Type 0} (f : B → A) (xs : List B) → AllByRecursion (λ x. P (f x)) xs → AllByRecursion P (map f xs)
  each-map f [] a = tt
  each-map f (x ∷ xs) a = (a.0, each-map f xs a.1)

  pub each-unmap : {B : Type 0} (f : B → A) (xs : List B) → AllByRecursion P (map f xs) → AllByRecursion (λ x. P (f x)) xs
  each-unmap f [] a = tt
  each-unmap f (x ∷ xs) a = (a.0, each-unmap f xs a.1)

  pub each-flat_map : {B : Type 0} (f : B → List A) (xs : List B) → AllByRecursion (λ x. AllByRecursion P (f x)) xs → AllByRecursion P (flat_map f xs)
  each-flat_map f [] a = tt
  each-flat_map f (x ∷ xs) a = each-append (f x) (flat_map f xs) a.0 (each-flat_map f xs a.1)

  pub each-weaker : (Q : A → Type 0) → ((x : A) → P x → Q x) → (xs : List A) → AllByRecursion P xs → AllByRecursion Q xs
  each-weaker Q weaker [] a = tt
  each-weaker Q weaker (x ∷ xs) a = (weaker x a.0, each-weaker Q weaker xs a.1)

  pub each-all : ((x : A) → P x) → (xs : List A) → AllByRecursion P xs
  each-all all [] = tt
  each-all all (x ∷ xs) = (all x, each-all all xs)

-- what holds where two facts hold
each-both : {A : Type 0} (P Q S : A → Type 0) → ((x : A) → P x → Q x → S x) → (xs : List A) → AllByRecursion P xs → AllByRecursion Q xs → AllByRecursion S xs
each-both P Q S both [] a b = tt
each-both P Q S both (x ∷ xs) a b = (both x a.0 b.0, each-both P Q S both xs a.1 b.1)

-- ---- pairs

-- a relation holds of each item and each later one
abbrev pub Apart : {A : Type 0} → (A → A → Type 0) → List A → Type 0
Apart R [] = Unit {0}
Apart R (x ∷ xs) = AllByRecursion (R x) xs × Apart R xs

pub apart-append : {A : Type 0} (R : A → A → Type 0) (xs ys : List A) → Apart R xs → Apart R ys → AllByRecursion (λ x. AllByRecursion (R x) ys) xs → Apart R (xs ++ ys)
apart-append R [] ys a b between = b
apart-append R (x ∷ xs) ys a b between = (each-append (R x) xs ys a.0 between.0, apart-append R xs ys a.1 b between.1)

pub apart-map : {A B : Type 0} (R : A → A → Type 0) (f : B → A) (xs : List B) → Apart (λ x y. R (f x) (f y)) xs → Apart R (map f xs)
apart-map R f [] a = tt
apart-map R f (x ∷ xs) a = (each-map (R (f x)) f xs a.0, apart-map R f xs a.1)

pub apart-unmap : {A B : Type 0} (R : A → A → Type 0) (f : B → A) (xs : List B) → Apart R (map f xs) → Apart (λ x y. R (f x) (f y)) xs
apart-unmap R f [] a = tt
apart-unmap R f (x ∷ xs) a = (each-unmap (R (f x)) f xs a.0, apart-unmap R f xs a.1)

pub apart-weaker : {A : Type 0} (R S : A → A → Type 0) → ((x y : A) → R x y → S x y) → (xs : List A) → Apart R xs → Apart S xs
apart-weaker R S weaker [] a = tt
apart-weaker R S weaker (x ∷ xs) a = (each-weaker (R x) (S x) (weaker x) xs a.0, apart-weaker R S weaker xs a.1)

pub AllPairs-from_Apart : {A : Type 0} (R : A → A → Type 0) (xs : List A) → Apart R xs → AllPairs R xs
AllPairs-from_Apart R [] a = λ i j d before within. absurd (omega (arith, within))
AllPairs-from_Apart R (x ∷ xs) a = AllPairs-cons R x xs (All-from_recursion (R x) xs a.0) (AllPairs-from_Apart R xs a.1)

pub Apart-from_AllPairs : {A : Type 0} (R : A → A → Type 0) (xs : List A) → AllPairs R xs → Apart R xs
Apart-from_AllPairs R [] all = tt
Apart-from_AllPairs R (x ∷ xs) all = (
  recursion_from_All (R x) xs (λ k d within. all 0 (suc k) d (omega arith) (omega (arith, within))),
  Apart-from_AllPairs R xs (λ i j d less within. all (suc i) (suc j) d (omega (arith, less)) (omega (arith, within))),
)

module _ {A B : Type 0} (R : A → A → Type 0) (f : B → List A) where
  -- all of these stand apart from what the items give
  swapped : (front : List A) (xs : List B) → AllByRecursion (λ y. AllByRecursion (λ a. AllByRecursion (R a) (f y)) front) xs → AllByRecursion (λ a. AllByRecursion (R a) (flat_map f xs)) front
  swapped front [] each = each-all (λ a. AllByRecursion (R a) []) (λ a. tt) front
  swapped front (y ∷ ys) each =
      each-both (λ a. AllByRecursion (R a) (f y)) (λ a. AllByRecursion (R a) (flat_map f ys)) (λ a. AllByRecursion (R a) (flat_map f (y ∷ ys)))
      (λ a here later. each-append (R a) (f y) (flat_map f ys) here later) front each.0 (swapped front ys each.1)

  -- what is given by items that stand apart
  pub apart-flat_map : (S : B → B → Type 0) → ((x y : B) → S x y → AllByRecursion (λ a. AllByRecursion (R a) (f y)) (f x)) → (xs : List B) → Apart S xs → AllByRecursion (λ x. Apart R (f x)) xs → Apart R (flat_map f xs)
  apart-flat_map S between [] s each = tt
  apart-flat_map S between (x ∷ xs) s each =
      apart-append R (f x) (flat_map f xs) each.0 (apart-flat_map S between xs s.1 each.1)
      (swapped (f x) xs (each-weaker (S x) (λ y. AllByRecursion (λ a. AllByRecursion (R a) (f y)) (f x)) (between x) xs s.0))
