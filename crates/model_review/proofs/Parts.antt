-- What is so of each part of a list that is made of parts.
use Rattle.std.proofs.Common.{ℕ, zero, suc, ◌+◌, ◌≡◌, ◌<◌, Bool, true, false, cond, not, ◌||◌, List, [], ◌∷◌, ◌++◌, filter, flat_map, length, map, position, get_or, slice_get, Some, None, ◌⊎◌, inl, inr, ⊎_elim, ap, ◌∙◌, sym, refl, subst, arith}
use Rattle.std.specs.List.{list_any, position_or_len}
use Rattle.std.proofs.lemmas.Bool.{cases_Bool, false≢true, lt-ltb, or_parts}
use Rattle.std.proofs.lemmas.List.Folds.{list_any-append}
use Rattle.std.proofs.lemmas.List.Quantifiers.{position-Some}
use Rattle.std.proofs.lemmas.Option.{none-some, same_Some, slice_get-get_or}
use Rattle.plain_values.specs.Numbered.{numbered_from}
use Rattle.fault_system.proofs.Elements.{In, In-append, In-filtered}

-- ---- where nothing is given

front-none : {Row : Type 0} (xs ys : List Row) → xs ++ ys ≡ [] → xs ≡ []
front-none [] ys none = refl
front-none (x ∷ xs) ys none = absurd (cc)

back-none : {Row : Type 0} (xs ys : List Row) → xs ++ ys ≡ [] → ys ≡ []
back-none [] ys none = none
back-none (x ∷ xs) ys none = absurd (cc)

module _ {Part Row : Type 0} (give : ℕ → Part → List Row) where
  -- where numbered parts give nothing, each of them gives nothing
  pub part-none : (k : ℕ) (parts : List Part) → numbered_from give k parts ≡ [] → (n i : ℕ) (part : Part) → n ≡ k + i → slice_get parts i ≡ Some part → give n part ≡ []
  part-none k [] none n i part is at = absurd (none-some part at)
  part-none k (x ∷ parts) none n zero part is at =
      let here : n ≡ k = omega (arith, is) in
      let same : part ≡ x = sym (same_Some x part at) in
      (λ i. give (here i) (same i)) ∙ front-none (give k x) (numbered_from give (k + 1) parts) none
  part-none k (x ∷ parts) none n (suc i) part is at =
      part-none (k + 1) parts (back-none (give k x) (numbered_from give (k + 1) parts) none) n i part (omega (arith, is)) at

  -- what numbered parts give is given by one of them
  pub part-of : (row : Row) (k : ℕ) (parts : List Part) → In row (numbered_from give k parts) → (n : ℕ) × (i : ℕ) × (part : Part) × (n ≡ k + i) × (slice_get parts i ≡ Some part) × In row (give n part)
  part-of row k [] i = absurd i
  part-of row k (x ∷ parts) i = ⊎_elim
      (λ here. let is : k ≡ k + 0 = omega arith in (k, 0, x, is, refl, here))
      (λ later.
      let (n, j, part, is, at, given) = part-of row (k + 1) parts later in
      let past : n ≡ k + suc j = omega (arith, is) in
      (n, suc j, part, past, at, given))
      (In-append row (give k x) (numbered_from give (k + 1) parts) i)

module _ {Part Row : Type 0} (give : Part → List Row) where
  -- where some parts give nothing, each of them gives nothing
  pub each-none : (parts : List Part) → flat_map give parts ≡ [] → (part : Part) → In part parts → give part ≡ []
  each-none [] none part i = absurd i
  each-none (x ∷ parts) none part i = ⊎_elim
      (λ same. sym (ap give same) ∙ front-none (give x) (flat_map give parts) none)
      (λ later. each-none parts (back-none (give x) (flat_map give parts) none) part later) i

  -- what some parts give is given by one of them
  pub given-by : (row : Row) (parts : List Part) → In row (flat_map give parts) → (part : Part) × In part parts × In row (give part)
  given-by row [] i = absurd i
  given-by row (x ∷ parts) i = ⊎_elim
      (λ here. (x, inl refl, here))
      (λ later. let (part, among, given) = given-by row parts later in (part, inr among, given))
      (In-append row (give x) (flat_map give parts) i)

  -- a test passes at what they give where it passes at what one of them gives
  pub any-given : (test : Row → Bool) (parts : List Part) → list_any test (flat_map give parts) ≡ list_any (λ part. list_any test (give part)) parts
  any-given test [] = refl
  any-given test (x ∷ parts) = list_any-append test (give x) (flat_map give parts) ∙ ap (λ b. list_any test (give x) || b) (any-given test parts)

module _ {X : Type 0} (test : X → Bool) where
  -- where no item passes a test, it fails at each
  pub none-pass : (xs : List X) → filter test xs ≡ [] → (x : X) → In x xs → test x ≡ false
  none-pass xs none x i = ⊎_elim
      (λ so. absurd (subst (In x) none (In-filtered test x xs so i)))
      (λ fails. fails)
      (cases_Bool (test x))

  pub any-none : (xs : List X) → list_any test xs ≡ false → (x : X) → In x xs → test x ≡ false
  any-none [] none x i = absurd i
  any-none (y ∷ xs) none x i =
      let both = or_parts (test y) (list_any test xs) none in
      ⊎_elim (λ same. sym (ap test same) ∙ both.0) (λ later. any-none xs both.1 x later) i

  pub any-map : {Y : Type 0} (f : Y → X) (ys : List Y) → list_any test (map f ys) ≡ list_any (λ y. test (f y)) ys
  any-map f [] = refl
  any-map f (y ∷ ys) = ap (λ b. test (f y) || b) (any-map f ys)

  within : (xs : List X) (x : X) → In x xs → test x ≡ true → position_or_len test xs < length xs
  within [] x i so = absurd i
  within (y ∷ xs) x i so = by (test y) refl (λ later. within xs x later so) i
    where
      by : (b : Bool) → test y ≡ b → (In x xs → position_or_len test xs < length xs) → ((y ≡ x) ⊎ In x xs) → cond (not b) (1 + position_or_len test xs) 0 < length (y ∷ xs)
      by true is rest place = omega arith
      by false is rest place = ⊎_elim
          (λ same. absurd (false≢true (sym is ∙ ap test same ∙ so)))
          (λ later. omega (arith, rest later))
          place

  -- where an item passes a test, there is a first one
  pub first-there : (xs : List X) (x : X) → In x xs → test x ≡ true → (n : ℕ) × (y : X) × (position test xs ≡ Some n) × (slice_get xs n ≡ Some y) × (test y ≡ true)
  first-there xs x i so =
      let low : position_or_len test xs < length xs = within xs x i so in
      let found : position test xs ≡ Some (position_or_len test xs) = ap (λ b. cond b (Some (position_or_len test xs)) None) (lt-ltb (position_or_len test xs) (length xs) low) in
      let first = position-Some test xs (position_or_len test xs) x found in
      (position_or_len test xs, get_or xs (position_or_len test xs) x, found, slice_get-get_or xs (position_or_len test xs) x low, first.1)

-- ---- members

-- an item at a place is a member
pub at-in : {X : Type 0} (xs : List X) (n : ℕ) (x : X) → slice_get xs n ≡ Some x → In x xs
at-in [] n x at = absurd (none-some x at)
at-in (y ∷ xs) zero x at = inl (same_Some y x at)
at-in (y ∷ xs) (suc n) x at = inr (at-in xs n x at)

-- what is a member under a condition
pub in-cond : {X : Type 0} (b : Bool) (x : X) (xs : List X) → In x (cond b xs []) → (b ≡ true) × In x xs
in-cond true x xs i = (refl, i)
in-cond false x xs i = absurd i
