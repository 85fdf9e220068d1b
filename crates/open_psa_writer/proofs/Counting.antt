-- The auxiliary gates of a gate that counts: where they stand, and that they count.
use Rattle.std.proofs.Common.{ℕ, zero, suc, ◌+◌, ◌-◌, ◌≡◌, ◌<◌, ◌≤◌, ◌==◌, ◌&&◌, ◌||◌, Bool, true, false, if◌then◌else◌, List, [], ◌∷◌, ◌++◌, length, drop, map, slice_index_or, ⊎_elim, ap, ◌∙◌, sym, subst, refl, arith}
use Rattle.std.specs.List.{AllByRecursion, flat_map, range_with_len}
use Rattle.std.proofs.lemmas.Bool.{cases_lt, eqb-false, eqb-true, false≢true}
use Rattle.std.proofs.lemmas.Grind.{flat_map-append}
use Rattle.std.proofs.lemmas.List.{append-nil, append_assoc, flat_map_more}
use Rattle.std.proofs.lemmas.List.FromFn.{map-range_with_len_more}
use Rattle.round_gates.proofs.Basics.{all-append}

-- ---- ranges

range-more : (a n : ℕ) → range_with_len a (n + 1) ≡ range_with_len a n ++ (a + n) ∷ []
range-more a zero = let here : a ≡ a + 0 = omega arith in ap (λ k. k ∷ []) here
range-more a (suc n) =
    let count : suc n + 1 ≡ suc (n + 1) = omega arith in
    let last : a + 1 + n ≡ a + suc n = omega arith in
    ap (range_with_len a) count ∙ ap (λ t. a ∷ t) (range-more (a + 1) n ∙ ap (λ k. range_with_len (a + 1) n ++ k ∷ []) last)

-- one more of some texts
pub row-more : {X : Type 0} (text : X → List ℕ) (f : ℕ → X) (a n j : ℕ) (old : List ℕ) {now later : List ℕ} → a + n ≡ j
    → now ≡ old ++ flat_map text (map f (range_with_len a n)) → later ≡ now ++ text (f j) → later ≡ old ++ flat_map text (map f (range_with_len a (n + 1)))
row-more text f a n j old at e g =
    g ∙ ap (λ t. t ++ text (f j)) e ∙ flat_map_more text old (map f (range_with_len a n)) (f j)
    ∙ ap (λ xs. old ++ flat_map text xs) (sym (map-range_with_len_more f a n j at))

-- the texts of one row more
pub rows-more : {X : Type 0} (text : X → List ℕ) (row : ℕ → List X) (a n j : ℕ) (old : List ℕ) {now later : List ℕ} → a + n ≡ j
    → now ≡ old ++ flat_map text (flat_map row (range_with_len a n)) → later ≡ now ++ flat_map text (row j)
    → later ≡ old ++ flat_map text (flat_map row (range_with_len a (n + 1)))
rows-more text row a n j old at e g =
    let front = flat_map row (range_with_len a n) in
    g ∙ ap (λ t. t ++ flat_map text (row j)) e
    ∙ append_assoc old (flat_map text front) (flat_map text (row j))
    ∙ ap (λ t. old ++ t) (sym (flat_map-append text front (row j)))
    ∙ ap (λ xs. old ++ flat_map text xs)
    (ap (λ t. front ++ t) (sym (append-nil (row j)) ∙ ap (λ k. flat_map row (k ∷ [])) (sym at)) ∙ sym (flat_map-append row (range_with_len a n) ((a + n) ∷ [])) ∙ ap (flat_map row) (sym (range-more a n)))

-- ---- what holds of all of a row, and of all rows

pub all-front : {X : Type 0} (P : X → Type 0) (xs ys : List X) → AllByRecursion P (xs ++ ys) → AllByRecursion P xs
all-front P [] ys h = tt
all-front P (x ∷ xs) ys h = (h.0, all-front P xs ys h.1)

pub all-back : {X : Type 0} (P : X → Type 0) (xs ys : List X) → AllByRecursion P (xs ++ ys) → AllByRecursion P ys
all-back P [] ys h = h
all-back P (x ∷ xs) ys h = all-back P xs ys h.1

-- a number from `a` on is the first, or one of those behind it
first-or : {X : Type 0} (a k : ℕ) → a ≤ k → (a ≡ k → X) → (a + 1 ≤ k → X) → X
first-or a k from same later = ⊎_elim (λ (less : a < k). later (omega (arith, less))) (λ (most : k ≤ a). same (omega (arith, most, from))) (cases_lt a k)

module _ {X : Type 0} (P : X → Type 0) where
  pub to-map : (f : ℕ → X) (a n : ℕ) → ((k : ℕ) → a ≤ k → k < a + n → P (f k)) → AllByRecursion P (map f (range_with_len a n))
  to-map f a zero each = tt
  to-map f a (suc n) each = (each a (omega arith) (omega arith), to-map f (a + 1) n (λ k low high. each k (omega (arith, low)) (omega (arith, high))))

  pub from-map : (f : ℕ → X) (a n : ℕ) → AllByRecursion P (map f (range_with_len a n)) → (k : ℕ) → a ≤ k → k < a + n → P (f k)
  from-map f a zero all k low high = absurd (omega (arith, low, high))
  from-map f a (suc n) all k low high = first-or a k low (λ same. subst (λ m. P (f m)) same all.0) (λ later. from-map f (a + 1) n all.1 k later (omega (arith, high)))

  pub to-rows : (row : ℕ → List X) (a n : ℕ) → ((k : ℕ) → a ≤ k → k < a + n → AllByRecursion P (row k)) → AllByRecursion P (flat_map row (range_with_len a n))
  to-rows row a zero each = tt
  to-rows row a (suc n) each =
      all-append P (row a) (flat_map row (range_with_len (a + 1) n)) (each a (omega arith) (omega arith))
      (to-rows row (a + 1) n (λ k low high. each k (omega (arith, low)) (omega (arith, high))))

  pub from-rows : (row : ℕ → List X) (a n : ℕ) → AllByRecursion P (flat_map row (range_with_len a n)) → (k : ℕ) → a ≤ k → k < a + n → AllByRecursion P (row k)
  from-rows row a zero all k low high = absurd (omega (arith, low, high))
  from-rows row a (suc n) all k low high =
      first-or a k low (λ same. subst (λ m. AllByRecursion P (row m)) same (all-front P (row a) (flat_map row (range_with_len (a + 1) n)) all))
      (λ later. from-rows row (a + 1) n (all-back P (row a) (flat_map row (range_with_len (a + 1) n)) all) k later (omega (arith, high)))

-- ---- the first of the last inputs

-- what stands from a position on
pub drop-at : {X : Type 0} (xs : List X) (d : ℕ) (other : X) → d < length xs → drop d xs ≡ slice_index_or xs d other ∷ drop (suc d) xs
drop-at [] d other fits = absurd (omega arith)
drop-at (x ∷ xs) zero other fits = refl
drop-at (x ∷ xs) (suc d) other fits = drop-at xs d other (omega arith)

-- ---- what an auxiliary gate says

-- how many are true: one more where the first is
abbrev pub with_first : Bool → ℕ → ℕ
with_first first count = if first then count + 1 else count

-- whether an auxiliary gate is true: by its first input, and the auxiliary gates that ask for one less and for as many of the others
abbrev pub part_true : ℕ → ℕ → Bool → Bool → Bool → Bool
part_true needed among first less same =
    if among == 1 then first || false
    else if needed == 1 then first || (same || false)
    else if needed == among then first && (less && true)
    else (first && less) || same

-- it is true where at least so many are
pub counted-true : (needed among count : ℕ) (first less same : Bool) → 1 ≤ needed → needed ≤ among → count ≤ among - 1
    → (1 < needed → needed - 1 ≤ count → less ≡ true) → (needed < among → needed ≤ count → same ≡ true)
    → needed ≤ with_first first count → part_true needed among first less same ≡ true
counted-true needed among count true less same some inside few h g enough = by (among == 1) refl (needed == 1) refl (needed == among)
  where
    and-true : (b : Bool) → b ≡ true → b && true ≡ true
    and-true true e = refl
    and-true false e = e

    or-left : (b c : Bool) → b ≡ true → b || c ≡ true
    or-left true c e = refl
    or-left false c e = absurd (false≢true e)

    by : (b : Bool) → (among == 1) ≡ b → (c : Bool) → (needed == 1) ≡ c → (d : Bool)
        → (if b then true else if c then true else if d then less && true else less || same) ≡ true
    by true e c f d = refl
    by false e true f d = refl
    by false e false f true = and-true less (h (let other : needed ≡ 1 → ⊥ = eqb-false needed 1 f in first-or 1 needed some (λ one. absurd (other (sym one))) (λ more. omega (arith, more))) (omega (arith, enough)))
    by false e false f false = or-left less same (h (let other : needed ≡ 1 → ⊥ = eqb-false needed 1 f in first-or 1 needed some (λ one. absurd (other (sym one))) (λ more. omega (arith, more))) (omega (arith, enough)))
counted-true needed among count false less same some inside few h g enough = by (among == 1) refl (needed == 1) refl (needed == among) refl
  where
    or-nil : (b : Bool) → b ≡ true → b || false ≡ true
    or-nil true e = refl
    or-nil false e = e

    lower : needed < among
    lower = omega (arith, enough, few, some)

    by : (b : Bool) → (among == 1) ≡ b → (c : Bool) → (needed == 1) ≡ c → (d : Bool) → (needed == among) ≡ d
        → (if b then false else if c then same || false else if d then false else same) ≡ true
    by true e c f d i = let one : among ≡ 1 = eqb-true among 1 e in absurd (omega (arith, one, lower, some))
    by false e true f d i = or-nil same (g lower enough)
    by false e false f true i = let all : needed ≡ among = eqb-true needed among i in absurd (omega (arith, all, lower))
    by false e false f false i = g lower enough

-- where it is true, at least so many are
pub true-counted : (needed among count : ℕ) (first less same : Bool) → 1 ≤ needed → needed ≤ among
    → (1 < needed → less ≡ true → needed - 1 ≤ count) → (same ≡ true → needed ≤ count)
    → part_true needed among first less same ≡ true → needed ≤ with_first first count
true-counted needed among count true less same some inside h g says = by (among == 1) refl (needed == 1) refl (needed == among) says
  where
    and-left : (b : Bool) → b && true ≡ true → b ≡ true
    and-left true e = refl
    and-left false e = e

    either : (b c : Bool) → b || c ≡ true → (b ≡ true → needed ≤ count + 1) → (c ≡ true → needed ≤ count + 1) → needed ≤ count + 1
    either true c e p q = p refl
    either false c e p q = q e

    of-less : (needed == 1) ≡ false → less ≡ true → needed ≤ count + 1
    of-less f e =
        let other : needed ≡ 1 → ⊥ = eqb-false needed 1 f in
        first-or 1 needed some (λ one. absurd (other (sym one))) (λ more. let rest : needed - 1 ≤ count = h (omega (arith, more)) e in omega (arith, rest))

    by : (b : Bool) → (among == 1) ≡ b → (c : Bool) → (needed == 1) ≡ c → (d : Bool)
        → (if b then true else if c then true else if d then less && true else less || same) ≡ true → needed ≤ count + 1
    by true e c f d i = let one : among ≡ 1 = eqb-true among 1 e in omega (arith, one, inside)
    by false e true f d i = let one : needed ≡ 1 = eqb-true needed 1 f in omega (arith, one)
    by false e false f true i = of-less f (and-left less i)
    by false e false f false i = either less same i (of-less f) (λ also. let rest : needed ≤ count = g also in omega (arith, rest))
true-counted needed among count false less same some inside h g says = by (among == 1) (needed == 1) (needed == among) says
  where
    or-nil : (b : Bool) → b || false ≡ true → b ≡ true
    or-nil true e = refl
    or-nil false e = e

    by : (b c d : Bool) → (if b then false else if c then same || false else if d then false else same) ≡ true → needed ≤ count
    by true c d i = absurd (false≢true i)
    by false true d i = g (or-nil same i)
    by false false true i = absurd (false≢true i)
    by false false false i = g i
