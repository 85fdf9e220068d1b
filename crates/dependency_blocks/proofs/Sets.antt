-- The order of sets of facts, and how many come before one.
use Rattle.std.proofs.Common.{ℕ, suc, ◌≡◌, ◌<◌, ◌≤◌, Bool, true, false, nat_lt, List, [], ◌∷◌, drop, length, map, slice_index_or, ⊎_elim, ap, ◌∙◌, sym, subst, refl, arith, length-drop}
use Rattle.std.proofs.lemmas.Bool.{false≢true, false_from_ne_true, lt-ltb, le-ltb, cases_lt}
use Rattle.std.proofs.lemmas.List.{drop_all, get_or-map}
use lib.ListN.{length-map}
use Rattle.fault_system.specs.Truth.{Has, member, count_true}
use Rattle.fault_system.proofs.Marks.{Below, Below-count, stay_or_grow}
use Rattle.fault_system.proofs.TruthLaws.{count_true-le}
use Rattle.dependency_blocks.specs.inner.Reach.{comes_before, rank_of}

-- ---- at the ends of sets

pub before-none : (xs : List Bool) → comes_before xs [] ≡ false
before-none [] = refl
before-none (x ∷ xs) = refl

none-before : (ys : List Bool) → comes_before [] ys ≡ nat_lt 0 (length ys)
none-before [] = refl
none-before (y ∷ ys) = sym (lt-ltb _ _ (omega arith))

same_test : (a b c d : ℕ) → (a < b → c < d) → (c < d → a < b) → nat_lt a b ≡ nat_lt c d
same_test a b c d f g = ⊎_elim (λ l. lt-ltb a b l ∙ sym (lt-ltb c d (f l))) (λ n. le-ltb a b n ∙ sym (le-ltb c d (⊎_elim (λ l. absurd (omega (arith, g l))) (λ m. m) (cases_lt c d)))) (cases_lt a b)

pub before-end : (xs ys : List Bool) (k : ℕ) → length xs ≡ k → k ≤ length ys → comes_before (drop k xs) (drop k ys) ≡ nat_lt (length xs) (length ys)
before-end xs ys k end fits =
    ap (λ zs. comes_before zs (drop k ys)) (drop_all k xs (omega (arith, end))) ∙ none-before (drop k ys)
    ∙ same_test 0 (length (drop k ys)) (length xs) (length ys) (λ l. omega (arith, length-drop k ys)) (λ l. omega (arith, length-drop k ys))

-- ---- the order of sets

pub before-same : (xs : List Bool) → comes_before xs xs ≡ false
before-same [] = refl
before-same (true ∷ xs) = before-same xs
before-same (false ∷ xs) = before-same xs

pub before-then : (xs ys zs : List Bool) → comes_before xs ys ≡ true → comes_before ys zs ≡ true → comes_before xs zs ≡ true
before-then [] [] zs e f = absurd (false≢true e)
before-then [] (y ∷ ys) [] e f = absurd (false≢true f)
before-then [] (y ∷ ys) (z ∷ zs) e f = refl
before-then (x ∷ xs) [] zs e f = absurd (false≢true e)
before-then (x ∷ xs) (y ∷ ys) [] e f = absurd (false≢true f)
before-then (true ∷ xs) (true ∷ ys) (true ∷ zs) e f = before-then xs ys zs e f
before-then (true ∷ xs) (true ∷ ys) (false ∷ zs) e f = absurd (false≢true f)
before-then (true ∷ xs) (false ∷ ys) (z ∷ zs) e f = absurd (false≢true e)
before-then (false ∷ xs) (true ∷ ys) (true ∷ zs) e f = refl
before-then (false ∷ xs) (true ∷ ys) (false ∷ zs) e f = absurd (false≢true f)
before-then (false ∷ xs) (false ∷ ys) (true ∷ zs) e f = refl
before-then (false ∷ xs) (false ∷ ys) (false ∷ zs) e f = before-then xs ys zs e f

pub before-neither : (xs ys : List Bool) → comes_before xs ys ≡ false → comes_before ys xs ≡ false → xs ≡ ys
before-neither [] [] e f = refl
before-neither [] (y ∷ ys) e f = absurd (false≢true (sym e))
before-neither (x ∷ xs) [] e f = absurd (false≢true (sym f))
before-neither (true ∷ xs) (true ∷ ys) e f = ap (λ zs. true ∷ zs) (before-neither xs ys e f)
before-neither (true ∷ xs) (false ∷ ys) e f = absurd (false≢true (sym f))
before-neither (false ∷ xs) (true ∷ ys) e f = absurd (false≢true (sym e))
before-neither (false ∷ xs) (false ∷ ys) e f = ap (λ zs. false ∷ zs) (before-neither xs ys e f)

-- a set does not come before one that is within it
pub before-within : (xs ys : List Bool) → length xs ≡ length ys → ((n : ℕ) → Has (member ys) n → Has (member xs) n) → comes_before xs ys ≡ false
before-within [] [] e h = refl
before-within [] (y ∷ ys) e h = absurd (omega (arith, e))
before-within (x ∷ xs) [] e h = refl
before-within (true ∷ xs) (true ∷ ys) e h = before-within xs ys (omega (arith, e)) (λ n. h (suc n))
before-within (true ∷ xs) (false ∷ ys) e h = refl
before-within (false ∷ xs) (true ∷ ys) e h = absurd (false≢true (h 0 refl))
before-within (false ∷ xs) (false ∷ ys) e h = before-within xs ys (omega (arith, e)) (λ n. h (suc n))

-- ---- how many come before one

module _ (sets : List (List Bool)) where
  below-map : (f g : List Bool → Bool) → ((x : List Bool) → f x ≡ true → g x ≡ true) → (xs : List (List Bool)) → Below (map f xs) (map g xs)
  below-map f g h [] = tt
  below-map f g h (x ∷ xs) = (h x, below-map f g h xs)

  -- one test passes less often than another that passes wherever it does, and at one place more
  less_often : (f g : List Bool → Bool) → ((x : List Bool) → f x ≡ true → g x ≡ true) → (k : ℕ) → k < length sets → f (slice_index_or sets k []) ≡ false → g (slice_index_or sets k []) ≡ true → count_true (map f sets) < count_true (map g sets)
  less_often f g h k fits lacks has = ⊎_elim
      (λ same. absurd (false≢true (sym lacks ∙ sym (at f) ∙ ap (λ bs. member bs k) same ∙ at g ∙ has)))
      (λ l. l)
      (stay_or_grow (map f sets) (map g sets) (below-map f g h sets))
    where
      at : (p : List Bool → Bool) → member (map p sets) k ≡ p (slice_index_or sets k [])
      at p = get_or-map p sets k [] false fits

  pub rank-less : (a b : List Bool) (k : ℕ) → k < length sets → slice_index_or sets k [] ≡ a → comes_before a b ≡ true → rank_of sets a < rank_of sets b
  rank-less a b k fits is before =
      less_often (λ x. comes_before x a) (λ x. comes_before x b) (λ x e. before-then x a b e before) k fits (ap (λ x. comes_before x a) is ∙ before-same a) (ap (λ x. comes_before x b) is ∙ before)

  pub rank-at_most : (a b : List Bool) → comes_before b a ≡ false → rank_of sets a ≤ rank_of sets b
  rank-at_most a b not_after =
      Below-count _ _ (below-map (λ x. comes_before x a) (λ x. comes_before x b) (λ x e. moved x e (comes_before a b) refl) sets)
    where
      moved : (x : List Bool) → comes_before x a ≡ true → (t : Bool) → comes_before a b ≡ t → comes_before x b ≡ true
      moved x e true f = before-then x a b e f
      moved x e false f = subst (λ z. comes_before x z ≡ true) (before-neither a b f not_after) e

  pub rank-small : (k : ℕ) → k < length sets → rank_of sets (slice_index_or sets k []) < length sets
  rank-small k fits =
      omega (arith, less_often (λ x. comes_before x (slice_index_or sets k [])) (λ x. true) (λ x e. refl) k fits (before-same (slice_index_or sets k [])) refl, count_true-le (map (λ x. true) sets), length-map sets (λ x. true))

  -- sets of one rank are the same
  pub rank-same : (a b : List Bool) (i k : ℕ) → i < length sets → k < length sets → slice_index_or sets i [] ≡ a → slice_index_or sets k [] ≡ b → rank_of sets a ≡ rank_of sets b → a ≡ b
  rank-same a b i k fits_i fits_k is_a is_b same =
      before-neither a b
      (false_from_ne_true _ (λ e. omega (arith, same, rank-less a b i fits_i is_a e)))
      (false_from_ne_true _ (λ e. omega (arith, same, rank-less b a k fits_k is_b e)))
