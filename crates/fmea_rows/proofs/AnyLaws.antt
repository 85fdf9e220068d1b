-- Whether one of many is true, looked at from any of them on.
use Rattle.std.proofs.Common.{ℕ, zero, suc, ◌-◌, ◌≡◌, ◌≤◌, ◌<◌, Bool, true, false, ◌||◌, List, [], ◌∷◌, length, map, take, drop, ⊎_elim, ap, ◌∙◌, sym, refl, arith, length-drop, slice_range}
use Rattle.std.specs.List.{list_any, slice_index_or}
use Rattle.std.proofs.lemmas.List.{take_all}
use Rattle.std.proofs.lemmas.Bool.{false≢true, or_cases, or_left, or_right}

any-at : {X : Type 0} (f : X → Bool) (xs : List X) (i : ℕ) (x : X) → i < length xs → x ≡ slice_index_or xs i x → f x ≡ true → list_any (λ b. b) (map f xs) ≡ true
any-at f [] i x h e t = absurd (omega arith)
any-at f (y ∷ ys) zero x h e t = or_left (f y) _ (sym (ap f e) ∙ t)
any-at f (y ∷ ys) (suc i) x h e t = or_right (f y) _ (any-at f ys i x (omega arith) e t)

any-drop : {X : Type 0} (f : X → Bool) (k : ℕ) (xs : List X) → list_any (λ b. b) (map f (drop k xs)) ≡ true → list_any (λ b. b) (map f xs) ≡ true
any-drop f zero [] e = e
any-drop f zero (x ∷ xs) e = e
any-drop f (suc k) [] e = e
any-drop f (suc k) (x ∷ xs) e = or_right (f x) _ (any-drop f k xs e)

any-take : {X : Type 0} (f : X → Bool) (k : ℕ) (xs : List X) → list_any (λ b. b) (map f (take k xs)) ≡ true → list_any (λ b. b) (map f xs) ≡ true
any-take f zero [] e = e
any-take f zero (x ∷ xs) e = absurd (false≢true e)
any-take f (suc k) [] e = e
any-take f (suc k) (x ∷ xs) e = ⊎_elim (λ here. or_left (f x) _ here) (λ there. or_right (f x) _ (any-take f k xs there)) (or_cases (f x) _ e)

-- one of a range is true
pub any-within : {X : Type 0} (f : X → Bool) (from to : ℕ) (xs : List X) (i : ℕ) (x : X) → i < length (slice_range xs from to) → x ≡ slice_index_or (slice_range xs from to) i x → f x ≡ true → list_any (λ b. b) (map f xs) ≡ true
any-within f from to xs i x h e t = any-drop f from xs (any-take f (to - from) (drop from xs) (any-at f (slice_range xs from to) i x h e t))

-- one before a place is true
pub any-before : {X : Type 0} (f : X → Bool) (to : ℕ) (xs : List X) (i : ℕ) (x : X) → i < length (take to xs) → x ≡ slice_index_or (take to xs) i x → f x ≡ true → list_any (λ b. b) (map f xs) ≡ true
any-before f to xs i x h e t = any-take f to xs (any-at f (take to xs) i x h e t)

-- none of the first is true, and these are all
pub none-first : {X : Type 0} (f : X → Bool) (xs : List X) (i : ℕ) → length xs ≤ i → list_any (λ b. b) (map f (take i xs)) ≡ false → list_any (λ b. b) (map f xs) ≡ false
none-first f xs i all none = ap (λ ys. list_any (λ b. b) (map f ys)) (sym (take_all i xs all)) ∙ none

or_parts : (a b : Bool) → a || b ≡ false → (a ≡ false) × (b ≡ false)
or_parts true b e = absurd (false≢true (sym e))
or_parts false b e = (refl, e)

or_none : (a b : Bool) → a ≡ false → b ≡ false → a || b ≡ false
or_none true b h g = h
or_none false b h g = g

none-parts : {X : Type 0} (f : X → Bool) (k : ℕ) (xs : List X) → list_any (λ b. b) (map f (drop k xs)) ≡ false → list_any (λ b. b) (map f (take k xs)) ≡ false → list_any (λ b. b) (map f xs) ≡ false
none-parts f zero [] after before = after
none-parts f zero (x ∷ xs) after before = after
none-parts f (suc k) [] after before = after
none-parts f (suc k) (x ∷ xs) after before =
    let parts = or_parts (f x) _ before in or_none (f x) _ parts.0 (none-parts f k xs after parts.1)

-- none is true, from a place on and before it
pub none-within : {X : Type 0} (f : X → Bool) (k : ℕ) (xs : List X) → list_any (λ b. b) (map f (slice_range xs k (length xs))) ≡ false → list_any (λ b. b) (map f (take k xs)) ≡ false → list_any (λ b. b) (map f xs) ≡ false
none-within f k xs after before =
    let most : length (drop k xs) ≤ length xs - k = omega (arith, length-drop k xs) in
    none-parts f k xs (ap (λ ys. list_any (λ b. b) (map f ys)) (sym (take_all (length xs - k) (drop k xs) most)) ∙ after) before
