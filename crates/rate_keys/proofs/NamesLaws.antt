-- Names that are events, one by one.
use Rattle.std.proofs.Common.{ℕ, ◌≡◌, ◌<◌, ◌+◌, Bool, true, false, ◌||◌, cond, List, [], ◌∷◌, ◌++◌, length, take, get_or, map, refl, sym, ap, ◌∙◌}
use Rattle.std.specs.List.{list_any}
use Rattle.std.proofs.lemmas.List.{map-append, take_more}
use Rattle.std.proofs.lemmas.List.Folds.{list_any_at, list_any-append}
use denote.Ref.{Bor}
use Rattle.plain_values.specs.Name.{is_same_text}
use Rattle.package_index.specs.inner.Tables.{same_text}
use Rattle.rate_keys.specs.inner.Found.{KnowsNames}

-- an item more
pub front-more : {A : Type 0} (xs : List A) (i : ℕ) (x : A) → i < length xs → x ≡ get_or xs i x → take (i + 1) xs ≡ take i xs ++ x ∷ []
front-more xs i x within is = take_more xs i x within ∙ ap (λ y. take i xs ++ y ∷ []) (sym is)

-- ---- one of the parts of a condition

any-parts : {A : Type 0} (p : A → Bool) (xs : List A) → list_any (λ part. part) (map p xs) ≡ list_any p xs
any-parts p [] = refl
any-parts p (x ∷ xs) = ap (λ b. p x || b) (any-parts p xs)

pub any-at : {A : Type 0} (p : A → Bool) (xs : List A) (i : ℕ) (x : A) → i < length xs → x ≡ get_or xs i x → p x ≡ true → list_any (λ part. part) (map p xs) ≡ true
any-at p xs i x within is passes = any-parts p xs ∙ list_any_at p xs i x within (ap p (sym is) ∙ passes)

-- ---- a name more in a set

one-more : (b had : Bool) → cond b true had ≡ (had || (b || false))
one-more true true = refl
one-more true false = refl
one-more false true = refl
one-more false false = refl

pub names-more : (all : List (Bor (List ℕ))) (i : ℕ) (name key : Bor (List ℕ)) → i < length all → name ≡ get_or all i name → key.now ≡ name.now → (old new : Bor (List ℕ) → Bool)
    → KnowsNames (map (λ one. one.now) (take i all)) old → ((word : Bor (List ℕ)) → new word ≡ cond (same_text key word) true (old word)) → KnowsNames (map (λ one. one.now) (take (i + 1) all)) new
names-more all i name key within is keyed old new knows put = λ word.
    let before = map (λ (one : Bor (List ℕ)). one.now) (take i all) in
    let same : List ℕ → Bool = λ event. is_same_text event word.now in
    put word ∙ ap (λ text. cond (is_same_text text word.now) true (old word)) keyed ∙ one-more (same name.now) (old word) ∙ ap (λ b. b || (same name.now || false)) (knows word)
    ∙ sym (list_any-append same before (name.now ∷ [])) ∙ ap (list_any same) (sym (ap (map (λ (one : Bor (List ℕ)). one.now)) (front-more all i name within is) ∙ map-append (λ (one : Bor (List ℕ)). one.now) (take i all) (name ∷ [])))
