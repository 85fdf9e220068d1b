-- A table of names: which names it has, and their places.
use Rattle.std.proofs.Common.{ℕ, ◌+◌, ◌≡◌, ◌≢◌, ◌<◌, Bool, true, false, ◌||◌, not, cond, nat_eq, nat_lt, List, [], ◌∷◌, ◌++◌, length, map, take, slice_index_or, Some, None, Bor, All, position, ap, ◌∙◌, sym, refl}
use Rattle.std.specs.List.{list_any, position_or_len}
use Rattle.std.specs.Cmp.Lexicographic.{pointwise}
use Rattle.std.proofs.lemmas.Bool.{false≢true, false_from_ne_true}
use Rattle.std.proofs.lemmas.Cmp.{nat_list_eq_equiv}
use Rattle.std.proofs.lemmas.List.{map-append, take_more}
use Rattle.std.proofs.lemmas.List.Folds.{list_any_at, list_any_none}
use Rattle.std.proofs.lemmas.Slice.Eq.{bytes_eq-Decides}
use lib.ListN.{length-map}
use Rattle.plain_values.specs.Name.{is_same_text}

any-map : {A B : Type 0} (f : A → B) (p : B → Bool) (xs : List A) → list_any p (map f xs) ≡ list_any (λ x. p (f x)) xs
any-map f p [] = refl
any-map f p (x ∷ xs) = ap (λ b. p (f x) || b) (any-map f p xs)

abbrev pub shown : List (Bor (List ℕ)) → List (List ℕ)
shown keys = map (λ key. key.now) keys

-- whether the keys that stand for the names of some items have a name
abbrev pub has_key : List (Bor (List ℕ)) → List ℕ → Bool
has_key keys name = list_any (λ key. pointwise nat_eq name key.now) keys

module _ {X : Type 0} (f : X → List ℕ) (name : List ℕ) where
  has-name : (keys : List (Bor (List ℕ))) (xs : List X) → shown keys ≡ map f xs → has_key keys name ≡ list_any (λ x. pointwise nat_eq name (f x)) xs
  has-name keys xs named = sym (any-map (λ (key : Bor (List ℕ)). key.now) (pointwise nat_eq name) keys) ∙ ap (list_any (pointwise nat_eq name)) named ∙ any-map f (pointwise nat_eq name) xs

  -- a key that is not there is the name of none
  pub is-new : (keys : List (Bor (List ℕ))) (xs : List X) → shown keys ≡ map f xs → has_key keys name ≡ false → All (λ x. f x ≢ name) xs
  is-new keys xs named none k d fits same =
      false≢true (sym none ∙ has-name keys xs named ∙ list_any_at (λ x. pointwise nat_eq name (f x)) xs k d fits ((bytes_eq-Decides name (f (slice_index_or xs k d))).1 (sym same)))

  -- a key that is there is the name of one
  pub is-old : (keys : List (Bor (List ℕ))) (xs : List X) → shown keys ≡ map f xs → has_key keys name ≡ true → All (λ x. f x ≢ name) xs → ⊥
  is-old keys xs named some differ =
      false≢true (sym (list_any_none (λ x. pointwise nat_eq name (f x)) xs (λ k d fits. false_from_ne_true _ (λ same. differ k d fits (sym ((bytes_eq-Decides name (f (slice_index_or xs k d))).0 same))))) ∙ sym (has-name keys xs named) ∙ some)

pub is_true : (new has : Bool) → new ≡ not has → new ≡ false → has ≡ true
is_true new true e f = refl
is_true new false e f = absurd (false≢true (sym f ∙ e))

pub is_false : (new has : Bool) → new ≡ not has → new ≡ true → has ≡ false
is_false new true e f = absurd (false≢true (sym e ∙ f))
is_false new false e f = refl

not_taken : {A : Type 0} (b : Bool) (a c d : A) → b ≡ false → d ≡ cond b a c → d ≡ c
not_taken false a c d e f = f
not_taken true a c d e f = absurd (false≢true (sym e))

-- a new key stands behind the others
pub named-next : {X : Type 0} (f : X → List ℕ) (items : List X) (i : ℕ) (x : X) (key : Bor (List ℕ)) (old new : List (Bor (List ℕ))) → i < length items → x ≡ slice_index_or items i x → key.now ≡ f x → shown old ≡ map f (take i items) → has_key old key.now ≡ false → new ≡ cond (has_key old key.now) old (old ++ key ∷ []) → shown new ≡ map f (take (i + 1) items)
named-next f items i x key old new fits is named so_far none made =
    ap shown (not_taken (has_key old key.now) old (old ++ key ∷ []) new none made) ∙ map-append (λ (key : Bor (List ℕ)). key.now) old (key ∷ [])
    ∙ ap (λ names. names ++ key.now ∷ []) so_far ∙ ap (λ name. map f (take i items) ++ name ∷ []) (named ∙ ap f is) ∙ sym (map-append f (take i items) (slice_index_or items i x ∷ []))
    ∙ ap (map f) (sym (take_more items i x fits))

-- the place of a key is that of its name
module _ (name : List ℕ) where
  place-keys : (keys : List (Bor (List ℕ))) → position_or_len (λ (key : Bor (List ℕ)). pointwise nat_eq name key.now) keys ≡ position_or_len (λ other. is_same_text other name) (shown keys)
  place-keys [] = refl
  place-keys (key ∷ keys) =
      ap (λ b. cond (not b) (1 + position_or_len (λ (key : Bor (List ℕ)). pointwise nat_eq name key.now) keys) 0) (nat_list_eq_equiv.symm name key.now)
      ∙ ap (λ n. cond (not (is_same_text key.now name)) (1 + n) 0) (place-keys keys)

  pub position-keys : (keys : List (Bor (List ℕ))) → position (λ (key : Bor (List ℕ)). pointwise nat_eq name key.now) keys ≡ position (λ other. is_same_text other name) (shown keys)
  position-keys keys =
      ap (λ n. cond (nat_lt n (length keys)) (Some n) None) (place-keys keys)
      ∙ ap (λ m. cond (nat_lt (position_or_len (λ other. is_same_text other name) (shown keys)) m) (Some (position_or_len (λ other. is_same_text other name) (shown keys))) None) (sym (length-map keys (λ (key : Bor (List ℕ)). key.now)))
