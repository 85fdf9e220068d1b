-- Places in lists, and what a list of refusals begins with.
use Rattle.std.proofs.Common.{ℕ, suc, ◌+◌, ◌≡◌, ◌<◌, Bool, true, false, cond, List, [], ◌∷◌, ◌++◌, length, get_or, position, slice_get, Option, Some, None, is_some, refl, sym, ap, ◌∙◌, add-one, drop, drop-cons, length-append, arith}
use Rattle.std.specs.List.{list_any}
use Rattle.std.proofs.lemmas.Bool.{false≢true}
use Rattle.std.proofs.lemmas.List.Quantifiers.{position-Some}
use Rattle.std.proofs.lemmas.Option.{slice_get-get_or}
use Rattle.std.proofs.Math.Seq.{get_or-append_seam}
use Rattle.package_index.proofs.KnowsLaws.{more-place, some-place}

pub none-of : {A : Type 0} (o : Option A) → is_some o ≡ false → o ≡ None
none-of None none = refl
none-of (Some a) none = absurd (false≢true (sym none))

module _ {Item : Type 0} (p : Item → Bool) (items : List Item) where
  -- the place with one item more, of which there is one only where no item before it passes
  pub place-new : (item : Item) (before : Option ℕ) (b : Bool) → p item ≡ b → before ≡ position p items → (b ≡ true → before ≡ None) → cond b (Some (length items)) before ≡ position p (items ++ item ∷ [])
  place-new item before true passes is none =
      sym
      (
      more-place p items item ∙ ap (λ b. cond (list_any p items) (position p items) (cond b (Some (length items)) None)) passes
      ∙ ap (λ b. cond b (position p items) (Some (length items))) (sym (some-place p items) ∙ ap is_some (sym is ∙ none refl))
      )
  place-new item before false passes is none =
      is ∙ sym (more-place p items item ∙ ap (λ b. cond (list_any p items) (position p items) (cond b (Some (length items)) None)) passes ∙ kept (list_any p items) refl)
    where
      kept : (b : Bool) → list_any p items ≡ b → cond b (position p items) None ≡ position p items
      kept true is = refl
      kept false is = sym (none-of (position p items) (some-place p items ∙ is))

  -- what has a place stands there and passes
  pub place-there : (place : ℕ) (d : Item) → position p items ≡ Some place → slice_get items place ≡ Some (get_or items place d)
  place-there place d is = slice_get-get_or items place d (position-Some p items place d is).0

-- the item that is put last
pub get-last : {A : Type 0} (items : List A) (item : A) → slice_get (items ++ item ∷ []) (length items) ≡ Some item
get-last items item =
    let within : length items < length (items ++ item ∷ []) = omega (arith, length-append items (item ∷ [])) in
    slice_get-get_or (items ++ item ∷ []) (length items) item within ∙ ap Some (get_or-append_seam items item [] item)

-- what is left of a list, from an item on
pub rest-less : {A : Type 0} (xs : List A) (i : ℕ) (x : A) → i < length xs → x ≡ get_or xs i x → drop i xs ≡ x ∷ drop (i + 1) xs
rest-less xs i x within is = drop-cons xs i x within ∙ ap (λ t. t ∷ drop (suc i) xs) (sym is) ∙ ap (λ n. x ∷ drop n xs) (sym (add-one i))
