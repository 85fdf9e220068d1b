-- Tables of places with one item more, and folds over what a function gives.
use Rattle.std.proofs.Common.{ℕ, ◌+◌, ◌≡◌, ◌≢◌, ◌<◌, Bool, true, false, Bor, cond, List, [], ◌∷◌, ◌++◌, fold, length, map, take, get_or, position, Option, Some, None, is_some, refl, sym, ap, ◌∙◌, subst, arith}
use Rattle.std.specs.Option.{option_or}
use Rattle.std.proofs.lemmas.Bool.{false≢true}
use Rattle.std.proofs.lemmas.List.{length-take-le, take_more}
use Rattle.std.specs.List.{list_any}
use Rattle.std.proofs.lemmas.List.Folds.{list_any_at}
use Rattle.std.proofs.lemmas.List.Quantifiers.{all_pairs_push}
use Rattle.std.proofs.lemmas.Slice.Eq.{bytes_eq-Decides}
use Rattle.plain_values.specs.Name.{is_same_text}
use Rattle.package_index.specs.inner.Tables.{Knows, same_text}
use Rattle.package_index.proofs.KnowsLaws.{more-place, some-place}
use Rattle.package_index.proofs.Loops.{fold-more}
use Rattle.propagation_points.specs.inner.Points.{NamesDiffer}
use Rattle.propagation_points.specs.inner.Tables.{KnowsNames, or_place}

or-cond : (o p : Option ℕ) → option_or o p ≡ cond (is_some o) o p
or-cond None p = refl
or-cond (Some n) p = refl

or-none : (o : Option ℕ) → option_or o None ≡ o
or-none None = refl
or-none (Some n) = refl

-- the place with one item more
or-more : {Item : Type 0} (p : Item → Bool) (items : List Item) (item : Item) → or_place (position p items) (p item) (length items) ≡ position p (items ++ item ∷ [])
or-more p items item =
    let next = cond (p item) (Some (length items)) None in
    or-cond (position p items) next ∙ ap (λ b. cond b (position p items) next) (some-place p items) ∙ sym (more-place p items item)

-- a table that knows items, with one item more
pub knows-or : {Key Item : Type 0} (has : Key → Item → Bool) (items : List Item) (item : Item) (old new : Key → Option ℕ) → Knows has items old → ((key : Key) → new key ≡ or_place (old key) (has key item) (length items)) → Knows has (items ++ item ∷ []) new
knows-or has items item old new knows more = λ key. more key ∙ ap (λ place. or_place place (has key item) (length items)) (knows key) ∙ or-more (has key) items item

-- the step of a loop that fills a table
pub knows-or-more : {Key Item : Type 0} (has : Key → Item → Bool) (items : List Item) (i : ℕ) (item : Item) (old new : Key → Option ℕ) → i < length items → item ≡ get_or items i item
    → Knows has (take i items) old → ((key : Key) → new key ≡ or_place (old key) (has key item) i) → Knows has (take (i + 1) items) new
knows-or-more {Key} has items i item old new within is knows more =
    let long : length (take i items) ≡ i = length-take-le i items (omega (arith, within)) in
    let next = knows-or has (take i items) item old new knows (subst (λ n. (key : Key) → new key ≡ or_place (old key) (has key item) n) (sym long) more) in
    subst (λ front. Knows has front new) (ap (λ x. take i items ++ x ∷ []) is ∙ sym (take_more items i item within)) next

-- a table of items by name, with one item of a new name
module _ {Item : Type 0} (name_of : Item → List ℕ) (items : List Item) (item : Item) (name : Bor (List ℕ)) (old : Bor (List ℕ) → Option ℕ) (is : name.now ≡ name_of item) (knows : KnowsNames name_of items old)
    (none : position (λ each. is_same_text (name_of each) (name_of item)) items ≡ None) where
  named-or : (key : Bor (List ℕ)) (b : Bool) → same_text name key ≡ b → cond b (Some (length items)) (old key) ≡ or_place (old key) b (length items)
  named-or key false apart = sym (or-none (old key))
  named-or key true same =
      let key_is : name_of item ≡ key.now = sym is ∙ (bytes_eq-Decides name.now key.now).0 same in
      let absent : old key ≡ None = knows.0 key ∙ ap (λ text. position (λ each. is_same_text (name_of each) text) items) (sym key_is) ∙ none in
      ap (λ o. option_or o (Some (length items))) (sym absent)

  differ-more : NamesDiffer name_of (items ++ item ∷ [])
  differ-more =
      let has = λ (each : Item). is_same_text (name_of each) (name_of item) in
      let absent : list_any has items ≡ false = sym (some-place has items) ∙ ap is_some none in
      all_pairs_push (λ a b. name_of a ≢ name_of b) items item knows.1
      (λ place default within same. false≢true (sym absent ∙ list_any_at has items place default within ((bytes_eq-Decides (name_of (get_or items place default)) (name_of item)).1 same)))

  pub named-more : (new : Bor (List ℕ) → Option ℕ) → ((key : Bor (List ℕ)) → new key ≡ cond (same_text name key) (Some (length items)) (old key)) → KnowsNames name_of (items ++ item ∷ []) new
  named-more new more = (
    knows-or (λ (key : Bor (List ℕ)) (each : Item). is_same_text (name_of each) key.now) items item old new knows.0
        (λ key. more key ∙ named-or key (same_text name key) refl ∙ ap (λ text. or_place (old key) (is_same_text text key.now) (length items)) is),
    differ-more,
  )

pub none-of : (o : Option ℕ) → is_some o ≡ false → o ≡ None
none-of None none = refl
none-of (Some n) none = absurd (false≢true (sym none))

-- ---- folds

fold-map : {A B C : Type 0} (h : C → B → C) (f : A → B) (start : C) (xs : List A) → fold h start (map f xs) ≡ fold (λ so_far x. h so_far (f x)) start xs
fold-map h f start [] = refl
fold-map h f start (x ∷ xs) = fold-map h f (h start (f x)) xs

-- a fold over what a function gives, with one item more
pub mapped-more : {A B C : Type 0} (h : C → B → C) (f : A → B) (start before after : C) (xs : List A) (i : ℕ) (x : A) → i < length xs → x ≡ get_or xs i x
    → before ≡ fold h start (map f (take i xs)) → after ≡ h before (f x) → after ≡ fold h start (map f (take (i + 1) xs))
mapped-more h f start before after xs i x within is had one =
    fold-more (λ so_far item. h so_far (f item)) start before after xs i x within is (had ∙ fold-map h f start (take i xs)) one ∙ sym (fold-map h f start (take (i + 1) xs))
