-- Steps of loops over lists: what they gather, and what they note.
use Rattle.std.proofs.Common.{ℕ, suc, ◌+◌, ◌≡◌, ◌<◌, ◌≤◌, Bool, true, false, ◌||◌, List, [], ◌∷◌, ◌++◌, length, take, drop, get_or, flat_map, fold, filter, Option, refl, sym, ap, ◌∙◌, add-one, drop-cons, arith}
use Rattle.std.specs.List.{list_any}
use Rattle.std.proofs.lemmas.List.{append-nil, append_assoc, drop_all, length-take-le, take_all, take_more}
use Rattle.std.proofs.lemmas.List.Elements.{filter-append}
use Rattle.std.proofs.lemmas.List.Folds.{list_any-append}
use Rattle.std.proofs.lemmas.Grind.{flat_map-append, fold-append}
use Rattle.plain_values.specs.declared.refusal.Refusal.{Refusal}
use Rattle.plain_values.specs.Order.{least, nearer}
use Rattle.plain_values.proofs.OrderLaws.{nearer-none, noted-more}
use Rattle.plain_values.specs.Numbered.{numbered_from}

or-none : (b : Bool) → (b || false) ≡ b
or-none true = refl
or-none false = refl

-- ---- an item more

module _ {A : Type 0} (xs : List A) (i : ℕ) (x : A) (within : i < length xs) (is : x ≡ get_or xs i x) where
  front-more : take (i + 1) xs ≡ take i xs ++ x ∷ []
  front-more = take_more xs i x within ∙ ap (λ y. take i xs ++ y ∷ []) (sym is)

  rest-less : drop i xs ≡ x ∷ drop (i + 1) xs
  rest-less = drop-cons xs i x within ∙ ap (λ t. t ∷ drop (suc i) xs) (sym is) ∙ ap (λ n. x ∷ drop n xs) (sym (add-one i))

  -- what the items give, one after the other
  pub gathered-more : {B : Type 0} (f : A → List B) (base before after : List B) → before ≡ base ++ flat_map f (take i xs) → after ≡ before ++ f x → after ≡ base ++ flat_map f (take (i + 1) xs)
  gathered-more f base before after had one =
      one ∙ ap (λ front. front ++ f x) had ∙ append_assoc base (flat_map f (take i xs)) (f x)
      ∙ ap (λ more. base ++ (flat_map f (take i xs) ++ more)) (sym (append-nil (f x)))
      ∙ ap (λ all. base ++ all) (sym (ap (flat_map f) front-more ∙ flat_map-append f (take i xs) (x ∷ [])))

  -- the refusals of the items that are left
  pub noting-more : (f : A → List Refusal) (first next goal : Option Refusal) → next ≡ nearer first (least (f x)) → nearer first (least (flat_map f (drop i xs))) ≡ goal → nearer next (least (flat_map f (drop (i + 1) xs))) ≡ goal
  noting-more f first next goal noted before =
      noted-more first next (f x) (flat_map f (drop (i + 1) xs)) noted ∙ ap (λ left. nearer first (least (flat_map f left))) (sym rest-less) ∙ before

  -- whether one of the items passes
  pub any-more : (p : A → Bool) → list_any p (take (i + 1) xs) ≡ (list_any p (take i xs) || p x)
  any-more p = ap (list_any p) front-more ∙ list_any-append p (take i xs) (x ∷ []) ∙ ap (λ b. list_any p (take i xs) || b) (or-none (p x))

  -- a fold over the items that pass
  pub folded-more : {B : Type 0} (h : B → A → B) (p : A → Bool) (start : B) → fold h start (filter p (take (i + 1) xs)) ≡ fold h (fold h start (filter p (take i xs))) (filter p (x ∷ []))
  folded-more h p start = ap (λ items. fold h start (filter p items)) front-more ∙ ap (fold h start) (filter-append p (take i xs) (x ∷ [])) ∙ fold-append h start (filter p (take i xs)) (filter p (x ∷ []))

pub gathered-end : {A B : Type 0} (xs : List A) (i : ℕ) (f : A → List B) (base all : List B) → length xs ≤ i → all ≡ base ++ flat_map f (take i xs) → all ≡ base ++ flat_map f xs
gathered-end xs i f base all past had = had ∙ ap (λ items. base ++ flat_map f items) (take_all i xs past)

pub noting-end : {A : Type 0} (xs : List A) (i : ℕ) (f : A → List Refusal) (first goal : Option Refusal) → length xs ≤ i → nearer first (least (flat_map f (drop i xs))) ≡ goal → first ≡ goal
noting-end xs i f first goal past noted = sym (nearer-none first) ∙ ap (λ left. nearer first (least (flat_map f left))) (sym (drop_all i xs past)) ∙ noted

-- ---- numbered parts

module _ {Part Row : Type 0} (give : ℕ → Part → List Row) where
  numbered-snoc : (number : ℕ) (parts : List Part) (part : Part) → numbered_from give number (parts ++ part ∷ []) ≡ numbered_from give number parts ++ give (number + length parts) part
  numbered-snoc number [] part =
      let same : number ≡ number + 0 = omega arith in
      append-nil (give number part) ∙ ap (λ n. give n part) same
  numbered-snoc number (first ∷ parts) part =
      let one : number + 1 + length parts ≡ number + suc (length parts) = omega arith in
      ap (λ rest. give number first ++ rest) (numbered-snoc (number + 1) parts part ∙ ap (λ n. numbered_from give (number + 1) parts ++ give n part) one)
      ∙ sym (append_assoc (give number first) (numbered_from give (number + 1) parts) (give (number + suc (length parts)) part))

  module _ (parts : List Part) (i : ℕ) (part : Part) (within : i < length parts) (is : part ≡ get_or parts i part) where
    -- what the parts give, with one more
    pub numbered-more : numbered_from give 0 (take (i + 1) parts) ≡ numbered_from give 0 (take i parts) ++ give i part
    numbered-more =
        let taken : length (take i parts) ≡ i = length-take-le i parts (omega (arith, within)) in
        let long : 0 + length (take i parts) ≡ i = omega (arith, taken) in
        ap (numbered_from give 0) (front-more parts i part within is) ∙ numbered-snoc 0 (take i parts) part ∙ ap (λ n. numbered_from give 0 (take i parts) ++ give n part) long

    -- a fold over what they give
    pub numbered-folded : {B : Type 0} (h : B → Row → B) (start before after : B) → before ≡ fold h start (numbered_from give 0 (take i parts)) → after ≡ fold h before (give i part) → after ≡ fold h start (numbered_from give 0 (take (i + 1) parts))
    numbered-folded h start before after had one =
        one ∙ ap (λ rows. fold h rows (give i part)) had ∙ sym (ap (fold h start) numbered-more ∙ fold-append h start (numbered_from give 0 (take i parts)) (give i part))

-- a fold over items, with one more
pub fold-more : {A B : Type 0} (h : B → A → B) (start before after : B) (xs : List A) (i : ℕ) (x : A) → i < length xs → x ≡ get_or xs i x → before ≡ fold h start (take i xs) → after ≡ h before x → after ≡ fold h start (take (i + 1) xs)
fold-more h start before after xs i x within is had one =
    one ∙ ap (λ so_far. h so_far x) had ∙ sym (ap (fold h start) (front-more xs i x within is) ∙ fold-append h start (take i xs) (x ∷ []))
