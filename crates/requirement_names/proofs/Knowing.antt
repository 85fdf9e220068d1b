-- A table that knows names, with one name more; and the names that stand a second time.
use Rattle.std.proofs.Common.{ℕ, zero, suc, ◌+◌, ◌≡◌, ◌<◌, ◌≤◌, Bool, true, false, ◌||◌, not, cond, List, [], ◌∷◌, ◌++◌, length, map, take, drop, get_or, position, Option, Some, None, IsSome, is_some, refl, sym, ap, ◌∙◌, subst, add-one, drop-cons, arith}
use denote.Ref.{Bor}
use Rattle.std.specs.List.{list_any, position_from}
use Rattle.std.proofs.lemmas.Bool.{false≢true}
use Rattle.std.proofs.lemmas.Iterator.Adapters.{position_from-zero}
use Rattle.std.proofs.lemmas.List.{take_more, drop_all, take_all, length-map, length-take-le}
use Rattle.std.proofs.lemmas.Slice.Eq.{bytes_eq-Decides}
use Rattle.plain_values.specs.Name.{is_same_text}
use Rattle.requirements.specs.declared.words.PlacedWord.{PlacedWord}
use Rattle.requirement_names.specs.declared.mistake.WrongWord.{WrongWord}
use Rattle.requirement_names.specs.Names.{called}
use Rattle.requirement_names.specs.inner.Tables.{Added, Knows, has_text, same_text}
use Rattle.requirement_names.specs.Wrong.{again_behind, noting, wrong_again}
use Rattle.requirement_names.proofs.Noting.{noted-more}

-- ---- places

module _ {Item : Type 0} (p : Item → Bool) where
  some-cons : (items : List Item) (n : ℕ) (b : Bool) → is_some (position_from p (n + 1) items) ≡ list_any p items → is_some (cond b (Some n) (position_from p (n + 1) items)) ≡ (b || list_any p items)
  some-cons items n true rest = refl
  some-cons items n false rest = rest

  some-from : (items : List Item) (n : ℕ) → is_some (position_from p n items) ≡ list_any p items
  some-from [] n = refl
  some-from (item ∷ items) n = some-cons items n (p item) (some-from items (n + 1))

  -- an item that passes has a place
  pub some-place : (items : List Item) → is_some (position p items) ≡ list_any p items
  some-place items = ap is_some (position_from-zero p items) ∙ some-from items 0

  more-cons : (items : List Item) (item : Item) (n : ℕ) (b : Bool)
      → position_from p (n + 1) (items ++ item ∷ []) ≡ cond (list_any p items) (position_from p (n + 1) items) (cond (p item) (Some (n + 1 + length items)) None)
      → cond b (Some n) (position_from p (n + 1) (items ++ item ∷ [])) ≡ cond (b || list_any p items) (cond b (Some n) (position_from p (n + 1) items)) (cond (p item) (Some (n + suc (length items))) None)
  more-cons items item n true rest = refl
  more-cons items item n false rest =
      let count : n + 1 + length items ≡ n + suc (length items) = omega arith in
      rest ∙ ap (λ m. cond (list_any p items) (position_from p (n + 1) items) (cond (p item) (Some m) None)) count

  more-from : (items : List Item) (item : Item) (n : ℕ) → position_from p n (items ++ item ∷ []) ≡ cond (list_any p items) (position_from p n items) (cond (p item) (Some (n + length items)) None)
  more-from [] item n =
      let same : n ≡ n + 0 = omega arith in
      ap (λ m. cond (p item) (Some m) None) same
  more-from (first ∷ items) item n = more-cons items item n (p first) (more-from items item (n + 1))

  -- the place with one item more
  pub more-place : (items : List Item) (item : Item) → position p (items ++ item ∷ []) ≡ cond (list_any p items) (position p items) (cond (p item) (Some (length items)) None)
  more-place items item =
      let none : 0 + length items ≡ length items = omega arith in
      position_from-zero p (items ++ item ∷ []) ∙ more-from items item 0
      ∙ ap (λ n. cond (list_any p items) (position_from p 0 items) (cond (p item) (Some n) None)) none
      ∙ ap (λ place. cond (list_any p items) place (cond (p item) (Some (length items)) None)) (sym (position_from-zero p items))

-- ---- a table with one item more

none-of : {A : Type 0} (o : Option A) → is_some o ≡ false → o ≡ None
none-of None none = refl
none-of (Some a) none = absurd (false≢true (sym none))

module _ {Key Item : Type 0} (has : Key → Item → Bool) (same : Key → Key → Bool) (items : List Item) (item : Item) (key : Key) (old new : Key → Option ℕ) (knows : Knows has items old) where
  any-is : (other : Key) → list_any (has other) items ≡ is_some (old other)
  any-is other = sym (some-place (has other) items) ∙ ap is_some (sym (knows other))

  -- whether the key is new tells whether an earlier item has it
  pub again-is : (number : ℕ) (is_new : Bool) → Added same old new key number is_new → not is_new ≡ list_any (has key) items
  again-is number true added = sym (any-is key ∙ ap is_some added.0)
  again-is number false added = sym (any-is key ∙ added.0)

  module _ (agrees : (other : Key) → has other item ≡ same key other) (alike : (other : Key) → same key other ≡ true → (each : Item) → has other each ≡ has key each) where
    -- the place of a key that the item does not have
    place-apart : (other : Key) → same key other ≡ false → position (has other) (items ++ item ∷ []) ≡ old other
    place-apart other apart = more-place (has other) items item ∙ ap (λ b. cond (list_any (has other) items) (position (has other) items) (cond b (Some (length items)) None)) (agrees other ∙ apart) ∙ kept (list_any (has other) items) refl
      where
        kept : (b : Bool) → list_any (has other) items ≡ b → cond (list_any (has other) items) (position (has other) items) None ≡ old other
        kept true is = ap (λ b. cond b (position (has other) items) None) is ∙ sym (knows other)
        kept false is = ap (λ b. cond b (position (has other) items) None) is ∙ sym (none-of (old other) (sym (any-is other) ∙ is))

    any-alike : (other : Key) → same key other ≡ true → list_any (has other) items ≡ list_any (has key) items
    any-alike other is = λ i. list_any (λ each. alike other is each i) items

    more-new : (other : Key) (b : Bool) → same key other ≡ b → old key ≡ None → cond b (Some (length items)) (old other) ≡ position (has other) (items ++ item ∷ [])
    more-new other false apart none = sym (place-apart other apart)
    more-new other true is none =
        sym
        (
        more-place (has other) items item ∙ ap (λ b. cond b (position (has other) items) (cond (has other item) (Some (length items)) None)) (any-alike other is ∙ any-is key ∙ ap is_some none)
        ∙ ap (λ b. cond b (Some (length items)) None) (agrees other ∙ is)
        )

    more-old : (other : Key) (b : Bool) → same key other ≡ b → IsSome (old key) → old other ≡ position (has other) (items ++ item ∷ [])
    more-old other false apart some = sym (place-apart other apart)
    more-old other true is some =
        knows other
        ∙ sym (more-place (has other) items item ∙ ap (λ b. cond b (position (has other) items) (cond (has other item) (Some (length items)) None)) (any-alike other is ∙ any-is key ∙ some))

    knows-next : (is_new : Bool) → Added same old new key (length items) is_new → Knows has (items ++ item ∷ []) new
    knows-next true added = λ other. added.1 other ∙ more-new other (same key other) refl added.0
    knows-next false added = λ other. added.1 other ∙ more-old other (same key other) refl added.0

-- the step of a loop that fills a table
pub knows-more : {Key Item : Type 0} (has : Key → Item → Bool) (same : Key → Key → Bool) (items : List Item) (i : ℕ) (item : Item) (key : Key) (old new : Key → Option ℕ) (is_new : Bool)
    → i < length items → item ≡ get_or items i item → ((other : Key) → has other item ≡ same key other) → ((other : Key) → same key other ≡ true → (each : Item) → has other each ≡ has key each)
    → Knows has (take i items) old → Added same old new key i is_new → Knows has (take (i + 1) items) new
knows-more has same items i item key old new is_new within is agrees alike knows added =
    let long : length (take i items) ≡ i = length-take-le i items (omega (arith, within)) in
    let next = knows-next has same (take i items) item key old new knows agrees alike is_new (subst (λ n. Added same old new key n is_new) (sym long) added) in
    subst (λ front. Knows has front new) (ap (λ x. take i items ++ x ∷ []) is ∙ sym (take_more items i item within)) next

-- the end of such a loop
pub knows-all : {Key Item : Type 0} (has : Key → Item → Bool) (items : List Item) (i : ℕ) (table : Key → Option ℕ) → length items ≤ i → Knows has (take i items) table → Knows has items table
knows-all has items i table all knows = subst (λ front. Knows has front table) (take_all i items all) knows

-- ---- names

pub text_agrees : (name : List ℕ) (key other : Bor (List ℕ)) → key.now ≡ name → has_text other name ≡ same_text key other
text_agrees name key other is = ap (λ text. is_same_text text other.now) (sym is)

pub text_alike : (key other : Bor (List ℕ)) → same_text key other ≡ true → (name : List ℕ) → has_text other name ≡ has_text key name
text_alike key other same name = ap (is_same_text name) (sym ((bytes_eq-Decides key.now other.now).0 same))

-- the names that stand a second time, of the items that are left
module _ {Item : Type 0} (word_of : Item → PlacedWord) (items : List Item) (names : List (List ℕ)) (i : ℕ) (item : Item) (within : i < length items) (is : item ≡ get_or items i item)
    (there : i < length names) (called_so : get_or names i [] ≡ called word_of item) where
  left-less : drop i items ≡ item ∷ drop (i + 1) items
  left-less = drop-cons items i item within ∙ ap (λ t. t ∷ drop (suc i) items) (sym is) ∙ ap (λ n. item ∷ drop n items) (sym (add-one i))

  names-more : take (i + 1) names ≡ take i names ++ called word_of item ∷ []
  names-more = take_more names i [] there ∙ ap (λ name. take i names ++ name ∷ []) called_so

  pub again-more : (first next goal : Option WrongWord) → next ≡ noting first (wrong_again (take i names) (word_of item))
      → noting first (again_behind word_of (take i names) (drop i items)) ≡ goal → noting next (again_behind word_of (take (i + 1) names) (drop (i + 1) items)) ≡ goal
  again-more first next goal noted before =
      ap (λ front. noting next (again_behind word_of front (drop (i + 1) items))) names-more
      ∙ noted-more first next (wrong_again (take i names) (word_of item)) (again_behind word_of (take i names ++ called word_of item ∷ []) (drop (i + 1) items)) noted
      ∙ ap (λ left. noting first (again_behind word_of (take i names) left)) (sym left-less) ∙ before

pub again-end : {Item : Type 0} (word_of : Item → PlacedWord) (items : List Item) (names : List (List ℕ)) (i : ℕ) (first goal : Option WrongWord) → length items ≤ i
    → noting first (again_behind word_of (take i names) (drop i items)) ≡ goal → first ≡ goal
again-end word_of items names i first goal past noted = ap (λ left. noting first (again_behind word_of (take i names) left)) (sym (drop_all i items past)) ∙ noted

-- the name at a place is that of the item there
pub called-at : {A : Type 0} (f : A → List ℕ) (xs : List A) (i : ℕ) (x : A) (d : List ℕ) → i < length xs → x ≡ get_or xs i x → get_or (map f xs) i d ≡ f x
called-at f [] i x d within is = absurd (omega (arith, within))
called-at f (y ∷ ys) zero x d within is = ap f (sym is)
called-at f (y ∷ ys) (suc i) x d within is = called-at f ys i x d (omega (arith, within)) is

pub long-as : {A : Type 0} (f : A → List ℕ) (xs : List A) (names : List (List ℕ)) (i : ℕ) → names ≡ map f xs → i < length xs → i < length names
long-as f xs names i are within = subst (λ n. i < n) (sym (ap length are ∙ length-map xs f)) within
