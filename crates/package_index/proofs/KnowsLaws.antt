-- A table that knows items, with one item more; and what is noted of items that were declared before.
use Rattle.std.proofs.Common.{ℕ, suc, ◌+◌, ◌≡◌, ◌<◌, ◌≤◌, Bool, true, false, ◌||◌, not, cond, List, [], ◌∷◌, ◌++◌, length, take, drop, get_or, position, Option, Some, None, IsSome, is_some, refl, sym, ap, ◌∙◌, subst, add-one, drop-cons, arith, nat_lt, slice_get, option_and_then}
use Rattle.std.specs.List.{find, list_any, position_from, position_or_len}
use Rattle.std.proofs.lemmas.Bool.Decides.{nat_tests}
use Rattle.std.proofs.lemmas.Option.{slice_get_past}
use Rattle.std.proofs.lemmas.List.Folds.{find_at}
use Rattle.std.proofs.lemmas.Bool.{false≢true}
use Rattle.std.proofs.lemmas.Iterator.Adapters.{position_from-zero}
use Rattle.std.proofs.lemmas.List.{take_more, drop_all, take_all, length-take-le}
use Rattle.plain_values.specs.declared.spot.Spot.{Spot}
use Rattle.plain_values.specs.declared.refusal.Refusal.{Refusal}
use Rattle.noted_refusals.specs.inner.Noted.{Noted, noting}
use Rattle.noted_refusals.proofs.Laws.{noted-more}
use Rattle.package_index.specs.Duplicates.{again_at, again_after}
use Rattle.package_index.specs.inner.Tables.{Added, Knows}

-- ---- places

module _ {Item : Type 0} (p : Item → Bool) where
  some-cons : (items : List Item) (n : ℕ) (b : Bool) → is_some (position_from p (n + 1) items) ≡ list_any p items → is_some (cond b (Some n) (position_from p (n + 1) items)) ≡ (b || list_any p items)
  some-cons items n true rest = refl
  some-cons items n false rest = rest

  some-from : (items : List Item) (n : ℕ) → is_some (position_from p n items) ≡ list_any p items
  some-from [] n = refl
  some-from (item ∷ items) n = some-cons items n (p item) (some-from items (n + 1))

  -- an item that passes has a place
  pub some-place : (items : List Item) → is_some (position p items) ≡ list_any p items
  some-place items = ap is_some (position_from-zero p items) ∙ some-from items 0

  more-cons : (items : List Item) (item : Item) (n : ℕ) (b : Bool)
      → position_from p (n + 1) (items ++ item ∷ []) ≡ cond (list_any p items) (position_from p (n + 1) items) (cond (p item) (Some (n + 1 + length items)) None)
      → cond b (Some n) (position_from p (n + 1) (items ++ item ∷ [])) ≡ cond (b || list_any p items) (cond b (Some n) (position_from p (n + 1) items)) (cond (p item) (Some (n + suc (length items))) None)
  more-cons items item n true rest = refl
  more-cons items item n false rest =
      let count : n + 1 + length items ≡ n + suc (length items) = omega arith in
      rest ∙ ap (λ m. cond (list_any p items) (position_from p (n + 1) items) (cond (p item) (Some m) None)) count

  more-from : (items : List Item) (item : Item) (n : ℕ) → position_from p n (items ++ item ∷ []) ≡ cond (list_any p items) (position_from p n items) (cond (p item) (Some (n + length items)) None)
  more-from [] item n =
      let same : n ≡ n + 0 = omega arith in
      ap (λ m. cond (p item) (Some m) None) same
  more-from (first ∷ items) item n = more-cons items item n (p first) (more-from items item (n + 1))

  -- the place with one item more
  pub more-place : (items : List Item) (item : Item) → position p (items ++ item ∷ []) ≡ cond (list_any p items) (position p items) (cond (p item) (Some (length items)) None)
  more-place items item =
      let none : 0 + length items ≡ length items = omega arith in
      position_from-zero p (items ++ item ∷ []) ∙ more-from items item 0
      ∙ ap (λ n. cond (list_any p items) (position_from p 0 items) (cond (p item) (Some n) None)) none
      ∙ ap (λ place. cond (list_any p items) place (cond (p item) (Some (length items)) None)) (sym (position_from-zero p items))

  found-at : (items : List Item) (n : ℕ) (b : Bool) → nat_lt n (length items) ≡ b → slice_get items n ≡ option_and_then (slice_get items) (cond b (Some n) None)
  found-at items n true within = refl
  found-at items n false past =
      let all : length items ≤ n = grind (arith, nat_tests, past) in
      slice_get_past items n all

  -- the first item that passes stands at its place
  pub find-place : (items : List Item) → find p items ≡ option_and_then (slice_get items) (position p items)
  find-place items = find_at p items ∙ found-at items (position_or_len p items) (nat_lt (position_or_len p items) (length items)) refl

-- ---- a table with one item more

none-of : {A : Type 0} (o : Option A) → is_some o ≡ false → o ≡ None
none-of None none = refl
none-of (Some a) none = absurd (false≢true (sym none))

module _ {Key Item : Type 0} (has : Key → Item → Bool) (same : Key → Key → Bool) (items : List Item) (item : Item) (key : Key) (old new : Key → Option ℕ) (knows : Knows has items old) where
  any-is : (other : Key) → list_any (has other) items ≡ is_some (old other)
  any-is other = sym (some-place (has other) items) ∙ ap is_some (sym (knows other))

  -- whether the key is new tells whether an earlier item has it
  pub again-is : (number : ℕ) (is_new : Bool) → Added same old new key number is_new → not is_new ≡ list_any (has key) items
  again-is number true added = sym (any-is key ∙ ap is_some added.0)
  again-is number false added = sym (any-is key ∙ added.0)

  module _ (agrees : (other : Key) → has other item ≡ same key other) (alike : (other : Key) → same key other ≡ true → (each : Item) → has other each ≡ has key each) where
    -- the place of a key that the item does not have
    place-apart : (other : Key) → same key other ≡ false → position (has other) (items ++ item ∷ []) ≡ old other
    place-apart other apart = more-place (has other) items item ∙ ap (λ b. cond (list_any (has other) items) (position (has other) items) (cond b (Some (length items)) None)) (agrees other ∙ apart) ∙ kept (list_any (has other) items) refl
      where
        kept : (b : Bool) → list_any (has other) items ≡ b → cond (list_any (has other) items) (position (has other) items) None ≡ old other
        kept true is = ap (λ b. cond b (position (has other) items) None) is ∙ sym (knows other)
        kept false is = ap (λ b. cond b (position (has other) items) None) is ∙ sym (none-of (old other) (sym (any-is other) ∙ is))

    any-alike : (other : Key) → same key other ≡ true → list_any (has other) items ≡ list_any (has key) items
    any-alike other is = λ i. list_any (λ each. alike other is each i) items

    more-new : (other : Key) (b : Bool) → same key other ≡ b → old key ≡ None → cond b (Some (length items)) (old other) ≡ position (has other) (items ++ item ∷ [])
    more-new other false apart none = sym (place-apart other apart)
    more-new other true is none =
        sym
        (
        more-place (has other) items item ∙ ap (λ b. cond b (position (has other) items) (cond (has other item) (Some (length items)) None)) (any-alike other is ∙ any-is key ∙ ap is_some none)
        ∙ ap (λ b. cond b (Some (length items)) None) (agrees other ∙ is)
        )

    more-old : (other : Key) (b : Bool) → same key other ≡ b → IsSome (old key) → old other ≡ position (has other) (items ++ item ∷ [])
    more-old other false apart some = sym (place-apart other apart)
    more-old other true is some =
        knows other
        ∙ sym (more-place (has other) items item ∙ ap (λ b. cond b (position (has other) items) (cond (has other item) (Some (length items)) None)) (any-alike other is ∙ any-is key ∙ some))

    knows-next : (is_new : Bool) → Added same old new key (length items) is_new → Knows has (items ++ item ∷ []) new
    knows-next true added = λ other. added.1 other ∙ more-new other (same key other) refl added.0
    knows-next false added = λ other. added.1 other ∙ more-old other (same key other) refl added.0

-- the step of a loop that fills a table
pub knows-more : {Key Item : Type 0} (has : Key → Item → Bool) (same : Key → Key → Bool) (items : List Item) (i : ℕ) (item : Item) (key : Key) (old new : Key → Option ℕ) (is_new : Bool)
    → i < length items → item ≡ get_or items i item → ((other : Key) → has other item ≡ same key other) → ((other : Key) → same key other ≡ true → (each : Item) → has other each ≡ has key each)
    → Knows has (take i items) old → Added same old new key i is_new → Knows has (take (i + 1) items) new
knows-more has same items i item key old new is_new within is agrees alike knows added =
    let long : length (take i items) ≡ i = length-take-le i items (omega (arith, within)) in
    let next = knows-next has same (take i items) item key old new knows agrees alike is_new (subst (λ n. Added same old new key n is_new) (sym long) added) in
    subst (λ front. Knows has front new) (ap (λ x. take i items ++ x ∷ []) is ∙ sym (take_more items i item within)) next

-- the end of such a loop
pub knows-all : {Key Item : Type 0} (has : Key → Item → Bool) (items : List Item) (i : ℕ) (table : Key → Option ℕ) → length items ≤ i → Knows has (take i items) table → Knows has items table
knows-all has items i table all knows = subst (λ front. Knows has front table) (take_all i items all) knows

-- ---- noting the items that were declared before

module _ {Item : Type 0} (same : Item → Item → Bool) (spot_of : Item → Spot) (items : List Item) where
  abbrev pub again_left : ℕ → List Refusal
  again_left i = again_after same spot_of (take i items) (drop i items)

  pub again-more : (i : ℕ) (item : Item) (first next goal : Noted) → i < length items → item ≡ get_or items i item → next ≡ noting first (again_at (list_any (same item) (take i items)) (spot_of item)) → noting first (again_left i) ≡ goal → noting next (again_left (i + 1)) ≡ goal
  again-more i item first next goal within is noted before =
      let split : drop i items ≡ item ∷ drop (i + 1) items = drop-cons items i item within ∙ ap (λ t. t ∷ drop (suc i) items) (sym is) ∙ ap (λ n. item ∷ drop n items) (sym (add-one i)) in
      let front : take (i + 1) items ≡ take i items ++ item ∷ [] = take_more items i item within ∙ ap (λ x. take i items ++ x ∷ []) (sym is) in
      ap (λ taken. noting next (again_after same spot_of taken (drop (i + 1) items))) front
      ∙ noted-more first next (again_at (list_any (same item) (take i items)) (spot_of item)) (again_after same spot_of (take i items ++ item ∷ []) (drop (i + 1) items)) noted
      ∙ ap (λ left. noting first (again_after same spot_of (take i items) left)) (sym split) ∙ before

  pub again-end : (i : ℕ) (first goal : Noted) → length items ≤ i → noting first (again_left i) ≡ goal → first ≡ goal
  again-end i first goal all noted =
      ap (λ left. noting first (again_after same spot_of (take i items) left)) (sym (drop_all i items all)) ∙ noted
