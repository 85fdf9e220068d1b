-- The keys of the tables of a library, and when two of them are the same.
use Rattle.std.proofs.Common.{ℕ, ◌≡◌, ◌<◌, ◌+◌, Bool, true, false, ◌&&◌, cond, nat_eq, List, [], ◌∷◌, ◌++◌, length, take, get_or, Bor, Option, Some, None, is_some, position, refl, sym, ap, ◌∙◌}
use Rattle.std.specs.List.{list_any}
use Rattle.std.specs.Cmp.{first_so, second_so}
use Rattle.std.proofs.lemmas.Bool.{false≢true}
use Rattle.std.proofs.lemmas.Bool.Decides.{Decides-eqb}
use Rattle.std.proofs.lemmas.List.{take_more}
use Rattle.package_index.specs.inner.Tables.{Knows, same_pair, same_text}
use Rattle.package_index.proofs.KnowsLaws.{more-place, some-place}
use Rattle.error_libraries.specs.declared.id.ItemId.{ItemId}
use Rattle.error_libraries.specs.Libraries.{is_type}
use Rattle.error_libraries.specs.inner.Tables.{has_number, has_type_text, has_item_text}
use Rattle.std.specs.Cmp.Lexicographic.{pointwise}
use Rattle.std.proofs.lemmas.Slice.Eq.{bytes_eq-Decides}
use Rattle.plain_values.specs.Name.{is_same_text}
use Rattle.aadl_syntax.specs.declared.error_model.TypeItem.{TypeItem}

pub item_agrees : (item : TypeItem) (key other : Bor (List ℕ)) → key.now ≡ item.name → has_item_text other item ≡ same_text key other
item_agrees item key other name = λ i. pointwise nat_eq (sym name i) other.now

pub item_alike : (key other : Bor (List ℕ)) → same_text key other ≡ true → (item : TypeItem) → has_item_text other item ≡ has_item_text key item
item_alike key other same item =
    let name : key.now ≡ other.now = (bytes_eq-Decides key.now other.now).0 same in
    λ i. is_same_text item.name (sym name i)

-- ---- types

pub type_agrees : (item : TypeItem) (key other : Bor (List ℕ)) → is_type item.kind ≡ true → key.now ≡ item.name → has_type_text other item ≡ same_text key other
type_agrees item key other is name = ap (λ b. b && is_same_text item.name other.now) is ∙ (λ i. pointwise nat_eq (sym name i) other.now)

pub type_alike : (key other : Bor (List ℕ)) → same_text key other ≡ true → (item : TypeItem) → has_type_text other item ≡ has_type_text key item
type_alike key other same item =
    let name : key.now ≡ other.now = (bytes_eq-Decides key.now other.now).0 same in
    λ i. is_type item.kind && is_same_text item.name (sym name i)

none-of : {A : Type 0} (o : Option A) → is_some o ≡ false → o ≡ None
none-of None none = refl
none-of (Some a) none = absurd (false≢true (sym none))

-- an item that has no key leaves the places as they were
pub knows-past : {Key Item : Type 0} (has : Key → Item → Bool) (items : List Item) (i : ℕ) (item : Item) (table : Key → Option ℕ) → i < length items → item ≡ get_or items i item → ((key : Key) → has key item ≡ false)
    → Knows has (take i items) table → Knows has (take (i + 1) items) table
knows-past has items i item table within is none knows = λ key.
    knows key ∙ kept key (list_any (has key) (take i items)) refl
    ∙ ap (λ b. cond (list_any (has key) (take i items)) (position (has key) (take i items)) (cond b (Some (length (take i items))) None)) (sym (none key))
    ∙ sym (more-place (has key) (take i items) item)
    ∙ ap (position (has key)) (ap (λ x. take i items ++ x ∷ []) is ∙ sym (take_more items i item within))
  where
    kept : (key : _) (b : Bool) → list_any (has key) (take i items) ≡ b → position (has key) (take i items) ≡ cond (list_any (has key) (take i items)) (position (has key) (take i items)) None
    kept key true any = ap (λ b. cond b (position (has key) (take i items)) None) (sym any)
    kept key false any = none-of (position (has key) (take i items)) (some-place (has key) (take i items) ∙ any) ∙ ap (λ b. cond b (position (has key) (take i items)) None) (sym any)

-- ---- numbers

pub number_alike : (key other : ℕ × ℕ) → same_pair key other ≡ true → (id : ItemId) → has_number other id ≡ has_number key id
number_alike key other same id =
    let first : key.0 ≡ other.0 = (Decides-eqb key.0 other.0).0 (first_so _ _ same) in
    let second : key.1 ≡ other.1 = (Decides-eqb key.1 other.1).0 (second_so _ _ same) in
    λ i. nat_eq id.«package» (sym first i) && nat_eq id.item (sym second i)

pub number_same : (key other : ℕ × ℕ) → same_pair key other ≡ true → key ≡ other
number_same key other same =
    let first : key.0 ≡ other.0 = (Decides-eqb key.0 other.0).0 (first_so _ _ same) in
    let second : key.1 ≡ other.1 = (Decides-eqb key.1 other.1).0 (second_so _ _ same) in
    λ i. (first i, second i)
