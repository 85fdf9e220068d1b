-- Each type has a name, and types of different numbers print differently.
use Rattle.std.proofs.Common.{ℕ, zero, suc, ◌+◌, ◌<◌, ◌≤◌, ◌≡◌, ◌↔◌, ◌⊎◌, inl, inr, Bool, true, false, cond, List, [], ◌∷◌, ◌++◌, length, take, drop, position, slice_get, flat_map, Option, Some, None, IsSome, option_and_then, option_map, refl, sym, ap, ◌∙◌, subst, arith, append_assoc, zero-add, drop-cons}
use Rattle.std.specs.List.{AllByRecursion, concat}
use Rattle.std.specs.Prelude.{codes, ◌==◌}
use Rattle.std.proofs.lemmas.Bool.{and_from, and_parts, cases_order, eqb-true, false≢true}
use Rattle.std.proofs.lemmas.List.{get_or-take, length-take-le, take-append-drop}
use Rattle.std.proofs.lemmas.Option.{get_or_from_slice_get, none-some, option_and_then_some, same_Some, slice_get_cases, slice_get_within}
use Rattle.std.proofs.lemmas.Slice.Eq.{bytes_eq-Decides}
use Rattle.aadl_syntax.specs.Form.{Byte, One, Perhaps, ◌followed_by◌, is_letter, is_letter_or_digit}
use Rattle.plain_values.specs.Order.{IsClear}
use Rattle.aadl_syntax.specs.inner.Token.{IsIdentifier}
use Rattle.profiles.specs.declared.profile.Profile.{Profile}
use Rattle.aadl_syntax.specs.declared.core_model.PackageUnit.{PackageUnit}
use Rattle.aadl_syntax.specs.declared.error_model.TypeItem.{TypeItem}
use Rattle.plain_values.specs.declared.refusal.Code.TheVariants.{DuplicateUnit}
use Rattle.package_index.specs.Duplicates.{IsDuplicate, IsSecondPackage}
use Rattle.plain_values.specs.Refusal.{place_of, refusal}
use Rattle.package_index.specs.Names.{is_same_name}
use Rattle.plain_values.specs.Numbered.{numbered_from}
use Rattle.error_libraries.specs.declared.id.ItemId.{ItemId}
use Rattle.error_libraries.specs.Libraries.{Library, Table, counted, is_counted, is_place, is_type, is_type_named, item_at, libraries_of, library_of, table_of, types_by, types_in}
use Rattle.error_libraries.specs.Printed.{TypeName, item_name, name_of}
use Rattle.error_libraries.specs.inner.Printed.{PrintApart}

-- ---- the rows that numbered parts give

slice-front : {A : Type 0} (xs ys : List A) (n : ℕ) (x : A) → slice_get (xs ++ ys) n ≡ Some x → (slice_get xs n ≡ Some x) ⊎ ((m : ℕ) × (n ≡ length xs + m) × (slice_get ys m ≡ Some x))
slice-front [] ys n x at = inr (n, sym (zero-add n), at)
slice-front (y ∷ xs) ys zero x at = inl at
slice-front (y ∷ xs) ys (suc n) x at =
    elim (slice-front xs ys n x at) [
      | inl here ↦ inl here
      | inr later ↦ (let e = later.1 in inr (later.0, omega (arith, e), later.2))
    ]

module _ {Part Row : Type 0} (give : ℕ → Part → List Row) where
  numbered-at : (k : ℕ) (parts : List Part) (n : ℕ) (row : Row) → slice_get (numbered_from give k parts) n ≡ Some row → (i : ℕ) × (part : Part) × (j : ℕ) × (slice_get parts i ≡ Some part) × (slice_get (give (k + i) part) j ≡ Some row)
  numbered-at k [] n row at = absurd (none-some row at)
  numbered-at k (part ∷ parts) n row at =
      elim (slice-front (give k part) (numbered_from give (k + 1) parts) n row at) [
        | inl here ↦ (let e : k ≡ k + 0 = omega arith in (0, part, n, refl, subst (λ m. slice_get (give m part) n ≡ Some row) e here))
        | inr later ↦
            let (i, other, j, is, its) = numbered-at (k + 1) parts later.0 row later.2 in
            let e : k + 1 + i ≡ k + suc i = omega arith in
            (suc i, other, j, is, subst (λ m. slice_get (give m other) j ≡ Some row) e its)
      ]

  module _ (key : Row → ℕ) (keyed : (k : ℕ) (part : Part) (j : ℕ) (row : Row) → slice_get (give k part) j ≡ Some row → key row ≡ k) (once : (k : ℕ) (part : Part) (i j : ℕ) (row : Row) → slice_get (give k part) i ≡ Some row → slice_get (give k part) j ≡ Some row → i ≡ j) where
    key-from : (k : ℕ) (parts : List Part) (n : ℕ) (row : Row) → slice_get (numbered_from give k parts) n ≡ Some row → k ≤ key row
    key-from k parts n row at =
        let (i, part, j, is, its) = numbered-at k parts n row at in
        let e : key row ≡ k + i = keyed (k + i) part j row its in
        omega (arith, e)

    here-or-later : (k : ℕ) (part : Part) (parts : List Part) (m n : ℕ) (row : Row) → slice_get (give k part) m ≡ Some row → slice_get (numbered_from give (k + 1) parts) n ≡ Some row → ⊥
    here-or-later k part parts m n row here later =
        let e : key row ≡ k = keyed k part m row here in
        let f : k + 1 ≤ key row = key-from (k + 1) parts n row later in
        omega (arith, e, f)

    -- a row stands once among them
    numbered-once : (k : ℕ) (parts : List Part) (m n : ℕ) (row : Row) → slice_get (numbered_from give k parts) m ≡ Some row → slice_get (numbered_from give k parts) n ≡ Some row → m ≡ n
    numbered-once k [] m n row a b = absurd (none-some row a)
    numbered-once k (part ∷ parts) m n row a b =
        elim (slice-front (give k part) (numbered_from give (k + 1) parts) m row a) [
          | inl one ↦
              elim (slice-front (give k part) (numbered_from give (k + 1) parts) n row b) [
                | inl other ↦ once k part m n row one other
                | inr other ↦ absurd (here-or-later k part parts m other.0 row one other.2)
              ]
          | inr one ↦
              elim (slice-front (give k part) (numbered_from give (k + 1) parts) n row b) [
                | inl other ↦ absurd (here-or-later k part parts n one.0 row other one.2)
                | inr other ↦
                    let e = one.1 in
                    let f = other.1 in
                    let same : one.0 ≡ other.0 = numbered-once (k + 1) parts one.0 other.0 row one.2 other.2 in
                    omega (arith, e, f, same)
              ]
        ]

-- parts that give one row each
single : {Part Row : Type 0} (f : ℕ → Part → Row) (k : ℕ) (parts : List Part) (n : ℕ) (row : Row) → slice_get (numbered_from (λ number part. f number part ∷ []) k parts) n ≡ Some row → (part : Part) × (slice_get parts n ≡ Some part) × (f (k + n) part ≡ row)
single f k [] n row at = absurd (none-some row at)
single f k (part ∷ parts) zero row at =
    let e : k + 0 ≡ k = omega arith in
    (part, refl, ap (λ m. f m part) e ∙ same_Some (f k part) row at)
single f k (part ∷ parts) (suc n) row at =
    let (other, is, its) = single f (k + 1) parts n row at in
    let e : k + suc n ≡ k + 1 + n = omega arith in
    (other, is, ap (λ m. f m other) e ∙ its)

-- ---- the types

one-row : {A : Type 0} (b : Bool) (x : A) (j : ℕ) (row : A) → slice_get (cond b (x ∷ []) []) j ≡ Some row → (b ≡ true) × (x ≡ row) × (j ≡ 0)
one-row true x zero row at = (refl, same_Some x row at, refl)
one-row true x (suc j) row at = absurd (none-some row at)
one-row false x j row at = absurd (none-some row at)

module _ (each : Bool) where
  abbrev id_at : ℕ → ℕ → ItemId
  id_at number place = record { «package» = number; item = place }

  -- where a type stands
  type-in : (number : ℕ) (items : List TypeItem) (j : ℕ) (id : ItemId) → slice_get (types_in each number items) j ≡ Some id → (place : ℕ) × (item : TypeItem) × (slice_get items place ≡ Some item) × (is_counted each items place item ≡ true) × (id_at number place ≡ id)
  type-in number items j id at =
      let (i, item, l, is, its) = numbered-at (counted each number items) 0 items j id at in
      let (so, same, first) = one-row (is_counted each items (0 + i) item) (id_at number (0 + i)) l id its in
      (i, item, is, ap (λ place. is_counted each items place item) (sym (zero-add i)) ∙ so, ap (id_at number) (sym (zero-add i)) ∙ same)

  type-once : (number : ℕ) (items : List TypeItem) (i j : ℕ) (id : ItemId) → slice_get (types_in each number items) i ≡ Some id → slice_get (types_in each number items) j ≡ Some id → i ≡ j
  type-once number items =
      numbered-once (counted each number items) (λ id. id.item) (λ place item j id at. sym (ap (λ row. row.item) (one-row (is_counted each items place item) (id_at number place) j id at).1))
      (λ place item i j id a b. (one-row (is_counted each items place item) (id_at number place) i id a).2 ∙ sym (one-row (is_counted each items place item) (id_at number place) j id b).2) 0 items

  pub types-once : (libraries : List Library) (m n : ℕ) (id : ItemId) → slice_get (types_by each libraries) m ≡ Some id → slice_get (types_by each libraries) n ≡ Some id → m ≡ n
  types-once libraries =
      numbered-once (λ number library. types_in each number library.items) (λ id. id.«package») (λ number library j id at. sym (ap (λ row. row.«package») (type-in number library.items j id at).4))
      (λ number library i j id a b. type-once number library.items i j id a b) 0 libraries

  pub type-at : (libraries : List Library) (n : ℕ) (id : ItemId) → slice_get (types_by each libraries) n ≡ Some id
      → (library : Library) × (item : TypeItem) × (slice_get libraries id.«package» ≡ Some library) × (slice_get library.items id.item ≡ Some item) × (is_counted each library.items id.item item ≡ true)
  type-at libraries n id at =
      let (number, library, j, is, its) = numbered-at (λ number library. types_in each number library.items) 0 libraries n id at in
      let (place, item, there, so, same) = type-in (0 + number) library.items j id its in
      let home : number ≡ id.«package» = sym (zero-add number) ∙ ap (λ row. row.«package») same in
      let here : place ≡ id.item = ap (λ row. row.item) same in
      (library, item, subst (λ p. slice_get libraries p ≡ Some library) home is, subst (λ p. slice_get library.items p ≡ Some item) here there, subst (λ p. is_counted each library.items p item ≡ true) here so)

-- ---- names of types

-- where the type of a number stands, and what it is called
record Stands (profile : Profile) (packages : List PackageUnit) (number : ℕ) (id : ItemId) : Type 0 where
  library : Library
  item : TypeItem
  unit : PackageUnit
  has : slice_get (libraries_of packages) id.«package» ≡ Some library
  holds : slice_get library.items id.item ≡ Some item
  so : is_counted false library.items id.item item ≡ true
  home : slice_get packages id.«package» ≡ Some unit
  is : name_of (table_of profile packages) number ≡ Some (record { library = unit.name; name = item.name })

stands : (profile : Profile) (packages : List PackageUnit) (number : ℕ) (id : ItemId) → slice_get (table_of profile packages).types number ≡ Some id → Stands profile packages number id
stands profile packages number id at =
    let (library, item, has, holds, so) = type-at false (libraries_of packages) number id at in
    let (unit, home, made) = single (λ n unit. library_of packages n unit) 0 packages id.«package» library has in
    let there : item_at (libraries_of packages) id ≡ Some item = ap (option_and_then (λ l. slice_get l.items id.item)) has ∙ holds in
    record {
      library = library;
      item = item;
      unit = unit;
      has = has;
      holds = holds;
      so = so;
      home = home;
      is =
          ap (option_and_then (item_name (table_of profile packages))) at
          ∙ (λ i. option_and_then (λ u. option_map (λ t. record { library = u.name; name = t.name }) (there i)) (home i));
    }

-- what has a name is a type
pub named-all : (profile : Profile) (packages : List PackageUnit) (number : ℕ) → IsSome (name_of (table_of profile packages) number) ↔ (number < length (table_of profile packages).types)
named-all profile packages number =
    elim (slice_get_cases (table_of profile packages).types number).1 [
      | inl here ↦ (let (id, within, at, is) = here in (λ some. within, λ less. subst IsSome (sym (stands profile packages number id at).is) refl))
      | inr past ↦ (let (beyond, none) = past in (λ some. absurd (false≢true (subst IsSome (ap (option_and_then (item_name (table_of profile packages))) none) some)), λ less. absurd (omega (arith, beyond, less))))
    ]

-- ---- packages

same-names : (names : List (List ℕ)) → is_same_name names names ≡ true
same-names [] = refl
same-names (name ∷ names) = and_from _ _ ((bytes_eq-Decides name name).1 refl) (same-names names)

module _ (profile : Profile) (packages : List PackageUnit) where
  second : (p q : ℕ) (earlier later : PackageUnit) → p < q → slice_get packages p ≡ Some earlier → slice_get packages q ≡ Some later → later.name ≡ earlier.name → IsSecondPackage packages (refusal DuplicateUnit (place_of later.spot))
  second p q earlier later before a b same =
      let within = slice_get_within packages q later b in
      let long : length (take q packages) ≡ q = length-take-le q packages (omega (arith, within)) in
      record {
        before = take q packages;
        item = later;
        after = drop (suc q) packages;
        whole = sym (take-append-drop q packages) ∙ ap (λ rest. take q packages ++ rest) (drop-cons packages q later within ∙ ap (λ unit. unit ∷ drop (suc q) packages) (get_or_from_slice_get packages q later later b));
        again = (p, earlier, omega (arith, long, before), get_or-take q packages p earlier before ∙ get_or_from_slice_get packages p earlier earlier a, ap (is_same_name earlier.name) same ∙ same-names earlier.name);
        is = refl;
      }

  one-package : IsClear (IsDuplicate packages) → (p q : ℕ) (a b : PackageUnit) → slice_get packages p ≡ Some a → slice_get packages q ≡ Some b → a.name ≡ b.name → p ≡ q
  one-package clear p q a b at there same =
      elim (cases_order p q) [
        | inl equal ↦ equal
        | inr apart ↦
            elim apart [
              | inl less ↦ absurd (clear _ (inr (second p q a b less at there (sym same))))
              | inr more ↦ absurd (clear _ (inr (second q p b a more there at same)))
            ]
      ]

  -- ---- types of one name

  placed : (found : Option ℕ) (place : ℕ) → is_place found place ≡ true → found ≡ Some place
  placed None place is = absurd (false≢true is)
  placed (Some other) place is = ap Some (eqb-true other place is)

  first-place : (items : List TypeItem) (place : ℕ) (item : TypeItem) → is_counted false items place item ≡ true → position (is_type_named item.name) items ≡ Some place
  first-place items place item so = placed (position (is_type_named item.name) items) place (and_parts (is_type item.kind) (is_place (position (is_type_named item.name) items) place) so).1

  one-type : IsClear (IsDuplicate packages) → (a b : ℕ) (x y : ItemId) (s : Stands profile packages a x) (t : Stands profile packages b y) → s.unit.name ≡ t.unit.name → s.item.name ≡ t.item.name → x ≡ y
  one-type clear a b x y s t home name =
      let p : x.«package» ≡ y.«package» = one-package clear x.«package» y.«package» s.unit t.unit s.home t.home home in
      let l : s.library ≡ t.library = same_Some s.library t.library (sym s.has ∙ ap (slice_get (libraries_of packages)) p ∙ t.has) in
      let i : x.item ≡ y.item =
      same_Some x.item y.item (sym (first-place s.library.items x.item s.item s.so) ∙ (λ k. position (is_type_named (name k)) (l k).items) ∙ first-place t.library.items y.item t.item t.so) in
      λ k. record { «package» = p k; item = i k }

  -- one name, one number
  names-once : IsClear (IsDuplicate packages) → (a b : ℕ) (name other : TypeName) → name_of (table_of profile packages) a ≡ Some name → name_of (table_of profile packages) b ≡ Some other → name ≡ other → a ≡ b
  names-once clear a b name other is its same =
      option_and_then_some (item_name (table_of profile packages)) (slice_get (table_of profile packages).types a) name is
      (λ x at _.
      option_and_then_some (item_name (table_of profile packages)) (slice_get (table_of profile packages).types b) other its
      (λ y there _.
      let s = stands profile packages a x at in
      let t = stands profile packages b y there in
      let one : record { library = s.unit.name; name = s.item.name } ≡ record { library = t.unit.name; name = t.item.name } =
      same_Some _ _ (sym s.is ∙ is ∙ ap Some same ∙ sym its ∙ t.is) in
      let id = one-type clear a b x y s t (ap (λ n. n.library) one) (ap (λ n. n.name) one) in
      types-once false (libraries_of packages) a b y (subst (λ z. slice_get (table_of profile packages).types a ≡ Some z) id at) there))

-- ---- texts

-- no colon stands in the text
abbrev IsPlain : List ℕ → Type 0
IsPlain = AllByRecursion (λ b. b ≡ 58 → ⊥)

one-plain : (class : ℕ → Bool) → class 58 ≡ false → (bytes : List ℕ) → One class bytes → IsPlain bytes
one-plain class not [] so = absurd so
one-plain class not (b ∷ []) so = (λ colon. false≢true (sym not ∙ ap class (sym colon) ∙ so), tt)
one-plain class not (b ∷ c ∷ bytes) so = absurd so

more-plain : (a b : List ℕ) → IsPlain a → IsPlain b → IsPlain (a ++ b)
more-plain [] b p q = q
more-plain (x ∷ a) b p q = (p.0, more-plain a b p.1 q)

parts-plain : (parts : List (List ℕ)) → AllByRecursion (Perhaps (Byte 95) followed_by One is_letter_or_digit) parts → IsPlain (concat parts)
parts-plain [] all = tt
parts-plain (part ∷ parts) (first, rest) =
    let low : IsPlain first.front =
    elim first.first [
      | inl none ↦ subst IsPlain (sym none) tt
      | inr sign ↦ one-plain (λ b. b == 95) refl first.front sign
    ] in
    more-plain part (concat parts) (subst IsPlain (sym first.whole) (more-plain first.front first.back low (one-plain is_letter_or_digit refl first.back first.second))) (parts-plain parts rest)

plain : (text : List ℕ) → IsIdentifier text → IsPlain text
plain text form =
    let word = form.word in
    subst IsPlain (sym word.whole)
    (more-plain word.front word.back (one-plain is_letter refl word.front word.first) (subst IsPlain (sym word.second.whole) (parts-plain word.second.parts word.second.each)))

-- a text up to its first colon
up-to : (a b r s : List ℕ) → IsPlain a → IsPlain b → a ++ 58 ∷ r ≡ b ++ 58 ∷ s → (a ≡ b) × (r ≡ s)
up-to [] [] r s p q e = (refl, cc)
up-to [] (y ∷ b) r s p q e = let colon : y ≡ 58 = cc in absurd (q.0 colon)
up-to (x ∷ a) [] r s p q e = let colon : x ≡ 58 = cc in absurd (p.0 colon)
up-to (x ∷ a) (y ∷ b) r s p q e =
    let first : x ≡ y = cc in
    let rest : a ++ 58 ∷ r ≡ b ++ 58 ∷ s = cc in
    let both = up-to a b r s p.1 q.1 rest in
    (λ i. first i ∷ both.0 i, both.1)

no-colon : (a b r : List ℕ) → IsPlain a → a ≡ b ++ 58 ∷ r → ⊥
no-colon [] [] r p e = cc
no-colon [] (y ∷ b) r p e = cc
no-colon (x ∷ a) [] r p e = let colon : x ≡ 58 = cc in p.0 colon
no-colon (x ∷ a) (y ∷ b) r p e = let rest : a ≡ b ++ 58 ∷ r = cc in no-colon a b r p.1 rest

next : (name : List ℕ) (names : List (List ℕ)) (last : List ℕ) → flat_map (λ n. n ++ codes "::") (name ∷ names) ++ last ≡ name ++ 58 ∷ 58 ∷ (flat_map (λ n. n ++ codes "::") names ++ last)
next name names last = append_assoc (name ++ codes "::") (flat_map (λ n. n ++ codes "::") names) last ∙ append_assoc name (codes "::") (flat_map (λ n. n ++ codes "::") names ++ last)

-- what prints alike is the same
alike : (names others : List (List ℕ)) (last other : List ℕ) → AllByRecursion IsIdentifier names → AllByRecursion IsIdentifier others → IsIdentifier last → IsIdentifier other
    → flat_map (λ n. n ++ codes "::") names ++ last ≡ flat_map (λ n. n ++ codes "::") others ++ other → (names ≡ others) × (last ≡ other)
alike [] [] last other p q l o e = (refl, e)
alike [] (name ∷ others) last other p q l o e = absurd (no-colon last name _ (plain last l) (e ∙ next name others other))
alike (name ∷ names) [] last other p q l o e = absurd (no-colon other name _ (plain other o) (sym e ∙ next name names last))
alike (name ∷ names) (more ∷ others) last other p q l o e =
    let first = up-to name more _ _ (plain name p.0) (plain more q.0) (sym (next name names last) ∙ e ∙ next more others other) in
    let tails = first.1 in
    let rest : flat_map (λ n. n ++ codes "::") names ++ last ≡ flat_map (λ n. n ++ codes "::") others ++ other = cc in
    let both = alike names others last other p.1 q.1 l o rest in
    (λ i. first.0 i ∷ both.0 i, both.1)

pub print-apart : (profile : Profile) (packages : List PackageUnit) → PrintApart profile packages
print-apart profile packages clear a b name other is its form its_form same =
    let both = alike name.library other.library name.name other.name form.library its_form.library form.name its_form.name same in
    names-once profile packages clear a b name other is its (λ i. record { library = both.0 i; name = both.1 i })

-- the name that a table has for a number
pub known-by-number : (table : Table) (number : ℕ) (found : Option TypeName) → table ≡ table_of table.profile table.packages → found ≡ name_of table number → IsSome found ↔ (number < length table.types)
known-by-number table number found made is =
    subst (λ o. IsSome o ↔ (number < length table.types)) (sym is)
    (subst (λ t. IsSome (name_of t number) ↔ (number < length t.types)) (sym made) (named-all table.profile table.packages number))
