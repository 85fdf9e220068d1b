-- Rows of the types that are below some.
use Rattle.std.proofs.Common.{ℕ, ◌<◌, ◌≡◌, Bool, true, false, ◌||◌, List, [], ◌∷◌, ◌++◌, length, map, slice_get, replicate, Option, Some, refl, sym, ap, ◌∙◌, arith}
use Rattle.std.specs.List.{list_any}
use Rattle.std.proofs.lemmas.List.{get_or_append_left, get_or_push, length-append}
use Rattle.std.proofs.lemmas.List.Folds.{list_any-append}
use Rattle.std.proofs.lemmas.Option.{slice_get-get_or}
use Rattle.error_libraries.specs.Libraries.{Table}
use Rattle.error_types.specs.inner.Rows.{AreTypeRows, either, numbers_in, row_below, row_of, rows_by, types_below}
use Rattle.error_types.specs.Types.{base_of, is_below}
use Rattle.error_types.specs.inner.Types.{is_below_by}
use Rattle.plain_values.specs.Numbered.{numbers_below}
use Rattle.error_types.proofs.HierarchyLaws.{as-many, by-bases}
use Rattle.error_types.proofs.RowLaws.{all-below, at-number, either-map, long, numbers-of, same-below}

or-none : (b : Bool) → (b || false) ≡ b
or-none true = refl
or-none false = refl

module _ (table : Table) where
  abbrev any : List ℕ → ℕ → Bool
  any types low = list_any (is_below table low) types

  pub row-long : (types : List ℕ) → length (row_of table types) ≡ length table.types
  row-long types = long (any types) (length table.types)

  pub row-none : row_of table [] ≡ replicate (length table.types) false
  row-none = all-below (any []) (length table.types) false (λ k. refl)

  pub row-more : (types more : List ℕ) → either (row_of table types) (row_of table more) ≡ row_of table (types ++ more)
  row-more types more =
      either-map (any types) (any more) (numbers_below (length table.types))
      ∙ same-below (λ low. any types low || any more low) (any (types ++ more)) (length table.types) (λ low _. sym (list_any-append (is_below table low) types more))

  -- the same where it is told of the rows what they are
  pub rows-joined : (types more : List ℕ) (before row after : List Bool) → before ≡ row_of table types → row ≡ row_of table more → (length row ≡ length before → after ≡ either before row) → after ≡ row_of table (types ++ more)
  rows-joined types more before row after is its joined =
      joined (ap length its ∙ row-long more ∙ sym (ap length is ∙ row-long types)) ∙ (λ i. either (is i) (its i)) ∙ row-more types more

  pub row-same : (types others : List ℕ) → ((low : ℕ) → any types low ≡ any others low) → row_of table types ≡ row_of table others
  row-same types others same = same-below (any types) (any others) (length table.types) (λ low _. same low)

  pub row-numbers : (row : List Bool) (types : List ℕ) → row ≡ row_of table types → numbers_in row ≡ types_below table types
  row-numbers row types is = ap numbers_in is ∙ numbers-of (any types) (length table.types)

  -- ---- the rows of types

  module _ (bases : List (Option ℕ)) (is : bases ≡ map (base_of table) table.types) where
    one-row : (high : ℕ) → row_below bases high ≡ row_of table (high ∷ [])
    one-row high =
        same-below (λ low. is_below_by bases low high) (any (high ∷ [])) (length bases) (λ low _. by-bases table bases is low high ∙ sym (or-none (is_below table low high)))
        ∙ ap (λ n. map (any (high ∷ [])) (numbers_below n)) (as-many table bases is)

    abbrev rows : List (List Bool)
    rows = map (row_below bases) (numbers_below (length bases))

    at-type : (high : ℕ) → high < length table.types → slice_get (rows_by bases) high ≡ Some (row_of table (high ∷ []))
    at-type high less =
        let many = as-many table bases is in
        let size = long (row_below bases) (length bases) in
        let whole = length-append rows (replicate (length bases) false ∷ []) in
        let within : high < length (rows_by bases) = omega (arith, many, size, whole, less) in
        let inside : high < length rows = omega (arith, many, size, less) in
        let fewer : high < length bases = omega (arith, many, less) in
        slice_get-get_or (rows_by bases) high [] within
        ∙ ap Some (get_or_append_left rows (replicate (length bases) false ∷ []) [] high inside ∙ at-number (row_below bases) (length bases) high [] fewer ∙ one-row high)

    at-end : slice_get (rows_by bases) (length table.types) ≡ Some (row_of table [])
    at-end =
        let many = as-many table bases is in
        let size = long (row_below bases) (length bases) in
        let whole = length-append rows (replicate (length bases) false ∷ []) in
        let within : length table.types < length (rows_by bases) = omega (arith, many, size, whole) in
        let last : length rows ≡ length table.types = size ∙ many in
        slice_get-get_or (rows_by bases) (length table.types) [] within
        ∙ ap Some (get_or_push rows (replicate (length bases) false) [] (length table.types) last ∙ ap (λ n. replicate n false) many ∙ sym row-none)

    pub type-rows : (all : List (List Bool)) → all ≡ rows_by bases → AreTypeRows table all
    type-rows all same = record { types = λ high less. ap (λ r. slice_get r high) same ∙ at-type high less; none = ap (λ r. slice_get r (length table.types)) same ∙ at-end }
