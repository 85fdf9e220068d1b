-- Rows that go by a key, and their table.
use Rattle.std.proofs.Common.{ℕ, ◌≡◌, ◌<◌, Bool, true, false, cond, List, [], ◌∷◌, ◌++◌, length, get_or, slice_set, position, nat_lt, Option, Some, None, is_some, refl, sym, ap, ◌∙◌}
use Rattle.std.specs.Cmp.{booleans_Decides, first_so, second_so}
use Rattle.std.specs.Cmp.Lexicographic.{pointwise_decides, bytes_decides}
use Rattle.std.specs.List.{list_any, position_or_len}
use Rattle.std.proofs.lemmas.Bool.{false≢true}
use Rattle.std.proofs.lemmas.List.Folds.{position_or_len-set}
use Rattle.std.proofs.lemmas.List.Quantifiers.{position-Some}
use Rattle.std.proofs.lemmas.List.{length-set}
use Rattle.plain_values.specs.Name.{is_same_text}
use Rattle.package_index.proofs.KnowsLaws.{more-place, some-place}
use Rattle.component_extension.specs.Rows.{Key, goes_by, is_same_key, place_by}
use Rattle.component_extension.specs.inner.Rows.{KeyWords, KnowsRows, key_of_words, same_words}

-- ---- keys

same-key : (a b : Key) → is_same_key a b ≡ true → a ≡ b
same-key a b same =
    let rest = first_so _ _ same in
    let names : a.names ≡ b.names = (pointwise_decides {E = is_same_text} bytes_decides a.names b.names).0 (first_so _ _ rest) in
    let outward : a.outward ≡ b.outward = (booleans_Decides a.outward b.outward).0 (second_so _ _ rest) in
    let negative : a.negative ≡ b.negative = (booleans_Decides a.negative b.negative).0 (second_so _ _ same) in
    λ i. record { names = names i; outward = outward i; negative = negative i }

by-key : (key : Key) (of : Option Key) → goes_by key of ≡ true → of ≡ Some key
by-key key None goes = absurd (false≢true goes)
by-key key (Some other) goes = ap Some (same-key other key goes)

-- ---- places

module _ {Row : Type 0} (p : Row → Bool) (rows : List Row) where
  -- the place is the same where a row that passes alike is put in place of another
  position-set : (place : ℕ) (row d : Row) → p row ≡ p (get_or rows place d) → position p (slice_set rows place row) ≡ position p rows
  position-set place row d alike =
      ap (λ n. cond (nat_lt n (length (slice_set rows place row))) (Some n) None) (position_or_len-set p rows place row d alike)
      ∙ ap (λ size. cond (nat_lt (position_or_len p rows) size) (Some (position_or_len p rows)) None) (length-set rows place row)

  none-of : (o : Option ℕ) → is_some o ≡ false → o ≡ None
  none-of None none = refl
  none-of (Some n) none = absurd (false≢true (sym none))

  -- the place is the same with a row more that does not pass
  position-apart : (row : Row) → p row ≡ false → position p (rows ++ row ∷ []) ≡ position p rows
  position-apart row apart = more-place p rows row ∙ ap (λ b. cond (list_any p rows) (position p rows) (cond b (Some (length rows)) None)) apart ∙ kept (list_any p rows) refl
    where
      kept : (b : Bool) → list_any p rows ≡ b → cond (list_any p rows) (position p rows) None ≡ position p rows
      kept true is = ap (λ b. cond b (position p rows) None) is
      kept false is = ap (λ b. cond b (position p rows) None) is ∙ sym (none-of (position p rows) (some-place p rows ∙ is))

  -- the place of the row that is put last, where no row before it passes
  position-last : (row : Row) → p row ≡ true → position p rows ≡ None → position p (rows ++ row ∷ []) ≡ Some (length rows)
  position-last row passes none =
      more-place p rows row ∙ ap (λ b. cond (list_any p rows) (position p rows) (cond b (Some (length rows)) None)) passes
      ∙ ap (λ b. cond b (position p rows) (Some (length rows))) (sym (some-place p rows) ∙ ap is_some none)

-- ---- the table

module _ {Row : Type 0} (key_of : Row → Option Key) (rows : List Row) (row : Row) (table : KeyWords → Option ℕ) (knows : KnowsRows key_of rows table) where
  -- a row that goes by no key is put last
  pub knows-unnamed : None ≡ key_of row → KnowsRows key_of (rows ++ row ∷ []) table
  knows-unnamed none = λ other. knows other ∙ sym (position-apart (λ r. goes_by (key_of_words other) (key_of r)) rows row (ap (goes_by (key_of_words other)) (sym none)))

  module _ (key : KeyWords) (keyed : Some (key_of_words key) ≡ key_of row) where
    abbrev has : KeyWords → Row → Bool
    has k r = goes_by (key_of_words k) (key_of r)

    -- the place of a key is one of the rows
    pub place-within : (place : ℕ) → table key ≡ Some place → place < length rows
    place-within place at = (position-Some (has key) rows place row (sym (knows key) ∙ at)).0

    -- a row takes the place of the row of its key
    pub knows-set : (place : ℕ) → table key ≡ Some place → KnowsRows key_of (slice_set rows place row) table
    knows-set place at =
        let there : key_of (get_or rows place row) ≡ Some (key_of_words key) = by-key _ _ (position-Some (has key) rows place row (sym (knows key) ∙ at)).1 in
        λ other. knows other ∙ sym (position-set (has other) rows place row row (ap (goes_by (key_of_words other)) (sym (there ∙ keyed))))

    -- a row of a new key is put last
    pub knows-push : (new : KeyWords → Option ℕ) → table key ≡ None → ((other : KeyWords) → new other ≡ cond (same_words key other) (Some (length rows)) (table other)) → KnowsRows key_of (rows ++ row ∷ []) new
    knows-push new none added = λ other. added other ∙ case other (same_words key other) refl
      where
        case : (other : KeyWords) (b : Bool) → same_words key other ≡ b → cond (same_words key other) (Some (length rows)) (table other) ≡ place_by key_of (rows ++ row ∷ []) (key_of_words other)
        case other true same =
            let key_is : key_of_words key ≡ key_of_words other = same-key _ _ same in
            let clear : position (has other) rows ≡ None = ap (place_by key_of rows) (sym key_is) ∙ sym (knows key) ∙ none in
            ap (λ b. cond b (Some (length rows)) (table other)) same ∙ sym (position-last (has other) rows row (ap (goes_by (key_of_words other)) (sym keyed) ∙ same) clear)
        case other false apart =
            ap (λ b. cond b (Some (length rows)) (table other)) apart ∙ knows other
            ∙ sym (position-apart (has other) rows row (ap (goes_by (key_of_words other)) (sym keyed) ∙ apart))
