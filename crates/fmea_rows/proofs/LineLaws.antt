-- The lines of a table are records of RFC 4180 whose fields need no quotes, and are read back as they were.
use Rattle.std.proofs.Common.{ℕ, zero, suc, ◌+◌, ◌≡◌, ◌≢◌, ◌<◌, ◌≤◌, ◌/◌, ◌%◌, ◌==◌, ◌||◌, nat_lt, Bool, true, false, cond, List, [], ◌∷◌, ◌++◌, length, take, map, codes, decimal, unwrap_or, All, inl, inr, ⊎_elim, ap, ◌∙◌, sym, refl, subst, arith, rules, tests, append-nil}
use Rattle.std.specs.Prelude.{slice_get, slice_index_or}
use Rattle.std.specs.Option.{option_map}
use Rattle.std.specs.Fmt.{digits, digits_onto, digit_glyph}
use Rattle.std.specs.List.{AllByRecursion, concat, flat_map, join_with_byte, list_any, position_or_len}
use Rattle.std.proofs.lemmas.Bool.{false≢true, ne_eqb}
use Rattle.std.proofs.lemmas.List.Folds.{flat_map-map, list_any-append}
use lib.ListN.{length-map}
use Rattle.aadl_syntax.specs.Form.{One, Joined, Perhaps, Either, Repeated, Digits, IsExponent, IsFraction, IsNumber, Byte, is_digit, is_hexadecimal}
use Rattle.csv.specs.Reading.{default_config, records_from}
use Rattle.csv.specs.Writing.{default_writer, field_text, fields_text, is_blank, needs_byte, read_back, row_text}
use Rattle.csv.specs.declared.parser.State.TheVariants.{StartRecord}
use Rattle.csv.proofs.RoundTrip.{read-write-all, rows_text}
use Rattle.fault_system.specs.Systems.{System, event_name, fact_name}
use Rattle.fault_system.specs.declared.formula.EventInfo.{EventInfo}
use Rattle.fault_system.specs.declared.formula.FactInfo.{FactInfo}
use Rattle.fault_system.proofs.Elements.{In, In-append, contains_In}
use Rattle.property_reader.specs.Rates.{conservative_rate, rate_word}
use Rattle.property_reader.specs.declared.rate.Rate.{Rate}
use Rattle.property_reader.specs.declared.rate.RateKind.{RateKind}
use Rattle.property_reader.specs.declared.rate.RateKind.TheVariants.{Prob, Lambda}
use Rattle.fmea_rows.specs.Text.{component_of, header, line_text, rate_of, rate_text, row_fields, table_text}
use Rattle.fmea_rows.specs.inner.Text.{HasFieldNames, IsPlainField}
use Rattle.fmea_rows.specs.inner.Written.{record_text, row_record}
use Rattle.fmea_rows.specs.declared.row.Row.{Row}

-- ---- fields that need no quotes

-- a field that is written as it is
abbrev pub Plain : List ℕ → Type 0
Plain field = list_any (needs_byte default_writer) field ≡ false

other-byte : (b : ℕ) → b ≢ 44 → b ≢ 34 → b ≢ 10 → b ≢ 13 → needs_byte default_writer b ≡ false
other-byte b comma quote feed return = rw (ne_eqb b 44 comma, ne_eqb b 34 quote, ne_eqb b 13 return, ne_eqb b 10 feed) refl

plain-without : (field : List ℕ) → (In 44 field → ⊥) → (In 34 field → ⊥) → (In 10 field → ⊥) → (In 13 field → ⊥) → Plain field
plain-without [] comma quote feed return = refl
plain-without (b ∷ bs) comma quote feed return =
    ap (λ x. x || list_any (needs_byte default_writer) bs) (other-byte b (λ e. comma (inl e)) (λ e. quote (inl e)) (λ e. feed (inl e)) (λ e. return (inl e)))
    ∙ plain-without bs (λ i. comma (inr i)) (λ i. quote (inr i)) (λ i. feed (inr i)) (λ i. return (inr i))

plain-field : (field : List ℕ) → IsPlainField field → Plain field
plain-field field is = plain-without field (λ i. is.no_comma (contains_In 44 field i)) (λ i. is.no_quote (contains_In 34 field i)) (λ i. is.no_line_feed (contains_In 10 field i)) (λ i. is.no_return (contains_In 13 field i))

plain-both : (xs ys : List ℕ) → Plain xs → Plain ys → Plain (xs ++ ys)
plain-both xs ys p q = list_any-append (needs_byte default_writer) xs ys ∙ ap (λ b. b || list_any (needs_byte default_writer) ys) p ∙ q

or_parts : (a b : Bool) → a || b ≡ false → (a ≡ false) × (b ≡ false)
or_parts true b e = absurd (false≢true (sym e))
or_parts false b e = (refl, e)

plain-front : (n : ℕ) (xs : List ℕ) → Plain xs → Plain (take n xs)
plain-front zero xs p = refl
plain-front (suc n) [] p = refl
plain-front (suc n) (x ∷ xs) p =
    let both = or_parts (needs_byte default_writer x) (list_any (needs_byte default_writer) xs) p in
    ap (λ b. b || list_any (needs_byte default_writer) (take n xs)) both.0 ∙ plain-front n xs both.1

-- ---- numbers

-- no list of this form holds a byte
abbrev Lacks : ℕ → (List ℕ → Type 0) → Type 0
Lacks byte Form = (bytes : List ℕ) → Form bytes → In byte bytes → ⊥

lacks-one : (byte : ℕ) (class : ℕ → Bool) → class byte ≡ false → Lacks byte (One class)
lacks-one byte class none [] form i = i
lacks-one byte class none (b ∷ []) form i = ⊎_elim (λ (e : b ≡ byte). false≢true (sym none ∙ ap class (sym e) ∙ form)) (λ later. later) i
lacks-one byte class none (b ∷ c ∷ rest) form i = form

lacks-joined : (byte : ℕ) (First Second : List ℕ → Type 0) → Lacks byte First → Lacks byte Second → Lacks byte (Joined First Second)
lacks-joined byte First Second f s bytes is i = ⊎_elim (f is.front is.first) (s is.back is.second) (In-append byte is.front is.back (subst (In byte) is.whole i))

lacks-perhaps : (byte : ℕ) (Form : List ℕ → Type 0) → Lacks byte Form → Lacks byte (Perhaps Form)
lacks-perhaps byte Form f bytes is i = ⊎_elim (λ (none : bytes ≡ []). subst (In byte) none i) (λ form. f bytes form i) is

lacks-either : (byte : ℕ) (First Second : List ℕ → Type 0) → Lacks byte First → Lacks byte Second → Lacks byte (Either First Second)
lacks-either byte First Second f s bytes is i = ⊎_elim (λ form. f bytes form i) (λ form. s bytes form i) is

lacks-parts : (byte : ℕ) (Form : List ℕ → Type 0) → Lacks byte Form → (parts : List (List ℕ)) → AllByRecursion Form parts → In byte (concat parts) → ⊥
lacks-parts byte Form f [] each i = i
lacks-parts byte Form f (part ∷ parts) each i = ⊎_elim (f part each.0) (lacks-parts byte Form f parts each.1) (In-append byte part (concat parts) i)

lacks-repeated : (byte : ℕ) (Form : List ℕ → Type 0) → Lacks byte Form → Lacks byte (Repeated Form)
lacks-repeated byte Form f bytes is i = lacks-parts byte Form f is.parts is.each (subst (In byte) is.whole i)

lacks-digits : (byte : ℕ) (class : ℕ → Bool) → class byte ≡ false → (byte == 95) ≡ false → Lacks byte (Digits class)
lacks-digits byte class none other = lacks-joined byte (One class) _ (lacks-one byte class none) (lacks-repeated byte _ (lacks-one byte _ (ap (λ b. b || (byte == 95)) none ∙ other)))

-- a byte that is no digit and none of the signs of a number
number-lacks : (byte : ℕ) → is_digit byte ≡ false → is_hexadecimal byte ≡ false → (byte == 95) ≡ false → (byte == 46) ≡ false → (byte == 35) ≡ false
    → (byte == 101 || byte == 69) ≡ false → (byte == 43 || byte == 45) ≡ false → Lacks byte IsNumber
number-lacks byte digit hexadecimal underline point base letter sign =
    lacks-joined byte (Digits is_digit) _ (lacks-digits byte is_digit digit underline)
    (lacks-either byte _ _
    (lacks-joined byte (Perhaps IsFraction) _ (lacks-perhaps byte IsFraction (lacks-joined byte (Byte 46) _ (lacks-one byte _ point) (lacks-digits byte is_digit digit underline)))
    (lacks-perhaps byte IsExponent (lacks-joined byte _ _ (lacks-one byte _ letter) (lacks-joined byte _ _ (lacks-perhaps byte _ (lacks-one byte _ sign)) (lacks-digits byte is_digit digit underline)))))
    (lacks-joined byte (Byte 35) _ (lacks-one byte _ base) (lacks-joined byte (Digits is_hexadecimal) (Byte 35) (lacks-digits byte is_hexadecimal hexadecimal underline) (lacks-one byte _ base))))

plain-number : (bytes : List ℕ) → IsNumber bytes → Plain bytes
plain-number bytes is = plain-without bytes
    (number-lacks 44 refl refl refl refl refl refl refl bytes is) (number-lacks 34 refl refl refl refl refl refl refl bytes is)
    (number-lacks 10 refl refl refl refl refl refl refl bytes is) (number-lacks 13 refl refl refl refl refl refl refl bytes is)

-- ---- decimal numbers

abbrev IsDigit : ℕ → Type 0
IsDigit b = (48 ≤ b) × (b ≤ 57)

glyph : (d : ℕ) → d < 10 → IsDigit (digit_glyph false d)
glyph d h = by (nat_lt d 10) below
  where
    below : nat_lt d 10 ≡ true
    below = search (rules, tests)

    by : (b : Bool) → b ≡ true → IsDigit (cond b (48 + d) (87 + d))
    by true e = (omega arith, omega arith)
    by false e = absurd (false≢true e)

onto-plain : (k n : ℕ) (acc : List ℕ) → AllByRecursion IsDigit acc → AllByRecursion IsDigit (digits_onto k 10 false n acc)
onto-plain zero n acc all = all
onto-plain (suc k) n acc all = by (n / 10 == 0) (onto-plain k (n / 10) (digit_glyph false (n % 10) ∷ acc) (glyph (n % 10) (omega arith), all))
  where
    by : (b : Bool) → AllByRecursion IsDigit (digits_onto k 10 false (n / 10) (digit_glyph false (n % 10) ∷ acc)) → AllByRecursion IsDigit (cond b (digit_glyph false (n % 10) ∷ acc) (digits_onto k 10 false (n / 10) (digit_glyph false (n % 10) ∷ acc)))
    by true rest = (glyph (n % 10) (omega arith), all)
    by false rest = rest

digits-plain : (bytes : List ℕ) → AllByRecursion IsDigit bytes → Plain bytes
digits-plain [] all = refl
digits-plain (b ∷ bytes) all =
    ap (λ x. x || list_any (needs_byte default_writer) bytes) (other-byte b (λ e. omega (arith, all.0.0)) (λ e. omega (arith, all.0.0)) (λ e. omega (arith, all.0.0)) (λ e. omega (arith, all.0.0))) ∙ digits-plain bytes all.1

plain-decimal : (n : ℕ) → Plain (decimal n)
unfolding digits
plain-decimal n = digits-plain (decimal n) (onto-plain 64 n [] tt)

-- ---- the fields of rows

-- what holds of no name and of the names of all items holds of the name at a number
name-at : {X : Type 0} (name : X → List ℕ) (xs : List X) (n : ℕ) → All (λ x. IsPlainField (name x)) xs → Plain (unwrap_or (option_map name (slice_get xs n)) [])
name-at name [] n all = refl
name-at name (x ∷ xs) zero all = plain-field (name x) (all zero x (omega arith))
name-at name (x ∷ xs) (suc n) all = name-at name xs n (λ k d h. all (suc k) d (omega arith))

word-plain : (kind : RateKind) → Plain (rate_word kind)
word-plain Prob = refl
word-plain Lambda = refl

number-at : (rates : List Rate) (n : ℕ) → All (λ rate. IsNumber rate.text) rates → Plain (slice_index_or rates n conservative_rate).text
number-at [] n all = refl
number-at (rate ∷ rates) zero all = plain-number rate.text (all zero rate (omega arith))
number-at (rate ∷ rates) (suc n) all = number-at rates n (λ k d h. all (suc k) d (omega arith))

fields-plain : (system : System) (rates : List Rate) (row : Row) → HasFieldNames system → All (λ rate. IsNumber rate.text) rates → AllByRecursion Plain (row_fields system rates row)
fields-plain system rates row names numbers =
    let event : Plain (event_name system row.event) = name-at (λ (e : EventInfo). e.name) system.events row.event names.events in (
      plain-front (position_or_len (λ byte. byte == 47) (event_name system row.event)) (event_name system row.event) event,
      (
        event,
        (
          plain-both (rate_word (rate_of rates row.event).kind) (rate_of rates row.event).text (word-plain (rate_of rates row.event).kind) (number-at rates row.event numbers),
          (
            name-at (λ (f : FactInfo). f.name) system.facts row.effect names.facts,
            (plain-decimal row.round, tt),
          ),
        ),
      ),
    )

header-plain : AllByRecursion Plain header
header-plain = (refl, (refl, (refl, (refl, (refl, tt)))))

-- ---- records without quotes

as_it_is : (field : List ℕ) → Plain field → field_text default_writer field ≡ field
as_it_is field p = rw p refl

joined-fields : (x : List ℕ) (rest : List (List ℕ)) → AllByRecursion Plain (x ∷ rest) → field_text default_writer x ++ fields_text default_writer rest ≡ join_with_byte 44 (x ∷ rest)
unfolding fields_text
joined-fields x [] p = append-nil (field_text default_writer x) ∙ as_it_is x p.0
joined-fields x (y ∷ rest) p =
    let head : field_text default_writer x ≡ x = as_it_is x p.0 in
    let tail : field_text default_writer y ++ fields_text default_writer rest ≡ join_with_byte 44 (y ∷ rest) = joined-fields y rest p.1 in
    λ i. head i ++ (44 ∷ tail i)

-- a record of two or more fields without quotes is a line
record-line : (x y : List ℕ) (rest : List (List ℕ)) → AllByRecursion Plain (x ∷ y ∷ rest) → row_text default_writer (x ∷ y ∷ rest) ≡ line_text (x ∷ y ∷ rest)
unfolding is_blank
record-line x y rest p = ap (λ body. body ++ (10 ∷ [])) (joined-fields x (y ∷ rest) p)

rows-text : (xs : List (List (List ℕ))) → rows_text xs ≡ flat_map record_text xs
unfolding rows_text
rows-text [] = refl
rows-text (x ∷ xs) = ap (λ rest. record_text x ++ rest) (rows-text xs)

module _ (system : System) (rates : List Rate) (names : HasFieldNames system) (numbers : All (λ rate. IsNumber rate.text) rates) where
  rows-lines : (rows : List Row) → flat_map (row_record system rates) rows ≡ flat_map line_text (map (row_fields system rates) rows)
  rows-lines [] = refl
  rows-lines (row ∷ rows) =
      let head : record_text (row_fields system rates row) ≡ line_text (row_fields system rates row) = record-line (component_of (event_name system row.event)) (event_name system row.event)
      (rate_text (rate_of rates row.event) ∷ fact_name system row.effect ∷ decimal row.round ∷ []) (fields-plain system rates row names numbers) in
      let tail = rows-lines rows in
      λ i. head i ++ tail i

  -- the records of a table are its lines
  pub table-lines : (rows : List Row) → record_text header ++ flat_map (row_record system rates) rows ≡ table_text system rates rows
  table-lines rows =
      let head : record_text header ≡ line_text header = record-line (codes "component") (codes "event") (codes "rate" ∷ codes "effect" ∷ codes "round" ∷ []) header-plain in
      let tail = rows-lines rows in
      λ i. head i ++ tail i

  read-fields : (rows : List Row) → map read_back (map (row_fields system rates) rows) ≡ map (row_fields system rates) rows
  read-fields [] = refl
  read-fields (row ∷ rows) = ap (λ rest. row_fields system rates row ∷ rest) (read-fields rows)

  -- what is read from a table
  pub table-read : (rows : List Row) → records_from default_config (length rows + 1) StartRecord (table_text system rates rows) ≡ header ∷ map (row_fields system rates) rows
  table-read rows =
      let count : length rows + 1 ≡ length (header ∷ map (row_fields system rates) rows) = omega (arith, length-map rows (row_fields system rates)) in
      let text : table_text system rates rows ≡ rows_text (header ∷ map (row_fields system rates) rows) = sym (table-lines rows) ∙ ap (λ rest. record_text header ++ rest) (sym (flat_map-map record_text (row_fields system rates) rows)) ∙ sym (rows-text (header ∷ map (row_fields system rates) rows)) in
      (λ i. records_from default_config (count i) StartRecord (text i))
      ∙ read-write-all (header ∷ map (row_fields system rates) rows) ∙ ap (λ rest. header ∷ rest) (read-fields rows)
