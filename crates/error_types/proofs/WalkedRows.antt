-- Rows that are filled by going up from each type.
use Rattle.std.proofs.Common.{ℕ, suc, ◌+◌, ◌-◌, ◌<◌, ◌≤◌, ◌≡◌, ◌≢◌, inl, inr, Bool, true, false, ◌&&◌, ◌||◌, cond, nat_eq, nat_lt, List, [], ◌∷◌, ◌++◌, length, map, get_or, replicate, set, Option, Some, None, refl, sym, ap, subst, ◌∙◌, add-one, arith}
use Rattle.std.specs.List.{slice_get}
use Rattle.std.proofs.lemmas.List.{map-append}
use Rattle.std.proofs.lemmas.Option.{get_or_from_slice_get, slice_get_within}
use Rattle.std.proofs.lemmas.Bool.{cases_eq, cases_lt, lt-ltb, le-ltb}
use Rattle.error_types.specs.inner.Rows.{put_at, row_below, rows_so_far}
use Rattle.plain_values.specs.Numbered.{numbers_below}
use Rattle.error_types.specs.Types.{is_base_so, is_below_in}
use Rattle.error_types.specs.inner.Types.{base_in, is_below_by}
use Rattle.error_types.proofs.HierarchyLaws.{is-other, is-same, no-step, one-step}
use Rattle.error_types.proofs.RowLaws.{all-below, at-number, long, same-below, set-below}

-- ---- for each two numbers below a bound, whether it is so

abbrev pub grid : ℕ → (ℕ → ℕ → Bool) → List (List Bool)
grid n f = map (λ high. map (f high) (numbers_below n)) (numbers_below n)

same-grid : (n : ℕ) (f g : ℕ → ℕ → Bool) → ((h k : ℕ) → h < n → k < n → f h k ≡ g h k) → grid n f ≡ grid n g
same-grid n f g same = same-below (λ h. map (f h) (numbers_below n)) (λ h. map (g h) (numbers_below n)) n (λ h less. same-below (f h) (g h) n (λ k fewer. same h k less fewer))

put-grid : (n : ℕ) (f g : ℕ → ℕ → Bool) (a b : ℕ) → a < n → b < n → g a b ≡ true → ((k : ℕ) → k ≢ b → g a k ≡ f a k) → ((h k : ℕ) → h ≢ a → g h k ≡ f h k) → put_at (grid n f) a b ≡ grid n g
put-grid n f g a b within inside here row rows =
    let row_f = λ (h : ℕ). map (f h) (numbers_below n) in
    let row_g = λ (h : ℕ). map (g h) (numbers_below n) in
    let there : nat_lt a (length (grid n f)) ≡ true = lt-ltb a (length (grid n f)) (omega (arith, within, long row_f n)) in
    let new : row_g a ≡ set (row_f a) b true = set-below (f a) (g a) n b true inside here (λ k _ apart. row k apart) in
    ap (λ t. cond t (set (grid n f) a (set (get_or (grid n f) a []) b true)) (grid n f)) there
    ∙ ap (λ r. set (grid n f) a (set r b true)) (at-number row_f n a [] within)
    ∙ sym (set-below row_f row_g n a (set (row_f a) b true) within new (λ h _ apart. same-below (g h) (f h) n (λ k _. rows h k apart)))

past-grid : (n : ℕ) (f : ℕ → ℕ → Bool) (a b : ℕ) → n ≤ a → put_at (grid n f) a b ≡ grid n f
past-grid n f a b past =
    ap (λ t. cond t (set (grid n f) a (set (get_or (grid n f) a []) b true)) (grid n f)) (le-ltb a (length (grid n f)) (omega (arith, past, long (λ h. map (f h) (numbers_below n)) n)))

-- each row has room for each number
grid-room : (n : ℕ) (f : ℕ → ℕ → Bool) (rows : List (List Bool)) (b : ℕ) → rows ≡ grid n f → b < n → (i : ℕ) → i < length rows → b < length (get_or rows i [])
grid-room n f rows b is inside i within =
    let row = λ (h : ℕ). map (f h) (numbers_below n) in
    let fewer : i < n = omega (arith, within, ap length is, long row n) in
    let wide : length (get_or rows i []) ≡ n = ap (λ r. length (get_or r i [])) is ∙ ap length (at-number row n i [] fewer) ∙ long (f i) n in
    omega (arith, inside, wide)

or-none : (x b : Bool) → x ≡ (x || (b && false))
or-none true b = refl
or-none false true = refl
or-none false false = refl

or-assoc : (a b c : Bool) → ((a || b) || c) ≡ (a || (b || c))
or-assoc true b c = refl
or-assoc false b c = refl

or-false : (a : Bool) → (a || false) ≡ a
or-false true = refl
or-false false = refl

-- ---- going up from one type

module _ (bases : List (Option ℕ)) (low : ℕ) where
  -- whether a type is in the row of another, where those below `low` are, and `low` is in the rows that were seen
  abbrev cell : (ℕ → Bool) → ℕ → ℕ → Bool
  cell seen high k = (nat_lt k low && is_below_by bases k high) || (nat_eq k low && seen high)

  -- How far the way up from a type has come: which rows have it, and that this and what is left make the whole.
  pub record Walked (steps now : ℕ) (rows : List (List Bool)) : Type 0 where
    pub seen : ℕ → Bool
    pub rows_are : rows ≡ grid (length bases) (cell seen)
    pub left : (high : ℕ) → (seen high || is_below_in steps (base_in bases) now high) ≡ is_below_in (length bases) (base_in bases) low high

  pub walk-begins : (rows : List (List Bool)) (steps : ℕ) → steps ≡ length bases → rows ≡ rows_so_far bases low → Walked steps low rows
  walk-begins rows steps all is = record {
    seen = λ _. false;
    rows_are = is ∙ same-grid (length bases) (λ h k. nat_lt k low && is_below_by bases k h) (cell (λ _. false)) (λ h k _ _. or-none (nat_lt k low && is_below_by bases k h) (nat_eq k low));
    left = λ high. ap (λ n. is_below_in n (base_in bases) low high) all;
  }

  -- each row that there is has room for this type
  pub walk-room : low < length bases → (steps now : ℕ) (rows : List (List Bool)) → Walked steps now rows → (place : ℕ) (row : List Bool) → slice_get rows place ≡ Some row → low < length row
  walk-room less steps now rows walked place row at =
      let room = grid-room (length bases) (cell walked.seen) rows low walked.rows_are less place (slice_get_within rows place row at) in
      omega (arith, room, ap length (get_or_from_slice_get rows place row [] at))

  abbrev seen_too : (ℕ → Bool) → ℕ → ℕ → Bool
  seen_too seen now high = seen high || nat_eq now high

  module _ (less : low < length bases) (seen : ℕ → Bool) (now : ℕ) where
    put-other : (h k : ℕ) → h ≢ now → cell (seen_too seen now) h k ≡ cell seen h k
    put-other h k apart = ap (λ t. (nat_lt k low && is_below_by bases k h) || (nat_eq k low && t)) (ap (λ t. seen h || t) (is-other now h (λ same. apart (sym same))) ∙ or-false (seen h))

    put-seen : put_at (grid (length bases) (cell seen)) now low ≡ grid (length bases) (cell (seen_too seen now))
    put-seen =
        elim (cases_lt now (length bases)) [
          | inl within ↦
              put-grid (length bases) (cell seen) (cell (seen_too seen now)) now low within less here
              (λ k apart. ap (λ t. (nat_lt k low && is_below_by bases k now) || (t && (seen now || nat_eq now now))) (is-other k low apart) ∙ ap (λ t. (nat_lt k low && is_below_by bases k now) || (t && seen now)) (sym (is-other k low apart)))
              put-other
          | inr past ↦
              past-grid (length bases) (cell seen) now low past
              ∙ same-grid (length bases) (cell seen) (cell (seen_too seen now)) (λ h k within _. sym (put-other h k (λ same. absurd (omega (arith, within, past, same)))))
        ]
      where
        any : (x y : Bool) → (x || (true && (y || true))) ≡ true
        any true y = refl
        any false true = refl
        any false false = refl

        here : cell (seen_too seen now) now low ≡ true
        here =
            ap (λ t. (nat_lt low low && is_below_by bases low now) || (t && (seen now || nat_eq now now))) (is-same low low refl)
            ∙ ap (λ t. (nat_lt low low && is_below_by bases low now) || (true && (seen now || t))) (is-same now now refl)
            ∙ any (nat_lt low low && is_below_by bases low now) (seen now)

  module _ (less : low < length bases) (now : ℕ) (rows later : List (List Bool)) (put : later ≡ put_at rows now low) where
    put-is : (seen : ℕ → Bool) → rows ≡ grid (length bases) (cell seen) → later ≡ grid (length bases) (cell (seen_too seen now))
    put-is seen is = put ∙ ap (λ r. put_at r now low) is ∙ put-seen less seen now

    module _ (i : ℕ) (within : i < length bases) (walked : Walked (length bases - i) now rows) where
      step-is : (high : ℕ) → (seen_too walked.seen now high || is_base_so (λ number. is_below_in (length bases - (i + 1)) (base_in bases) number high) (base_in bases now)) ≡ is_below_in (length bases) (base_in bases) low high
      step-is high =
          let more : length bases - i ≡ suc (length bases - (i + 1)) = omega (arith, within) in
          or-assoc (walked.seen high) (nat_eq now high) _
          ∙ ap (λ t. walked.seen high || t) (sym (one-step (base_in bases) high (length bases - i) (length bases - (i + 1)) now more))
          ∙ walked.left high

      pub walk-goes_on : (next : ℕ) → base_in bases now ≡ Some next → Walked (length bases - (i + 1)) next later
      walk-goes_on next is = record {
        seen = seen_too walked.seen now;
        rows_are = put-is walked.seen walked.rows_are;
        left = λ high. ap (λ base. seen_too walked.seen now high || is_base_so (λ number. is_below_in (length bases - (i + 1)) (base_in bases) number high) base) (sym is) ∙ step-is high;
      }

    all-seen : (seen : ℕ → Bool) → ((high : ℕ) → seen high ≡ is_below_in (length bases) (base_in bases) low high) → later ≡ grid (length bases) (cell seen) → later ≡ rows_so_far bases (low + 1)
    all-seen seen whole is =
        is ∙ same-grid (length bases) (cell seen) (λ h k. nat_lt k (low + 1) && is_below_by bases k h)
        (λ h k inside _.
        elim (cases_eq k low) [
          | inl same ↦
              subst (λ j. cell seen h j ≡ (nat_lt j (low + 1) && is_below_by bases j h)) (sym same) (at-low h inside)
          | inr apart ↦
              ap (λ t. (nat_lt k low && is_below_by bases k h) || (t && seen h)) (is-other k low apart)
              ∙ or-false (nat_lt k low && is_below_by bases k h)
              ∙ ap (λ t. t && is_below_by bases k h) (same-test k apart)
        ])
      where
        at-low : (h : ℕ) → h < length bases → cell seen h low ≡ (nat_lt low (low + 1) && is_below_by bases low h)
        at-low h inside =
            ap (λ t. (t && is_below_by bases low h) || (nat_eq low low && seen h)) (le-ltb low low (omega arith))
            ∙ ap (λ t. t && seen h) (is-same low low refl)
            ∙ whole h
            ∙ (λ i. (sym (lt-ltb low (length bases) less) i && sym (lt-ltb h (length bases) inside) i) && is_below_in (length bases) (base_in bases) low h)
            ∙ ap (λ t. t && is_below_by bases low h) (sym (lt-ltb low (low + 1) (omega arith)))

        same-test : (k : ℕ) → k ≢ low → nat_lt k low ≡ nat_lt k (low + 1)
        same-test k apart =
            elim (cases_lt k low) [
              | inl fewer ↦ lt-ltb k low fewer ∙ sym (lt-ltb k (low + 1) (omega (arith, fewer)))
              | inr more ↦ le-ltb k low more ∙ sym (le-ltb k (low + 1) (omega (arith, more, apart)))
            ]

    pub walk-ends : (i : ℕ) → i < length bases → Walked (length bases - i) now rows → base_in bases now ≡ None → later ≡ rows_so_far bases (low + 1)
    walk-ends i within walked none =
        all-seen (seen_too walked.seen now)
        (λ high.
        sym (or-false (seen_too walked.seen now high))
        ∙ ap (λ base. seen_too walked.seen now high || is_base_so (λ number. is_below_in (length bases - (i + 1)) (base_in bases) number high) base) (sym none)
        ∙ step-is i within walked high)
        (put-is walked.seen walked.rows_are)

    pub walk-all : (i : ℕ) → length bases ≤ i → Walked (length bases - i) now rows → later ≡ rows_so_far bases (low + 1)
    walk-all i past walked =
        let none : length bases - i ≡ 0 = omega (arith, past) in
        all-seen (seen_too walked.seen now)
        (λ high. ap (λ t. walked.seen high || t) (sym (no-step (base_in bases) high (length bases - i) now none)) ∙ walked.left high)
        (put-is walked.seen walked.rows_are)

-- ---- the whole

pub begin-rows : (bases : List (Option ℕ)) (rows : List (List Bool)) → rows ≡ map (λ _. replicate (length bases) false) (numbers_below (length bases)) → rows ≡ rows_so_far bases 0
begin-rows bases rows is =
    is ∙ same-below (λ _. replicate (length bases) false) (λ high. map (λ low. nat_lt low 0 && is_below_by bases low high) (numbers_below (length bases))) (length bases)
    (λ high _. sym (all-below (λ low. nat_lt low 0 && is_below_by bases low high) (length bases) false (λ low. ap (λ t. t && is_below_by bases low high) (le-ltb low 0 (omega arith)))))

pub end-rows : (bases : List (Option ℕ)) → rows_so_far bases (length bases) ≡ map (row_below bases) (numbers_below (length bases))
end-rows bases =
    same-grid (length bases) (λ h k. nat_lt k (length bases) && is_below_by bases k h) (λ h k. is_below_by bases k h)
    (λ h k _ within. ap (λ t. t && is_below_by bases k h) (lt-ltb k (length bases) within))

pub row-more : (f : ℕ → List Bool) (n : ℕ) → map f (numbers_below (n + 1)) ≡ map f (numbers_below n) ++ f n ∷ []
row-more f n = ap (λ m. map f (numbers_below m)) (add-one n) ∙ map-append f (numbers_below n) (n ∷ [])
