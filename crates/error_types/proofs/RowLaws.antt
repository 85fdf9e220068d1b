-- Lists by number, and rows of bits.
use Rattle.std.proofs.Common.{ℕ, zero, suc, ◌+◌, ◌*◌, ◌/◌, ◌%◌, ◌^◌, ◌<◌, ◌≤◌, ◌≡◌, ◌≢◌, inl, inr, Bool, true, false, ◌||◌, cond, nat_eq, nat_lt, max, min, List, [], ◌∷◌, ◌++◌, length, map, filter, get_or, replicate, set, refl, sym, ap, ◌∙◌, arith}
use Rattle.std.specs.Prelude.{bit_or}
use Rattle.std.specs.Int.{bit_at, w64}
use Rattle.std.proofs.lemmas.Bool.{cases_eq, cases_lt, lt-ltb, le-ltb}
use Rattle.std.proofs.lemmas.List.{get_or-replicate, get_or-set_other, get_or-set_same, get_or_append_left, get_or_past, get_or_push, length-append, length-map, length-replicate, length-set, map-append, same_lists}
use Rattle.std.proofs.lemmas.List.Elements.{filter-append}
use Rattle.std.proofs.lemmas.Nat.{div-add-mod', div_below, mod_below}
use Rattle.std.proofs.lemmas.Nat.Bits.{bit_at-lt, bit_at-zero, bit_at_or, bit_at_set_other, bit_at_set_same}
use Rattle.error_types.specs.inner.Rows.{either, has_bit, numbers_in}
use Rattle.plain_values.specs.Numbered.{numbers_below}
use Rattle.error_types.specs.inner.Words.{Joins, bit_in, bits_of, with_bit}

-- ---- lists by number

pub length-below : (n : ℕ) → length (numbers_below n) ≡ n
length-below zero = refl
length-below (suc n) = length-append (numbers_below n) (n ∷ []) ∙ ap (λ m. m + 1) (length-below n) ∙ (let e : n + 1 ≡ suc n = omega arith in e)

module _ {B : Type 0} (f : ℕ → B) where
  pub long : (n : ℕ) → length (map f (numbers_below n)) ≡ n
  long n = length-map (numbers_below n) f ∙ length-below n

  pub at-number : (n k : ℕ) (d : B) → k < n → get_or (map f (numbers_below n)) k d ≡ f k
  at-number zero k d less = absurd (omega (arith, less))
  at-number (suc n) k d less =
      ap (λ xs. get_or xs k d) (map-append f (numbers_below n) (n ∷ []))
      ∙ elim (cases_lt k n) [
        | inl fewer ↦ (let within : k < length (map f (numbers_below n)) = omega (arith, fewer, long n) in get_or_append_left (map f (numbers_below n)) (f n ∷ []) d k within ∙ at-number n k d fewer)
        | inr last ↦ (let same : n ≡ k = omega (arith, last, less) in get_or_push (map f (numbers_below n)) (f n) d k (long n ∙ same) ∙ ap f same)
      ]

module _ {B : Type 0} (f g : ℕ → B) where
  pub same-below : (n : ℕ) → ((k : ℕ) → k < n → f k ≡ g k) → map f (numbers_below n) ≡ map g (numbers_below n)
  same-below n same =
      same_lists (map f (numbers_below n)) (map g (numbers_below n)) (long f n ∙ sym (long g n))
      (λ k d less. (let within : k < n = omega (arith, less, long f n) in at-number f n k d within ∙ same k within ∙ sym (at-number g n k d within)))

  pub set-below : (n k : ℕ) (v : B) → k < n → g k ≡ v → ((j : ℕ) → j < n → j ≢ k → g j ≡ f j) → map g (numbers_below n) ≡ set (map f (numbers_below n)) k v
  set-below n k v less here other =
      same_lists (map g (numbers_below n)) (set (map f (numbers_below n)) k v) (long g n ∙ sym (length-set (map f (numbers_below n)) k v ∙ long f n))
      (λ j d fewer.
      let within : j < n = omega (arith, fewer, long g n) in
      at-number g n j d within
      ∙ elim (cases_eq j k) [
        | inl same ↦
            let inside : k < length (map f (numbers_below n)) = omega (arith, less, long f n) in
            ap g same ∙ here ∙ sym (ap (λ m. get_or (set (map f (numbers_below n)) k v) m d) same ∙ get_or-set_same (map f (numbers_below n)) k v d inside)
        | inr apart ↦ other j within apart ∙ sym (get_or-set_other (map f (numbers_below n)) k j v d apart ∙ at-number f n j d within)
      ])

pub all-below : {B : Type 0} (f : ℕ → B) (n : ℕ) (v : B) → ((k : ℕ) → f k ≡ v) → map f (numbers_below n) ≡ replicate n v
all-below f n v same =
    same_lists (map f (numbers_below n)) (replicate n v) (long f n ∙ sym (length-replicate n v))
    (λ k d less. (let within : k < n = omega (arith, less, long f n) in at-number f n k d within ∙ same k ∙ sym (get_or-replicate n k v d within)))

pub filter-below : (p q : ℕ → Bool) (n : ℕ) → ((k : ℕ) → k < n → p k ≡ q k) → filter p (numbers_below n) ≡ filter q (numbers_below n)
filter-below p q zero same = refl
filter-below p q (suc n) same =
    filter-append p (numbers_below n) (n ∷ [])
    ∙ (λ i. filter-below p q n (λ k less. same k (omega (arith, less))) i ++ cond (same n (omega arith) i) (n ∷ []) [])
    ∙ sym (filter-append q (numbers_below n) (n ∷ []))

-- ---- rows

pub either-map : (f g : ℕ → Bool) (xs : List ℕ) → either (map f xs) (map g xs) ≡ map (λ x. f x || g x) xs
either-map f g [] = refl
either-map f g (x ∷ xs) = ap (λ rest. (f x || g x) ∷ rest) (either-map f g xs)

pub bit-there : (f : ℕ → Bool) (n k : ℕ) → k < n → has_bit (map f (numbers_below n)) k ≡ f k
bit-there f n k less = at-number f n k false less

pub bit-past : (f : ℕ → Bool) (n k : ℕ) → n ≤ k → has_bit (map f (numbers_below n)) k ≡ false
bit-past f n k past = get_or_past (map f (numbers_below n)) k false (omega (arith, past, long f n))

pub numbers-of : (f : ℕ → Bool) (n : ℕ) → numbers_in (map f (numbers_below n)) ≡ filter f (numbers_below n)
numbers-of f n = ap (λ m. filter (has_bit (map f (numbers_below n))) (numbers_below m)) (long f n) ∙ filter-below (has_bit (map f (numbers_below n))) f n (λ k less. bit-there f n k less)

-- ---- words

no-bits : (n k : ℕ) → bit_in (replicate n 0) k ≡ false
no-bits n k =
    elim (cases_lt (k / 64) n) [
      | inl within ↦ ap (λ w. nat_eq (bit_at w (k % 64)) 1) (get_or-replicate n (k / 64) 0 0 within) ∙ ap (λ b. nat_eq b 1) (bit_at-zero (k % 64))
      | inr past ↦
          let beyond : length (replicate n 0) ≤ k / 64 = omega (arith, past, length-replicate {A = ℕ} n 0) in
          ap (λ w. nat_eq (bit_at w (k % 64)) 1) (get_or_past (replicate n 0) (k / 64) 0 beyond) ∙ ap (λ b. nat_eq b 1) (bit_at-zero (k % 64))
    ]

pub empty-words : (count n : ℕ) → bits_of count (replicate n 0) ≡ replicate count false
empty-words count n = all-below (bit_in (replicate n 0)) count false (no-bits n)

within-word : (k : ℕ) → k % 64 < 64
within-word k = mod_below k 64 (omega arith)

same-number : (j k : ℕ) → j / 64 ≡ k / 64 → j % 64 ≡ k % 64 → j ≡ k
same-number j k word bit =
    let a = div-add-mod' j 64 in
    let b = div-add-mod' k 64 in
    let c : j / 64 * 64 ≡ k / 64 * 64 = ap (λ m. m * 64) word in
    omega (arith, a, b, c, bit)

module _ (words : List ℕ) (k : ℕ) (within : k / 64 < length words) where
  abbrev word : ℕ
  word = get_or words (k / 64) 0

  abbrev marked_word : ℕ
  marked_word = bit_or word (1 * 2 ^ (k % 64) % 2 ^ 64)

  mark-here : bit_in (with_bit words k) k ≡ true
  mark-here = ap (λ w. nat_eq (bit_at w (k % 64)) 1) (get_or-set_same words (k / 64) marked_word 0 within) ∙ ap (λ b. nat_eq b 1) (bit_at_set_same w64 word (k % 64) (within-word k))

  mark-other : (j : ℕ) → j ≢ k → bit_in (with_bit words k) j ≡ bit_in words j
  mark-other j apart =
      elim (cases_eq (j / 64) (k / 64)) [
        | inl same ↦
            let bit : j % 64 ≢ k % 64 = λ b. apart (same-number j k same b) in
            ap (λ p. nat_eq (bit_at (get_or (with_bit words k) p 0) (j % 64)) 1) same
            ∙ ap (λ w. nat_eq (bit_at w (j % 64)) 1) (get_or-set_same words (k / 64) marked_word 0 within)
            ∙ ap (λ b. nat_eq b 1) (bit_at_set_other w64 word (k % 64) (within-word k) (j % 64) bit)
            ∙ ap (λ p. nat_eq (bit_at (get_or words p 0) (j % 64)) 1) (sym same)
        | inr other ↦ ap (λ w. nat_eq (bit_at w (j % 64)) 1) (get_or-set_other words (k / 64) (j / 64) marked_word 0 other)
      ]

  pub mark : (count : ℕ) → k < count → bits_of count (with_bit words k) ≡ set (bits_of count words) k true
  mark count less = set-below (bit_in words) (bit_in (with_bit words k)) count k true less mark-here (λ j _ apart. mark-other j apart)

pub in-words : (k n : ℕ) → k < 64 * n → k / 64 < n
in-words k n less = div_below k 64 n (omega arith) (let e : k < n * 64 = omega (arith, less) in e)

one-bit : (x y : ℕ) → x < 2 → y < 2 → nat_eq (max x y) 1 ≡ (nat_eq x 1 || nat_eq y 1)
one-bit zero zero a b = refl
one-bit zero (suc zero) a b = refl
one-bit zero (suc (suc y)) a b = absurd (omega (arith, b))
one-bit (suc zero) zero a b = refl
one-bit (suc zero) (suc zero) a b = refl
one-bit (suc zero) (suc (suc y)) a b = absurd (omega (arith, b))
one-bit (suc (suc x)) y a b = absurd (omega (arith, a))

pub joins-none : (left right : List ℕ) → Joins left right left 0
joins-none left right = record { size = refl; each = λ k. (let e : nat_lt k 0 ≡ false = le-ltb k 0 (omega arith) in ap (λ b. cond b (bit_or (get_or left k 0) (get_or right k 0)) (get_or left k 0)) (sym e)) }

module _ (left right now : List ℕ) (place word other : ℕ) (joins : Joins left right now place) (within : place < length now) (is : word ≡ get_or now place 0) (its : other ≡ get_or right place 0) where
  abbrev later : List ℕ
  later = set now place (bit_or word other)

  word-is : word ≡ get_or left place 0
  word-is = (let e : nat_lt place place ≡ false = le-ltb place place (omega arith) in is ∙ joins.each place ∙ ap (λ b. cond b (bit_or (get_or left place 0) (get_or right place 0)) (get_or left place 0)) e)

  next-word : (k : ℕ) → get_or later k 0 ≡ cond (nat_lt k (place + 1)) (bit_or (get_or left k 0) (get_or right k 0)) (get_or left k 0)
  next-word k =
      elim (cases_eq k place) [
        | inl same ↦
            let e : nat_lt k (place + 1) ≡ true = lt-ltb k (place + 1) (omega (arith, same)) in
            ap (λ m. get_or later m 0) same ∙ get_or-set_same now place (bit_or word other) 0 within ∙ (λ i. bit_or (word-is i) (its i))
            ∙ ap (λ m. bit_or (get_or left m 0) (get_or right m 0)) (sym same)
            ∙ ap (λ b. cond b (bit_or (get_or left k 0) (get_or right k 0)) (get_or left k 0)) (sym e)
        | inr apart ↦ get_or-set_other now place k (bit_or word other) 0 apart ∙ joins.each k ∙ ap (λ b. cond b (bit_or (get_or left k 0) (get_or right k 0)) (get_or left k 0)) (same-test k apart)
      ]
    where
      same-test : (k : ℕ) → k ≢ place → nat_lt k place ≡ nat_lt k (place + 1)
      same-test k apart =
          elim (cases_lt k place) [
            | inl less ↦ lt-ltb k place less ∙ sym (lt-ltb k (place + 1) (omega (arith, less)))
            | inr more ↦ le-ltb k place more ∙ sym (le-ltb k (place + 1) (omega (arith, more, apart)))
          ]

  pub joins-more : Joins left right later (place + 1)
  joins-more = record { size = length-set now place (bit_or word other) ∙ joins.size; each = next-word }

pub joined-all : (left right now : List ℕ) (place count : ℕ) → Joins left right now place → count ≤ 64 * place → bits_of count now ≡ either (bits_of count left) (bits_of count right)
joined-all left right now place count joins all =
    same-below (bit_in now) (λ k. bit_in left k || bit_in right k) count
    (λ k less.
    let within : k / 64 < place = in-words k place (omega (arith, less, all)) in
    ap (λ w. nat_eq (bit_at w (k % 64)) 1) (joins.each (k / 64) ∙ ap (λ b. cond b (bit_or (get_or left (k / 64) 0) (get_or right (k / 64) 0)) (get_or left (k / 64) 0)) (lt-ltb (k / 64) place within))
    ∙ ap (λ b. nat_eq b 1) (bit_at_or (get_or left (k / 64) 0) (get_or right (k / 64) 0) (k % 64))
    ∙ one-bit (bit_at (get_or left (k / 64) 0) (k % 64)) (bit_at (get_or right (k / 64) 0) (k % 64)) (bit_at-lt (get_or left (k / 64) 0) (k % 64)) (bit_at-lt (get_or right (k / 64) 0) (k % 64)))
    ∙ sym (either-map (bit_in left) (bit_in right) (numbers_below count))

-- two rows of as many numbers
pub joined-rows : (left right now : List ℕ) (count others : ℕ) → Joins left right now (min (length left) (length right)) → count ≤ 64 * length left → others ≤ 64 * length right → length (bits_of others right) ≡ length (bits_of count left) → bits_of count now ≡ either (bits_of count left) (bits_of others right)
joined-rows left right now count others joins few fewer same =
    let one : others ≡ count = sym (long (bit_in right) others) ∙ same ∙ long (bit_in left) count in
    joined-all left right now (min (length left) (length right)) count joins (omega (arith, few, fewer, one)) ∙ ap (λ n. either (bits_of count left) (bits_of n right)) (sym one)
