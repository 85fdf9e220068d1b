-- The loops over what may stand between tokens in the wide reading.
use Rattle.std.proofs.Common.{ℕ, zero, suc, ◌+◌, ◌-◌, ◌≡◌, ◌≢◌, ◌<◌, ◌≤◌, Bool, true, false, cond, ◌&&◌, ◌==◌, List, [], ◌∷◌, length, drop, get_or, ap, ◌∙◌, sym, refl, arith}
use Rattle.std.proofs.lemmas.Bool.{ne_eqb}
use Rattle.std.proofs.lemmas.List.{at_drop_more, at_drop_all, drop-drop}
use Rattle.std.proofs.Math.Dec.{eqb-suc-zero}
use Rattle.aadl_lexer.specs.Scan.{after_one}
use Rattle.galileo_reader.specs.WideTokens.{after, closes, closing_len, piece_len, pieces_len, wide_gap_len}

-- ---- pieces

pieces-next : (left : ℕ) (t : List ℕ) → piece_len t ≢ 0 → pieces_len (suc left) t ≡ piece_len t + pieces_len left (drop (piece_len t) t)
unfolding pieces_len
pieces-next left t some = ap (λ none. cond none 0 (piece_len t + pieces_len left (drop (piece_len t) t))) (ne_eqb (piece_len t) 0 some)

pieces-stop : (left : ℕ) (t : List ℕ) → piece_len t ≡ 0 → pieces_len (suc left) t ≡ 0
unfolding pieces_len
pieces-stop left t e = ap (λ n. cond (n == 0) 0 (n + pieces_len left (drop n t))) e

some-left : (n len : ℕ) → len ≡ n → 0 < len → n ≢ 0
some-left n len is some e = omega arith

pieces-none : (t : List ℕ) → pieces_len 0 t ≡ 0
unfolding pieces_len
pieces-none t = refl

one-less : (n i : ℕ) → i < n → n - i ≡ suc (n - (i + 1))
one-less n i less = omega (arith, less)

pub pieces-start : (text : List ℕ) → 0 + pieces_len (length text - 0) (drop 0 text) ≡ wide_gap_len text
unfolding wide_gap_len
pieces-start text = plain (pieces_len (length text - 0) text) ∙ ap (λ n. pieces_len n text) (same (length text))
  where
    plain : (n : ℕ) → 0 + n ≡ n
    plain n = omega arith

    same : (n : ℕ) → n - 0 ≡ n
    same n = omega arith

module _ (text : List ℕ) (step at : ℕ) (so : at + pieces_len (length text - step) (drop at text) ≡ wide_gap_len text) where
  pub piece-last : step < length text → (len : ℕ) → len ≡ piece_len (drop at text) → len ≡ 0 → at ≡ wide_gap_len text
  piece-last less len is none =
      let stop : pieces_len (length text - step) (drop at text) ≡ 0 = ap (λ n. pieces_len n (drop at text)) (one-less (length text) step less) ∙ pieces-stop (length text - (step + 1)) (drop at text) (sym is ∙ none) in
      omega (arith, so, stop)

  pub piece-more : step < length text → (len : ℕ) → len ≡ piece_len (drop at text) → 0 < len → at + len + pieces_len (length text - (step + 1)) (drop (at + len) text) ≡ wide_gap_len text
  piece-more less len is some =
      let next : pieces_len (length text - step) (drop at text) ≡ piece_len (drop at text) + pieces_len (length text - (step + 1)) (drop (piece_len (drop at text)) (drop at text))
      = ap (λ n. pieces_len n (drop at text)) (one-less (length text) step less) ∙ pieces-next (length text - (step + 1)) (drop at text) (some-left (piece_len (drop at text)) len is some) in
      let moved : pieces_len (length text - (step + 1)) (drop (piece_len (drop at text)) (drop at text)) ≡ pieces_len (length text - (step + 1)) (drop (at + len) text)
      = ap (λ n. pieces_len (length text - (step + 1)) (drop n (drop at text))) (sym is) ∙ ap (pieces_len (length text - (step + 1))) (drop-drop len at text) in
      omega (arith, so, next, moved, is)

  pub pieces-end : length text ≤ step → at ≡ wide_gap_len text
  pieces-end over =
      let left : length text - step ≡ 0 = omega (arith, over) in
      let stop : pieces_len (length text - step) (drop at text) ≡ 0 = ap (λ n. pieces_len n (drop at text)) left ∙ pieces-none (drop at text) in
      omega (arith, so, stop)

-- ---- the end of a comment

closing-here : (b : ℕ) (rest : List ℕ) → closes (b ∷ rest) ≡ true → closing_len (b ∷ rest) ≡ 2
unfolding closing_len
closing-here b rest e = ap (λ is. cond is 2 (after_one (closing_len rest))) e

closing-later : (b : ℕ) (rest : List ℕ) → closes (b ∷ rest) ≡ false → closing_len (b ∷ rest) ≡ after_one (closing_len rest)
unfolding closing_len
closing-later b rest e = ap (λ is. cond is 2 (after_one (closing_len rest))) e

closing-none : closing_len [] ≡ 0
unfolding closing_len
closing-none = refl

after-more : (i n : ℕ) → after i (after_one n) ≡ after (i + 1) n
after-more i zero = refl
after-more i (suc n) =
    let one : after_one (suc n) ≡ suc (suc n) = ap (λ x. cond x 0 (suc (suc n))) (eqb-suc-zero n) in
    let plus : i + suc (suc n) ≡ i + 1 + suc n = omega arith in
    ap (after i) one ∙ ap (λ x. cond x 0 (i + suc (suc n))) (eqb-suc-zero (suc n)) ∙ plus ∙ sym (ap (λ x. cond x 0 (i + 1 + suc n)) (eqb-suc-zero n))

module _ (text : List ℕ) (i : ℕ) (so : after i (closing_len (drop i text)) ≡ closing_len text) where
  pub closing-found : i < length text → closes (drop i text) ≡ true → i + 2 ≡ closing_len text
  closing-found inside is =
      sym (ap (after i) (at_drop_more closing_len text i 0 inside ∙ closing-here (get_or text i 0) (drop (i + 1) text) (sym (at_drop_more closes text i 0 inside) ∙ is))) ∙ so

  pub closing-more : i < length text → closes (drop i text) ≡ false → after (i + 1) (closing_len (drop (i + 1) text)) ≡ closing_len text
  closing-more inside is =
      sym (ap (after i) (at_drop_more closing_len text i 0 inside ∙ closing-later (get_or text i 0) (drop (i + 1) text) (sym (at_drop_more closes text i 0 inside) ∙ is)) ∙ after-more i (closing_len (drop (i + 1) text))) ∙ so

  pub closing-end : length text ≤ i → 0 ≡ closing_len text
  closing-end over = sym (ap (after i) (at_drop_all closing_len text i over ∙ closing-none)) ∙ so

and-right : (x y : Bool) → (x && y) ≡ true → y ≡ true
and-right true y e = e
and-right false y e = cc

pub closes-long : (t : List ℕ) → closes t ≡ true → 2 ≤ length t
closes-long [] e = cc
closes-long (b ∷ []) e = absurd (never (and-right (42 == b) false e))
  where
    never : false ≡ true → ⊥
    never h = cc
closes-long (b ∷ c ∷ t) e = omega arith
