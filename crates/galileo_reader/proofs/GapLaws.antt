-- Before a token of the first reading, and at the end of a text, what may stand between tokens is the same in both readings.
use Rattle.std.proofs.Common.{not, ℕ, zero, suc, ◌+◌, ◌≡◌, ◌<◌, ◌≤◌, Bool, true, false, cond, ◌&&◌, ◌==◌, List, [], ◌∷◌, length, take, drop, codes, Option, Some, None, inl, inr, ◌⊎◌, ⊎_elim, ap, ◌∙◌, sym, subst, refl, arith}
use Rattle.std.proofs.lemmas.Bool.{cases_lt, eqb-true}
use Rattle.std.proofs.lemmas.List.{drop-drop, length-drop}
use Rattle.std.proofs.lemmas.List.Sums.{prefix_len-drop_no, prefix_len-le-length, prefix_len_stops}
use Rattle.std.proofs.Math.Dec.{eqb-suc-zero}
use Rattle.std.specs.Char.{to_ascii_lowercase}
use Rattle.std.specs.List.{prefix_len}
use Rattle.std.specs.Option.{option_map}
use Rattle.aadl_syntax.specs.Form.{is_blank}
use Rattle.galileo_reader.specs.declared.token.Front.{Front}
use Rattle.galileo_reader.specs.declared.token.Mark.{Mark}
use Rattle.galileo_reader.specs.Marks.{gap_len, mark_from}
use Rattle.galileo_reader.specs.Tokens.{blanks_len, counts_len, name_len, rate_at, rate_len, starts, token_at, word_at}
use Rattle.aadl_lexer.specs.Scan.{begins}
use Rattle.galileo_reader.specs.WideTokens.{after, begins_in, block_comment_len, clause_len, closing_len, len_or, line_comment_len, parameter_len, piece_len, pieces_len, spells, wide_gap_len}
use Rattle.galileo_reader.proofs.Ends.{dropped, none-at_end}

-- ---- what begins no token of the first reading

slash : (rest : List ℕ) → token_at (47 ∷ rest) ≡ None
unfolding token_at name_len counts_len word_at rate_at rate_len
slash rest = refl

upper-p : (rest : List ℕ) → token_at (80 ∷ rest) ≡ None
unfolding token_at name_len counts_len word_at rate_at rate_len
upper-p rest = refl

p-lower-a : (rest : List ℕ) → token_at (112 ∷ 97 ∷ rest) ≡ None
unfolding token_at name_len counts_len word_at rate_at rate_len
p-lower-a rest = refl

p-upper-a : (rest : List ℕ) → token_at (112 ∷ 65 ∷ rest) ≡ None
unfolding token_at name_len counts_len word_at rate_at rate_len
p-upper-a rest = refl

none-some : (o : Option Front) (f : Front) → o ≡ None → o ≡ Some f → ⊥
none-some None f e h = cc
none-some (Some x) f e h = cc

-- ---- bytes

cleared : (x : Bool) (n : ℕ) → (x ≡ true → ⊥) → cond x n 0 ≡ 0
cleared false n apart = refl
cleared true n apart = absurd (apart refl)

and-left : (x y : Bool) → (x && y) ≡ true → x ≡ true
and-left true y e = refl
and-left false y e = e

and-right : (x y : Bool) → (x && y) ≡ true → y ≡ true
and-right true y e = e
and-right false y e = cc

never : false ≡ true → ⊥
never h = cc

first-byte : (c b : ℕ) (more : Bool) → ((c == b) && more) ≡ true → b ≡ c
first-byte c b more e = sym (eqb-true c b (and-left (c == b) more e))

lowered : (b c : ℕ) (x y : Bool) → cond x b (cond y (b + 32) b) ≡ c → (b ≡ c) ⊎ (b + 32 ≡ c)
lowered b c true y e = inl e
lowered b c false true e = inr e
lowered b c false false e = inl e

lower-is : (b c : ℕ) (more : Bool) → ((to_ascii_lowercase b == c) && more) ≡ true → (b ≡ c) ⊎ (b + 32 ≡ c)
lower-is b c more e = lowered b c _ _ (eqb-true (to_ascii_lowercase b) c (and-left (to_ascii_lowercase b == c) more e))

-- the first bytes of a parameter
abbrev goes_on : List ℕ → Bool
goes_on t = begins_in is_blank (drop 5 t) && begins 59 (drop (clause_len t) t)

abbrev is_parameter : List ℕ → Bool
is_parameter t = spells (take 5 t) (codes "param") && goes_on t

one-byte : (b : ℕ) → spells (take 5 (b ∷ [])) (codes "param") ≡ true → ⊥
one-byte b h = never (and-right _ _ h)

two-bytes : (b c : ℕ) (t : List ℕ) → spells (take 5 (b ∷ c ∷ t)) (codes "param") ≡ true → ((b ≡ 112) ⊎ (b + 32 ≡ 112)) × ((c ≡ 97) ⊎ (c + 32 ≡ 97))
two-bytes b c t h = (lower-is b 112 _ h, lower-is c 97 _ (and-right _ _ h))

-- ---- no comment and no parameter where a token of the first reading stands

module _ (f : Front) where
  begins-not : (b : ℕ) (t : List ℕ) → b ≡ 47 → token_at (b ∷ t) ≡ Some f → ⊥
  begins-not b t is e = none-some (token_at (b ∷ t)) f (ap (λ c. token_at (c ∷ t)) is ∙ slash t) e

  no-line-comment : (t : List ℕ) → token_at t ≡ Some f → line_comment_len t ≡ 0
  no-line-comment [] e = refl
  no-line-comment (b ∷ t) e = cleared (starts (b ∷ t) (codes "//")) (prefix_len (λ c. not (c == 10)) (b ∷ t)) (λ (h : starts (b ∷ t) (codes "//") ≡ true). begins-not b t (first-byte 47 b _ h) e)

  no-block-comment : (t : List ℕ) → token_at t ≡ Some f → block_comment_len t ≡ 0
  unfolding block_comment_len
  no-block-comment [] e = refl
  no-block-comment (b ∷ t) e = cleared (starts (b ∷ t) (codes "/*")) (after 2 (closing_len (drop 2 (b ∷ t)))) (λ (h : starts (b ∷ t) (codes "/*") ≡ true). begins-not b t (first-byte 47 b _ h) e)

  begins-pa : (b c : ℕ) (t : List ℕ) → ((b ≡ 112) ⊎ (b + 32 ≡ 112)) → ((c ≡ 97) ⊎ (c + 32 ≡ 97)) → token_at (b ∷ c ∷ t) ≡ Some f → ⊥
  begins-pa b c t (inr p) a e =
      let is : b ≡ 80 = omega (arith, p) in
      none-some (token_at (b ∷ c ∷ t)) f (ap (λ x. token_at (x ∷ c ∷ t)) is ∙ upper-p (c ∷ t)) e
  begins-pa b c t (inl p) (inl a) e = none-some (token_at (b ∷ c ∷ t)) f ((λ i. token_at (p i ∷ a i ∷ t)) ∙ p-lower-a t) e
  begins-pa b c t (inl p) (inr a) e =
      let is : c ≡ 65 = omega (arith, a) in
      none-some (token_at (b ∷ c ∷ t)) f ((λ i. token_at (p i ∷ is i ∷ t)) ∙ p-upper-a t) e

  no-parameter : (t : List ℕ) → token_at t ≡ Some f → parameter_len t ≡ 0
  unfolding parameter_len
  no-parameter [] e = refl
  no-parameter (b ∷ []) e =
      cleared (is_parameter (b ∷ [])) (clause_len (b ∷ []) + 1) (λ (h : is_parameter (b ∷ []) ≡ true). one-byte b (and-left (spells (take 5 (b ∷ [])) (codes "param")) (goes_on (b ∷ [])) h))
  no-parameter (b ∷ c ∷ t) e =
      cleared (is_parameter (b ∷ c ∷ t)) (clause_len (b ∷ c ∷ t) + 1)
      (λ (h : is_parameter (b ∷ c ∷ t) ≡ true).
      let is = two-bytes b c t (and-left (spells (take 5 (b ∷ c ∷ t)) (codes "param")) (goes_on (b ∷ c ∷ t)) h) in
      begins-pa b c t is.0 is.1 e)

-- ---- what stands there is no piece

pub piece-none : (t : List ℕ) (f : Front) → token_at t ≡ Some f → blanks_len t ≡ 0 → piece_len t ≡ 0
unfolding piece_len
piece-none t f e blanks =
    λ i. len_or (blanks i) (len_or (no-line-comment f t e i) (len_or (no-block-comment f t e i) (no-parameter f t e i)))

empty-piece : piece_len [] ≡ 0
unfolding piece_len block_comment_len parameter_len
empty-piece = refl

pieces-clear : (most : ℕ) (t : List ℕ) → piece_len t ≡ 0 → pieces_len most t ≡ 0
unfolding pieces_len
pieces-clear zero t e = refl
pieces-clear (suc most) t e = ap (λ n. cond (n == 0) 0 (n + pieces_len most (drop n t))) e

one-piece : (most n : ℕ) (t : List ℕ) → piece_len t ≡ suc n → piece_len (drop (suc n) t) ≡ 0 → pieces_len (suc most) t ≡ suc n
unfolding pieces_len
one-piece most n t e clear =
    ap (λ k. cond (k == 0) 0 (k + pieces_len most (drop k t))) e
    ∙ ap (λ x. cond x 0 (suc n + pieces_len most (drop (suc n) t))) (eqb-suc-zero n)
    ∙ ap (λ k. suc n + k) (pieces-clear most (drop (suc n) t) clear)
    ∙ plus-nothing (suc n)
  where
    plus-nothing : (k : ℕ) → k + 0 ≡ k
    plus-nothing k = omega arith

blank-piece : (n : ℕ) (t : List ℕ) → blanks_len t ≡ suc n → piece_len t ≡ suc n
unfolding piece_len
blank-piece n t e =
    ap (λ k. len_or k (len_or (line_comment_len t) (len_or (block_comment_len t) (parameter_len t)))) e
    ∙ ap (λ x. cond x (len_or (line_comment_len t) (len_or (block_comment_len t) (parameter_len t))) (suc n)) (eqb-suc-zero n)

-- where no piece stands behind the blanks of a text, these are all that stands before a token
pub gap-clear : (u : List ℕ) → piece_len (drop (blanks_len u) u) ≡ 0 → wide_gap_len u ≡ blanks_len u
unfolding wide_gap_len
gap-clear [] clear = pieces-clear 0 [] empty-piece
gap-clear (b ∷ r) clear = by (blanks_len (b ∷ r)) refl
  where
    by : (n : ℕ) → blanks_len (b ∷ r) ≡ n → pieces_len (length (b ∷ r)) (b ∷ r) ≡ blanks_len (b ∷ r)
    by zero h = pieces-clear (length (b ∷ r)) (b ∷ r) (ap (λ n. piece_len (drop n (b ∷ r))) (sym h) ∙ clear) ∙ sym h
    by (suc n) h = one-piece (length r) n (b ∷ r) (blank-piece n (b ∷ r) h) (ap (λ n. piece_len (drop n (b ∷ r))) (sym h) ∙ clear) ∙ sym h

blank-stop : (u : List ℕ) → blanks_len (drop (blanks_len u) u) ≡ 0
blank-stop u = ⊎_elim (λ less. prefix_len-drop_no is_blank u (blanks_len u) 0 less (prefix_len_stops is_blank u 0 less)) (λ over. ap blanks_len (dropped u (blanks_len u) over)) (cases_lt (blanks_len u) (length u))

gap-before : (u : List ℕ) (f : Front) → token_at (drop (blanks_len u) u) ≡ Some f → wide_gap_len u ≡ blanks_len u
gap-before u f e = gap-clear u (piece-none (drop (blanks_len u) u) f e (blank-stop u))

-- ---- of a text

fronted : (o : Option Front) (g : Front → Mark) (x : Mark) → option_map g o ≡ Some x → (f : Front) × (o ≡ Some f)
fronted None g x e = absurd (no-mark e)
  where
    no-mark : None ≡ Some x → ⊥
    no-mark h = cc
fronted (Some f) g x e = (f, refl)

-- before a token of the first reading stands the same in both
pub gap-same : (text : List ℕ) (at : ℕ) (x : Mark) → mark_from false text at ≡ Some x → gap_len true (drop at text) ≡ gap_len false (drop at text)
unfolding mark_from
gap-same text at x e =
    let (f, is) = fronted (token_at (drop (at + blanks_len (drop at text)) text)) _ x e in
    gap-before (drop at text) f (ap token_at (drop-drop (blanks_len (drop at text)) at text) ∙ is)

-- at the end of a text as well
pub ends-so : (text : List ℕ) (at : ℕ) → at + gap_len false (drop at text) ≡ length text → at + gap_len true (drop at text) ≡ length text
ends-so text at end =
    let none : drop (blanks_len (drop at text)) (drop at text) ≡ [] = dropped (drop at text) (blanks_len (drop at text)) (omega (arith, end, length-drop at text)) in
    ap (λ n. at + n) (gap-clear (drop at text) (ap piece_len none ∙ empty-piece)) ∙ end

-- where nothing is left but what may stand between tokens of the wide reading stands no token of the first one
pub first-none : (text : List ℕ) (at : ℕ) (x : Mark) → at + gap_len true (drop at text) ≡ length text → mark_from false text at ≡ Some x → ⊥
first-none text at x end e = none-at_end false text at x (ap (λ n. at + n) (sym (gap-same text at x e)) ∙ end) e
