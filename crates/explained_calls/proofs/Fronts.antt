-- The front of a text that passes a test.
use Rattle.std.proofs.Common.{◌≡◌, ◌<◌, ◌≤◌, ◌+◌, ℕ, suc, Bool, true, false, cond, List, [], ◌∷◌, length, take, drop, get_or, arith, refl, sym, ap, ◌∙◌, add-one, drop-cons}
use Rattle.std.specs.List.{prefix_len, take_while}

module _ (passes_test : ℕ → Bool) where
  here : (text : List ℕ) (at : ℕ) (t : Bool) → at < length text → passes_test (get_or text at 0) ≡ t → prefix_len passes_test (drop at text) ≡ cond t (1 + prefix_len passes_test (drop (suc at) text)) 0
  here text at t there is = ap (prefix_len passes_test) (drop-cons text at 0 there) ∙ ap (λ b. cond b (1 + prefix_len passes_test (drop (suc at) text)) 0) is

  -- one more byte that passes
  pub one_more : (text : List ℕ) (at : ℕ) → at < length text → passes_test (get_or text at 0) ≡ true → prefix_len passes_test text ≡ at + prefix_len passes_test (drop at text)
      → prefix_len passes_test text ≡ (at + 1) + prefix_len passes_test (drop (at + 1) text)
  one_more text at there is before =
      let next = here text at true there is in
      let later : prefix_len passes_test (drop (at + 1) text) ≡ prefix_len passes_test (drop (suc at) text) = ap (λ n. prefix_len passes_test (drop n text)) (add-one at) in
      before ∙ ap (λ n. at + n) next ∙ ap (λ n. at + (1 + n)) (sym later) ∙ omega (arith)

  -- a byte that does not pass
  pub ends_there : (text : List ℕ) (at : ℕ) → at < length text → passes_test (get_or text at 0) ≡ false → prefix_len passes_test text ≡ at + prefix_len passes_test (drop at text)
      → take at text ≡ take_while passes_test text
  ends_there text at there is before =
      let none = here text at false there is in
      ap (λ n. take n text) (sym (before ∙ ap (λ n. at + n) none ∙ omega (arith)))

  none_left : (text : List ℕ) → prefix_len passes_test (drop (length text) text) ≡ 0
  none_left [] = refl
  none_left (byte ∷ text) = none_left text

  -- no byte is left
  pub ends_behind : (text : List ℕ) (at : ℕ) → at ≡ length text → prefix_len passes_test text ≡ at + prefix_len passes_test (drop at text)
      → take at text ≡ take_while passes_test text
  ends_behind text at whole before =
      let none : prefix_len passes_test (drop at text) ≡ 0 = ap (λ n. prefix_len passes_test (drop n text)) whole ∙ none_left text in
      ap (λ n. take n text) (sym (before ∙ ap (λ n. at + n) none ∙ omega (arith)))
