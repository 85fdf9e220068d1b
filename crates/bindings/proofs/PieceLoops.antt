-- A loop over the first piece of a section, and one over all.
use Rattle.std.proofs.Common.{◌≡◌, ℕ, suc, ◌+◌, ◌<◌, ◌≤◌, Bool, true, false, List, [], ◌∷◌, ◌++◌, length, take, drop, get_or, count_by, cond, ◌&&◌, refl, sym, ◌∙◌, ap, arith, add-one, drop-cons, append_assoc}
use Rattle.std.specs.Prelude.{◌==◌, if◌then◌else◌, codes}
use Rattle.std.proofs.Math.ListN.{drop_of_length-le}
use Rattle.std.proofs.lemmas.List.Sums.{count_by_more_yes, count_by_more_no}
use Rattle.aadl_syntax.specs.declared.token.Token.{Token}
use Rattle.grammar_rules.specs.Spans.{opens, closes, is_even}
use Rattle.grammar_rules.specs.Tokens.{is_sign}
use Rattle.grammar_rules.proofs.Runs.{take_more}
use Rattle.bindings.specs.Pieces.{ends_piece, pieces_after, section_pieces}

-- What the loop has passed: k tokens, none of which ends the first piece.
pub record PassedOf (tokens : List Token) (k opened closed : ℕ) : Type 0 where
  pub within : k ≤ length tokens
  pub opened_is : opened ≡ count_by opens (take k tokens)
  pub closed_is : closed ≡ count_by closes (take k tokens)
  pub opened_few : opened ≤ k
  pub closed_few : closed ≤ k
  pub so_far : section_pieces tokens ≡ pieces_after (take k tokens) (drop k tokens)

module _ {tokens : List Token} {k opened closed : ℕ} (p : PassedOf tokens k opened closed) where
  -- no piece ends where none has ended before the end
  pub no_piece : length tokens ≤ k → section_pieces tokens ≡ []
  no_piece past = p.so_far ∙ ap (pieces_after (take k tokens)) (drop_of_length-le tokens past)

  module _ (t : Token) (lt : k < length tokens) (is : t ≡ get_or tokens k t) where
    drop_more : drop k tokens ≡ t ∷ drop (k + 1) tokens
    drop_more = drop-cons tokens k t lt ∙ ap (λ (u : Token). u ∷ drop (suc k) tokens) (sym is) ∙ ap (λ n. t ∷ drop n tokens) (sym (add-one k))

    -- what the loop tests is whether the piece ends
    pub tested : ((opened == closed) && is_sign (codes ";") t) ≡ ends_piece (take k tokens) t
    unfolding is_even
    tested =
        ap (λ n. (n == closed) && is_sign (codes ";") t) p.opened_is
        ∙ ap (λ n. (count_by opens (take k tokens) == n) && is_sign (codes ";") t) p.closed_is

    one_more : section_pieces tokens ≡ (if ends_piece (take k tokens) t then (take k tokens ++ t ∷ []) ∷ pieces_after [] (drop (k + 1) tokens) else pieces_after (take k tokens ++ t ∷ []) (drop (k + 1) tokens))
    one_more = p.so_far ∙ ap (λ (ts : List Token). pieces_after (take k tokens) ts) drop_more

    pub piece_here : ends_piece (take k tokens) t ≡ true → section_pieces tokens ≡ take (k + 1) tokens ∷ section_pieces (drop (k + 1) tokens)
    piece_here e =
        one_more ∙ ap (λ (c : Bool). if c then (take k tokens ++ t ∷ []) ∷ pieces_after [] (drop (k + 1) tokens) else pieces_after (take k tokens ++ t ∷ []) (drop (k + 1) tokens)) e
        ∙ ap (λ (ts : List Token). ts ∷ pieces_after [] (drop (k + 1) tokens)) (sym (take_more tokens k t lt is))

    goes_past : ends_piece (take k tokens) t ≡ false → section_pieces tokens ≡ pieces_after (take (k + 1) tokens) (drop (k + 1) tokens)
    goes_past e =
        one_more ∙ ap (λ (c : Bool). if c then (take k tokens ++ t ∷ []) ∷ pieces_after [] (drop (k + 1) tokens) else pieces_after (take k tokens ++ t ∷ []) (drop (k + 1) tokens)) e
        ∙ ap (λ (ts : List Token). pieces_after ts (drop (k + 1) tokens)) (sym (take_more tokens k t lt is))

    pub passes : ends_piece (take k tokens) t ≡ false → (o c : ℕ) → o ≡ cond (opens t) (opened + 1) opened → c ≡ cond (closes t) (closed + 1) closed → PassedOf tokens (k + 1) o c
    passes f o c e g = record {
      within = omega arith;
      opened_is = e ∙ counted opens opened p.opened_is;
      closed_is = g ∙ counted closes closed p.closed_is;
      opened_few = few (opens t) opened o p.opened_few e;
      closed_few = few (closes t) closed c p.closed_few g;
      so_far = goes_past f;
    } where
      few : (b : Bool) (n m : ℕ) → n ≤ k → m ≡ cond b (n + 1) n → m ≤ k + 1
      few true n m h e = omega arith
      few false n m h e = omega arith

      counted : (test : Token → Bool) (n : ℕ) → n ≡ count_by test (take k tokens) → cond (test t) (n + 1) n ≡ count_by test (take (k + 1) tokens)
      counted test n h = either (test t) refl where
        either : (b : Bool) → test t ≡ b → cond b (n + 1) n ≡ count_by test (take (k + 1) tokens)
        either true q = ap (λ n. n + 1) h ∙ sym (count_by_more_yes test tokens k t lt (ap test (sym is) ∙ q))
        either false q = h ∙ sym (count_by_more_no test tokens k t lt (ap test (sym is) ∙ q))

-- one piece more of all
pub more_pieces : (all made : List (List Token)) (tokens : List Token) (count : ℕ) → all ≡ made ++ section_pieces tokens → section_pieces tokens ≡ take count tokens ∷ section_pieces (drop count tokens) → all ≡ (made ++ take count tokens ∷ []) ++ section_pieces (drop count tokens)
more_pieces all made tokens count had first = had ∙ ap (λ (ps : List (List Token)). made ++ ps) first ∙ sym (append_assoc made (take count tokens ∷ []) (section_pieces (drop count tokens)))
