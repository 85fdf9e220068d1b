-- A loop over a run of tokens.
use Rattle.std.proofs.Common.{◌≡◌, ℕ, zero, suc, ◌+◌, ◌-◌, ◌<◌, ◌≤◌, Bool, true, false, List, [], ◌∷◌, ◌++◌, length, take, drop, get_or, Option, Some, None, count_by, cond, ◌&&◌, refl, sym, ◌∙◌, ap, arith, length-drop, length-append, add-one, take-suc, drop-cons}
use Rattle.std.specs.Prelude.{slice_get, ◌==◌, ◌||◌, if◌then◌else◌}
use Rattle.std.proofs.lemmas.List.Sums.{count_by_more_yes, count_by_more_no}
use Rattle.aadl_syntax.specs.declared.token.Token.{Token}
use Rattle.aadl_syntax.specs.declared.token.TokenKind.TheVariants.{AnnexEnd}
use Rattle.grammar_rules.specs.Tokens.{is_kind}
use Rattle.grammar_rules.specs.Running.{read, seen, spanned}
use Rattle.grammar_rules.specs.Spans.{opens, closes, is_even, last, stopping}

-- What a loop has passed of a run: k tokens, none of which stops it.
pub record Passed (inside : Bool) (stops : Option Token → Token → Bool) (tokens : List Token) (k opened closed : ℕ) (before : Option Token) : Type 0 where
  pub within : k ≤ length tokens
  pub opened_is : opened ≡ count_by opens (take k tokens)
  pub closed_is : closed ≡ count_by closes (take k tokens)
  pub opened_few : opened ≤ k
  pub closed_few : closed ≤ k
  pub before_is : before ≡ last (take k tokens)
  pub so_far : (unseen : ℕ) → spanned (stopping inside stops) [] tokens unseen ≡ spanned (stopping inside stops) (take k tokens) (drop k tokens) unseen

slice_get-last : (passed : List Token) (t : Token) → last (passed ++ t ∷ []) ≡ Some t
slice_get-last passed t = let e : length (passed ++ t ∷ []) - 1 ≡ length passed = omega (arith, length-append passed (t ∷ [])) in ap (slice_get (passed ++ t ∷ [])) e ∙ at passed where
  at : (xs : List Token) → slice_get (xs ++ t ∷ []) (length xs) ≡ Some t
  at [] = refl
  at (x ∷ xs) = at xs

module _ (tokens : List Token) (k : ℕ) (t : Token) (lt : k < length tokens) (is : t ≡ get_or tokens k t) where
  pub take_more : take (k + 1) tokens ≡ take k tokens ++ t ∷ []
  take_more = ap (λ n. take n tokens) (add-one k) ∙ take-suc tokens k t lt ∙ ap (λ (u : Token). take k tokens ++ u ∷ []) (sym is)

  drop_more : drop k tokens ≡ t ∷ drop (k + 1) tokens
  drop_more = drop-cons tokens k t lt ∙ ap (λ (u : Token). u ∷ drop (suc k) tokens) (sym is) ∙ ap (λ n. t ∷ drop n tokens) (sym (add-one k))

  pub last_more : Some t ≡ last (take (k + 1) tokens)
  last_more = sym (ap last take_more ∙ slice_get-last (take k tokens) t)

  module _ (stops : List Token → Token → Bool) (unseen : ℕ) where
    one_more : spanned stops (take k tokens) (drop k tokens) unseen ≡ (if stops (take k tokens) t then read (take k tokens) (t ∷ drop (k + 1) tokens) (seen 0 (t ∷ drop (k + 1) tokens) unseen) else spanned stops (take k tokens ++ t ∷ []) (drop (k + 1) tokens) unseen)
    one_more = ap (λ (ts : List Token). spanned stops (take k tokens) ts unseen) drop_more

    pub stops_here : stops (take k tokens) t ≡ true → spanned stops (take k tokens) (drop k tokens) unseen ≡ read (take k tokens) (drop k tokens) (seen k tokens unseen)
    stops_here e =
        let n : seen 0 (t ∷ drop (k + 1) tokens) unseen ≡ seen k tokens unseen = omega (arith, ap length drop_more, length-drop k tokens) in
        one_more ∙ ap (λ (c : Bool). if c then read (take k tokens) (t ∷ drop (k + 1) tokens) (seen 0 (t ∷ drop (k + 1) tokens) unseen) else spanned stops (take k tokens ++ t ∷ []) (drop (k + 1) tokens) unseen) e
        ∙ ap (λ (ts : List Token). read (take k tokens) ts (seen 0 (t ∷ drop (k + 1) tokens) unseen)) (sym drop_more) ∙ ap (λ m. read (take k tokens) (drop k tokens) m) n

    pub goes_past : stops (take k tokens) t ≡ false → spanned stops (take k tokens) (drop k tokens) unseen ≡ spanned stops (take (k + 1) tokens) (drop (k + 1) tokens) unseen
    goes_past e =
        one_more ∙ ap (λ (c : Bool). if c then read (take k tokens) (t ∷ drop (k + 1) tokens) (seen 0 (t ∷ drop (k + 1) tokens) unseen) else spanned stops (take k tokens ++ t ∷ []) (drop (k + 1) tokens) unseen) e
        ∙ ap (λ (ts : List Token). spanned stops ts (drop (k + 1) tokens) unseen) (sym take_more)

module _ {inside : Bool} {stops : Option Token → Token → Bool} {tokens : List Token} {k opened closed : ℕ} {before : Option Token} (p : Passed inside stops tokens k opened closed before) (t : Token) where
  -- what the loop tests is whether the run stops
  pub tested : ((inside && is_kind AnnexEnd t) || ((opened == closed) && stops before t)) ≡ stopping inside stops (take k tokens) t
  unfolding is_even
  tested =
      ap (λ n. (inside && is_kind AnnexEnd t) || ((n == closed) && stops before t)) p.opened_is
      ∙ ap (λ n. (inside && is_kind AnnexEnd t) || ((count_by opens (take k tokens) == n) && stops before t)) p.closed_is
      ∙ ap (λ (o : Option Token). (inside && is_kind AnnexEnd t) || (is_even (take k tokens) && stops o t)) p.before_is

  pub passes : (lt : k < length tokens) → (is : t ≡ get_or tokens k t) → stopping inside stops (take k tokens) t ≡ false → (o c : ℕ) → o ≡ cond (opens t) (opened + 1) opened → c ≡ cond (closes t) (closed + 1) closed
      → Passed inside stops tokens (k + 1) o c (Some t)
  passes lt is f o c e g = record {
    within = omega arith;
    opened_is = e ∙ counted opens opened p.opened_is;
    closed_is = g ∙ counted closes closed p.closed_is;
    opened_few = few (opens t) opened o p.opened_few e;
    closed_few = few (closes t) closed c p.closed_few g;
    before_is = last_more tokens k t lt is;
    so_far = λ unseen. p.so_far unseen ∙ goes_past tokens k t lt is (stopping inside stops) unseen f;
  } where
    few : (b : Bool) (n m : ℕ) → n ≤ k → m ≡ cond b (n + 1) n → m ≤ k + 1
    few true n m h e = omega arith
    few false n m h e = omega arith

    counted : (test : Token → Bool) (n : ℕ) → n ≡ count_by test (take k tokens) → cond (test t) (n + 1) n ≡ count_by test (take (k + 1) tokens)
    counted test n h = either (test t) refl where
      either : (b : Bool) → test t ≡ b → cond b (n + 1) n ≡ count_by test (take (k + 1) tokens)
      either true q = ap (λ n. n + 1) h ∙ sym (count_by_more_yes test tokens k t lt (ap test (sym is) ∙ q))
      either false q = h ∙ sym (count_by_more_no test tokens k t lt (ap test (sym is) ∙ q))

-- the token at a place, as an item of the list
pub item_there : (tokens : List Token) (k : ℕ) (t : Token) → Some t ≡ slice_get tokens k → t ≡ get_or tokens k t
item_there [] k t e = absurd cc
item_there (x ∷ tokens) zero t e = let f : x ≡ t = cc in sym f
item_there (x ∷ tokens) (suc k) t e = item_there tokens k t e

pub is_there : (tokens : List Token) (k : ℕ) → k < length tokens → None ≡ slice_get tokens k → ⊥
is_there [] k h e = omega arith
is_there (x ∷ tokens) zero h e = absurd cc
is_there (x ∷ tokens) (suc k) h e = is_there tokens k (omega arith) e
