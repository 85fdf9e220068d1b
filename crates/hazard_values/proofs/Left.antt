-- What is left of tokens from a place on, with one token less.
use Rattle.std.proofs.Common.{◌≡◌, ℕ, suc, ◌+◌, true, false, ◌&&◌, List, ◌∷◌, ◌++◌, drop, flat_map, Option, Some, sym, ap, ◌∙◌, add-one, drop-cons, append_assoc}
use Rattle.std.proofs.lemmas.Option.{slice_get_within, get_or_from_slice_get}
use Rattle.std.specs.List.{slice_get}
use Rattle.aadl_syntax.specs.declared.token.Token.{Token}
use Rattle.hazard_values.specs.Texts.{begins_at, further_text, gap, goes_on, spaced_after}

left-one : (tokens : List Token) (k : ℕ) (token : Token) → slice_get tokens k ≡ Some token → drop k tokens ≡ token ∷ drop (k + 1) tokens
left-one tokens k token is =
    drop-cons tokens k token (slice_get_within tokens k token is) ∙ ap (λ (t : Token). t ∷ drop (suc k) tokens) (get_or_from_slice_get tokens k token token is)
    ∙ ap (λ n. token ∷ drop n tokens) (sym (add-one k))

-- a string that a token does not go on
pub ends-there : (place : ℕ) (tokens : List Token) (k : ℕ) (token : Token) → slice_get tokens k ≡ Some token → begins_at place token ≡ false → goes_on place (drop k tokens) ≡ false
ends-there place tokens k token is not = ap (goes_on place) (left-one tokens k token is) ∙ ap (λ b. b && goes_on token.end (drop (k + 1) tokens)) not

-- a string that a token goes on
pub goes-on-there : (place : ℕ) (tokens : List Token) (k : ℕ) (token : Token) → slice_get tokens k ≡ Some token → begins_at place token ≡ true
    → goes_on place (drop k tokens) ≡ goes_on token.end (drop (k + 1) tokens)
goes-on-there place tokens k token is so = ap (goes_on place) (left-one tokens k token is) ∙ ap (λ b. b && goes_on token.end (drop (k + 1) tokens)) so

-- a text to which a further token is added, and what is left then
pub further-there : (tokens : List Token) (k : ℕ) (token : Token) → slice_get tokens k ≡ Some token → (before after whole : List ℕ) → after ≡ before ++ further_text token
    → before ++ flat_map further_text (drop k tokens) ≡ whole → after ++ flat_map further_text (drop (k + 1) tokens) ≡ whole
further-there tokens k token is before after whole adds had =
    ap (λ text. text ++ flat_map further_text (drop (k + 1) tokens)) adds ∙ append_assoc before (further_text token) (flat_map further_text (drop (k + 1) tokens))
    ∙ ap (λ left. before ++ flat_map further_text left) (sym (left-one tokens k token is)) ∙ had

-- the same of tokens with blanks between them
pub spaced-there : (last : Option Token) (tokens : List Token) (k : ℕ) (token : Token) → slice_get tokens k ≡ Some token → (before after whole : List ℕ)
    → after ≡ before ++ (gap last token ++ token.text)
    → before ++ spaced_after last (drop k tokens) ≡ whole → after ++ spaced_after (Some token) (drop (k + 1) tokens) ≡ whole
spaced-there last tokens k token is before after whole adds had =
    let rest = spaced_after (Some token) (drop (k + 1) tokens) in
    ap (λ text. text ++ rest) adds ∙ append_assoc before (gap last token ++ token.text) rest
    ∙ ap (λ left. before ++ spaced_after last left) (sym (left-one tokens k token is)) ∙ had
