-- The texts of tokens, with one token more.
use Rattle.std.proofs.Common.{◌≡◌, ◌+◌, ℕ, zero, suc, List, [], ◌∷◌, ◌++◌, flat_map, take, slice_get, option_to_list, ap, ◌∙◌, refl, sym, arith}
use Rattle.std.proofs.lemmas.Grind.{flat_map-append}
use Rattle.aadl_syntax.specs.declared.token.Token.{Token}
use Rattle.unread_parts.specs.Unread.{joined, kept_text}

take-next : {X : Type 0} (n : ℕ) (xs : List X) → take (n + 1) xs ≡ take n xs ++ option_to_list (slice_get xs n)
take-next zero [] = refl
take-next zero (x ∷ xs) = refl
take-next {X = X} (suc n) [] = ap (λ (k : ℕ). take {A = X} k []) (let more : suc n + 1 ≡ suc (n + 1) = omega arith in more)
take-next (suc n) (x ∷ xs) = ap (λ (k : ℕ). take k (x ∷ xs)) (let more : suc n + 1 ≡ suc (n + 1) = omega arith in more) ∙ ap (λ front. x ∷ front) (take-next n xs)

pub joined-more : (n : ℕ) (tokens : List Token) (after : List ℕ) → after ≡ joined (take n tokens) ++ joined (option_to_list (slice_get tokens n)) → after ≡ joined (take (n + 1) tokens)
joined-more n tokens after is =
    is ∙ sym (ap joined (take-next n tokens) ∙ flat_map-append (λ (token : Token). kept_text token.kind token.text) (take n tokens) (option_to_list (slice_get tokens n)))
