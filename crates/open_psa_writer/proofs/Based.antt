-- The bytes of a number to a base, digit by digit.
use Rattle.std.proofs.Common.{ℕ, ◌≡◌, List, [], ◌∷◌, ◌++◌, codes, decimal, ap, ◌∙◌, sym, refl}
use Rattle.std.specs.List.{flat_map}
use Rattle.std.proofs.lemmas.List.{append_assoc, append-nil}
use Rattle.open_psa_writer.specs.Mef.{Number, Digit, number_text}
use Rattle.open_psa_writer.specs.Numbers.{digit_of, digits_behind}
use Rattle.open_psa_writer.specs.inner.Based.{digit_text, opened}

opened-more : (digits t : List ℕ) → opened digits ++ (codes "<add>\n<mul>\n" ++ t) ≡ codes "<add>\n<mul>\n" ++ (opened digits ++ t)
opened-more [] t = refl
opened-more (b ∷ digits) t = ap (λ u. codes "<add>\n<mul>\n" ++ u) (opened-more digits t)

-- a number with digits behind it: what begins each of them, the number, and each of them
pub behind-text : (base : List ℕ) (before : Number) (digits : List ℕ)
    → number_text (digits_behind base before digits) ≡ opened digits ++ (number_text before ++ flat_map (digit_text base) digits)
unfolding digit_text
behind-text base before [] = sym (append-nil (number_text before))
behind-text base before (b ∷ digits) =
    behind-text base (Digit before base (decimal (digit_of b))) digits
    ∙ ap (λ t. opened digits ++ (codes "<add>\n<mul>\n" ++ t)) (append_assoc (number_text before) (digit_text base b) (flat_map (digit_text base) digits))
    ∙ opened-more digits (number_text before ++ (digit_text base b ++ flat_map (digit_text base) digits))
