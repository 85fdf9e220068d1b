-- The plain words, and the words that name files.
use Rattle.std.proofs.Common.{◌≡◌, ◌≢◌, ◌<◌, ◌+◌, ℕ, Bool, true, false, List, [], ◌∷◌, ◌++◌, length, take, drop, get_or, if◌then◌else◌, suc, arith, refl, sym, ap, ◌∙◌, append-nil, append_assoc, add-one, drop-cons}
use Rattle.std.specs.List.{AllByRecursion}
use Rattle.std.proofs.lemmas.Bool.Decides.{nat_tests}
use Rattle.std.proofs.lemmas.List.{take_more}
use Rattle.fta_words.specs.Words.{IsPlainWord, before_options, is_option}

pub no_option : (word : List ℕ) → IsPlainWord word → is_option word ≡ false
no_option [] plain = absurd plain
no_option (byte ∷ bytes) plain = let other : byte ≢ 45 = plain.0 in grind (arith, nat_tests)

pub no_end : (word : List ℕ) (others : List (List ℕ)) (option : Bool) → option ≡ false → (if option then [] else word ∷ others) ≡ word ∷ others
no_end word others true is = absurd (cc)
no_end word others false is = refl

pub an_end : (word : List ℕ) (others : List (List ℕ)) (option : Bool) → option ≡ true → (if option then [] else word ∷ others) ≡ []
an_end word others true is = refl
an_end word others false is = absurd (cc)

-- plain words go up to the end
pub plain_words : (words : List (List ℕ)) → AllByRecursion IsPlainWord words → before_options words ≡ words
plain_words [] plain = refl
plain_words (word ∷ words) plain = no_end word (before_options words) (is_option word) (no_option word plain.0) ∙ ap (λ ws. word ∷ ws) (plain_words words plain.1)

-- one more word that is no option
pub one_more : (words : List (List ℕ)) (number : ℕ) (word : List ℕ) → number < length words → word ≡ get_or words number word → is_option word ≡ false
    → before_options words ≡ take number words ++ before_options (drop number words) → before_options words ≡ take (number + 1) words ++ before_options (drop (number + 1) words)
one_more words number word within is other before =
    let split : drop number words ≡ word ∷ drop (suc number) words = drop-cons words number word within ∙ ap (λ w. w ∷ drop (suc number) words) (sym is) in
    let here : before_options (drop number words) ≡ word ∷ before_options (drop (suc number) words) = ap before_options split ∙ no_end word (before_options (drop (suc number) words)) (is_option word) other in
    let more : take (number + 1) words ≡ take number words ++ word ∷ [] = take_more words number word within ∙ ap (λ w. take number words ++ w ∷ []) (sym is) in
    before ∙ ap (λ ws. take number words ++ ws) here ∙ sym (append_assoc (take number words) (word ∷ []) (before_options (drop (suc number) words))) ∙ ap (λ ws. ws ++ before_options (drop (suc number) words)) (sym more) ∙ ap (λ n. take (number + 1) words ++ before_options (drop n words)) (sym (add-one number))

-- the first option
pub first_option : (words : List (List ℕ)) (number : ℕ) (word : List ℕ) → number < length words → word ≡ get_or words number word → is_option word ≡ true
    → before_options words ≡ take number words ++ before_options (drop number words) → take number words ≡ before_options words
first_option words number word within is option before =
    let split : drop number words ≡ word ∷ drop (suc number) words = drop-cons words number word within ∙ ap (λ w. w ∷ drop (suc number) words) (sym is) in
    let here : before_options (drop number words) ≡ [] = ap before_options split ∙ an_end word (before_options (drop (suc number) words)) (is_option word) option in
    sym (before ∙ ap (λ ws. take number words ++ ws) here ∙ append-nil (take number words))
