-- A text up to a sign.
use Rattle.std.proofs.Common.{◌≡◌, ◌≢◌, ◌<◌, ◌≤◌, ◌+◌, ◌==◌, ℕ, suc, Bool, true, false, if◌then◌else◌, List, [], ◌∷◌, ◌++◌, length, take, drop, get_or, arith, refl, sym, ap, ◌∙◌, append-nil, append_assoc, add-one, drop-cons}
use Rattle.std.proofs.lemmas.Bool.Decides.{nat_tests}
use Rattle.std.proofs.lemmas.List.{take_more}
use Rattle.help_texts.specs.inner.Usage.{before_sign}

is_sign : (a b : ℕ) → a ≡ b → (a == b) ≡ true
is_sign a b same = grind (arith, nat_tests)

is_other : (a b : ℕ) → a ≢ b → (a == b) ≡ false
is_other a b other = grind (arith, nat_tests)

stops : (b : Bool) (x y : List ℕ) → b ≡ true → (if b then x else y) ≡ x
stops true x y is = refl
stops false x y is = absurd (cc)

goes_on : (b : Bool) (x y : List ℕ) → b ≡ false → (if b then x else y) ≡ y
goes_on true x y is = absurd (cc)
goes_on false x y is = refl

here : (sign byte : ℕ) (bytes : List ℕ) → byte ≡ sign → before_sign sign (byte ∷ bytes) ≡ []
unfolding before_sign
here sign byte bytes is = stops (byte == sign) [] (byte ∷ before_sign sign bytes) (is_sign byte sign is)

behind : (sign byte : ℕ) (bytes : List ℕ) → byte ≢ sign → before_sign sign (byte ∷ bytes) ≡ byte ∷ before_sign sign bytes
unfolding before_sign
behind sign byte bytes other = goes_on (byte == sign) [] (byte ∷ before_sign sign bytes) (is_other byte sign other)

-- one more byte that is not the sign
pub one_more : (sign at : ℕ) (text : List ℕ) → at < length text → get_or text at 0 ≢ sign
    → before_sign sign text ≡ take at text ++ before_sign sign (drop at text) → before_sign sign text ≡ take (at + 1) text ++ before_sign sign (drop (at + 1) text)
one_more sign at text within other before =
    let byte = get_or text at 0 in
    let next : before_sign sign (drop at text) ≡ byte ∷ before_sign sign (drop (suc at) text) =
    ap (before_sign sign) (drop-cons text at 0 within) ∙ behind sign byte (drop (suc at) text) other in
    before ∙ ap (λ l. take at text ++ l) next ∙ sym (append_assoc (take at text) (byte ∷ []) (before_sign sign (drop (suc at) text)))
    ∙ ap (λ l. l ++ before_sign sign (drop (suc at) text)) (sym (take_more text at 0 within))
    ∙ ap (λ n. take (at + 1) text ++ before_sign sign (drop n text)) (sym (add-one at))

-- the first byte that is the sign
pub first_sign : (sign at : ℕ) (text : List ℕ) → at < length text → get_or text at 0 ≡ sign → before_sign sign text ≡ take at text ++ before_sign sign (drop at text) → take at text ≡ before_sign sign text
first_sign sign at text within is before =
    let none : before_sign sign (drop at text) ≡ [] = ap (before_sign sign) (drop-cons text at 0 within) ∙ here sign (get_or text at 0) (drop (suc at) text) is in
    sym (before ∙ ap (λ l. take at text ++ l) none ∙ append-nil (take at text))

-- a text that is looked through
looked : (sign : ℕ) (text : List ℕ) → take (length text) text ++ before_sign sign (drop (length text) text) ≡ text
unfolding before_sign
looked sign [] = refl
looked sign (byte ∷ text) = ap (λ l. byte ∷ l) (looked sign text)

pub no_sign : (sign at : ℕ) (text : List ℕ) → at ≡ length text → before_sign sign text ≡ take at text ++ before_sign sign (drop at text) → text ≡ before_sign sign text
no_sign sign at text whole before = sym (before ∙ ap (λ n. take n text ++ before_sign sign (drop n text)) whole ∙ looked sign text)
