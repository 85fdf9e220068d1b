-- Beside specs/Scan.antt: what no clause of `run` reaches.
use Rattle.std.specs.Prelude.{◌≡◌, ◌≢◌, ℕ, suc, Bool, false, ◌==◌, ◌&&◌, ◌||◌, not, ◌<◌, ◌≤◌, List, [], ◌∷◌, length, take, drop, Option, Some, None, if◌then◌else◌}
use Rattle.std.specs.List.{prefix_len}
use Rattle.std.specs.Option.{option_map}
use Rattle.aadl_syntax.specs.Form.{is_blank, is_letter, is_digit, is_letter_or_digit, is_sign_byte}
use Rattle.aadl_lexer.specs.Tokens.{IsLongest}
use Rattle.aadl_lexer.specs.declared.form.Front.{Front}

-- before the next line feed
unfoldable pub line_len : List ℕ → ℕ
line_len text = prefix_len (λ b. not (b == 10)) text

-- letters and digits, each perhaps after one `_`
unfoldable pub word_rest_len : List ℕ → ℕ
word_rest_len [] = 0
word_rest_len (b ∷ []) = if is_letter_or_digit b then 1 else 0
word_rest_len (b ∷ c ∷ rest) =
    if is_letter_or_digit b then suc (word_rest_len (c ∷ rest))
    else (if b == 95 && is_letter_or_digit c then suc (suc (word_rest_len rest)) else 0)

-- a text after its opening quote
unfoldable pub text_rest_len : List ℕ → Option ℕ
text_rest_len [] = None
text_rest_len (b ∷ []) = if b == 34 then Some 1 else None
text_rest_len (b ∷ c ∷ rest) =
    if b == 34 then Some 1
    else (if b == 92 then option_map (λ n. suc (suc n)) (text_rest_len rest) else option_map suc (text_rest_len (c ∷ rest)))

-- the signs of two and of three bytes
abbrev pub is_pair : ℕ → ℕ → Bool
is_pair a b = (a == 58 && b == 58) || (a == 45 && b == 62) || (a == 61 && b == 62) || (a == 46 && b == 46)

abbrev pub is_triple : ℕ → ℕ → ℕ → Bool
is_triple a b c = (a == 60 && b == 45 && c == 62) || (a == 43 && b == 61 && c == 62)

unfoldable pub sign_len : List ℕ → ℕ
sign_len [] = 0
sign_len (a ∷ []) = if is_sign_byte a then 1 else 0
sign_len (a ∷ b ∷ []) = if is_pair a b then 2 else (if is_sign_byte a then 1 else 0)
sign_len (a ∷ b ∷ c ∷ rest) = if is_triple a b c then 3 else (if is_pair a b then 2 else (if is_sign_byte a then 1 else 0))

-- What stands at the front of a text: the longest form, of a kind or, at `None`, a blank or a comment; and how long it is.
pub record IsFront (annexes : Bool) (text : List ℕ) (front : Front) : Type 0 where
  pub some : 0 < front.len
  pub within : front.len ≤ length text
  pub longest : IsLongest annexes front.kind (take front.len text) (drop front.len text)

-- whether a comment, or an annex, begins the text
abbrev pub begins_comment : List ℕ → Bool
begins_comment [] = false
begins_comment (a ∷ []) = false
begins_comment (a ∷ b ∷ rest) = a == 45 && b == 45

abbrev pub begins_annex : List ℕ → Bool
begins_annex [] = false
begins_annex (a ∷ []) = false
begins_annex (a ∷ b ∷ []) = false
begins_annex (a ∷ b ∷ c ∷ rest) = a == 123 && b == 42 && c == 42

-- a byte that begins no blank, word, number or quoted text
pub record IsOther (b : ℕ) : Type 0 where
  pub blank : is_blank b ≡ false
  pub letter : is_letter b ≡ false
  pub digit : is_digit b ≡ false
  pub quote : b ≢ 34
