-- How long the longest form at the front of a text is, as the code finds it. Laws of these stand in proofs/.
use Rattle.std.specs.Prelude.{ℕ, suc, ◌+◌, Bool, false, ◌==◌, ◌&&◌, ◌||◌, not, List, [], ◌∷◌, drop, if◌then◌else◌}
use Rattle.std.specs.List.{prefix_len}
use Rattle.aadl_syntax.specs.Form.{is_digit, is_hexadecimal}

-- a run of digits
unfoldable pub digits_len : (ℕ → Bool) → List ℕ → ℕ
digits_len class [] = 0
digits_len class (b ∷ rest) = if class b then suc (prefix_len (λ c. class c || c == 95) rest) else 0

-- something before a part that is not empty
abbrev pub after_one : ℕ → ℕ
after_one n = if n == 0 then 0 else suc n

unfoldable pub fraction_len : List ℕ → ℕ
fraction_len [] = 0
fraction_len (b ∷ rest) = if b == 46 then after_one (digits_len is_digit rest) else 0

unfoldable pub signed_len : List ℕ → ℕ
signed_len [] = 0
signed_len (b ∷ rest) = if b == 43 || b == 45 then after_one (digits_len is_digit rest) else digits_len is_digit (b ∷ rest)

unfoldable pub exponent_len : List ℕ → ℕ
exponent_len [] = 0
exponent_len (b ∷ rest) = if b == 101 || b == 69 then after_one (signed_len rest) else 0

-- `.` and digits, or else an exponent, or both
unfoldable pub decimals_len : List ℕ → ℕ
decimals_len text = fraction_len text + exponent_len (drop (fraction_len text) text)

-- whether the text begins with the byte
abbrev pub begins : ℕ → List ℕ → Bool
begins byte [] = false
begins byte (b ∷ rest) = b == byte

-- hexadecimal digits and `#`
unfoldable pub closed_len : List ℕ → ℕ
closed_len text = if not (digits_len is_hexadecimal text == 0) && begins 35 (drop (digits_len is_hexadecimal text) text) then suc (digits_len is_hexadecimal text) else 0

unfoldable pub based_len : List ℕ → ℕ
based_len [] = 0
based_len (b ∷ rest) = if b == 35 then after_one (closed_len rest) else 0

-- what may follow the first digits of a number
unfoldable pub tail_len : List ℕ → ℕ
tail_len text = if based_len text == 0 then decimals_len text else based_len text

unfoldable pub number_len : List ℕ → ℕ
number_len text = digits_len is_digit text + tail_len (drop (digits_len is_digit text) text)
