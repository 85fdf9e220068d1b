-- Numbers of rates as AADL writes them: with a digit before the point and one behind it.
use Rattle.std.specs.Prelude.{ℕ, Bool, false, ◌==◌, not, if◌then◌else◌, List, [], ◌∷◌, ◌++◌, take, drop}
use Rattle.std.specs.List.{prefix_len}
use Rattle.aadl_syntax.specs.Form.{is_digit}

-- where the point of a number stands, or where the number ends
abbrev pub point : List ℕ → ℕ
point text = prefix_len (λ b. not (b == 46)) text

-- what stands before the point, or a 0
abbrev pub front_or_zero : List ℕ → List ℕ
front_or_zero [] = 48 ∷ []
front_or_zero (b ∷ bytes) = b ∷ bytes

abbrev pub begins_with_digit : List ℕ → Bool
begins_with_digit [] = false
begins_with_digit (b ∷ bytes) = is_digit b

-- what stands behind the point, with a 0 before it where it does not begin with a digit
abbrev pub with_digit : List ℕ → List ℕ
with_digit bytes = if begins_with_digit bytes then bytes else 48 ∷ bytes

-- the point and what stands behind it, where there is one
abbrev pub behind_point : List ℕ → List ℕ
behind_point [] = []
behind_point (b ∷ bytes) = b ∷ with_digit bytes

-- a number with a digit before its point and one behind it
abbrev pub numeral : List ℕ → List ℕ
numeral text = front_or_zero (take (point text) text) ++ behind_point (drop (point text) text)
