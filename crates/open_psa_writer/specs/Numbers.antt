-- Numbers of AADL as numbers of the Open-PSA Model Exchange Format.
use Rattle.std.specs.Prelude.{ℕ, ◌-◌, ◌==◌, not, nat_le, if◌then◌else◌, List, [], ◌∷◌, codes, decimal, drop, filter, length, take}
use Rattle.std.specs.List.{prefix_len}
use Rattle.aadl_syntax.specs.Form.{is_hexadecimal}
use Rattle.open_psa_writer.specs.Mef.{Number, Figures, Digit}

-- a number without the underscores between its figures, which mean nothing
abbrev pub plain : List ℕ → List ℕ
plain text = filter (λ b. not (b == 95)) text

-- where the base of a number ends, or where the number ends
abbrev pub base_len : List ℕ → ℕ
base_len text = prefix_len (λ b. not (b == 35)) text

-- what a hexadecimal digit means: 0 to 9, and 10 to 15 for A to F and a to f
abbrev pub digit_of : ℕ → ℕ
digit_of b = if nat_le b 57 then b - 48 else if nat_le b 70 then b - 55 else b - 87

-- digits to a base behind a number
abbrev pub digits_behind : List ℕ → Number → List ℕ → Number
digits_behind base before [] = before
digits_behind base before (b ∷ bytes) = digits_behind base (Digit before base (decimal (digit_of b))) bytes

-- A number of AADL: one without a base as it is written, but for the underscores; one to a base by its digits.
abbrev pub number_of : List ℕ → Number
number_of text =
    if base_len text == length text then Figures (plain text)
    else digits_behind (plain (take (base_len text) text)) (Figures (codes "0")) (filter is_hexadecimal (drop (base_len text) text))
