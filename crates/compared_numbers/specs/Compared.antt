-- Numbers that texts have, compared: with 1, with nothing, and with decimals that are parts of a whole.
use Rattle.std.specs.Prelude.{ℕ, ◌*◌, ◌^◌, ◌≤◌, ◌==◌, nat_lt, Bool, false, ◌&&◌, ◌||◌, not, List, Option, None, Some}
use Rattle.std.specs.List.{list_all}
use Rattle.decimals.specs.declared.decimal.Decimal.{Decimal}
use Rattle.decimals.specs.Decimals.{decimal_parts, number_parts}
use Rattle.decimals.specs.Numerals.{Number, number_of}

-- so many parts of the whole are at most a number, if there is one
abbrev pub IsAtMost : ℕ → Option Number → Decimal → Type 0
IsAtMost whole None bound = ⊥
IsAtMost whole (Some number) bound = decimal_parts number bound ≤ number_parts whole number

-- a text without `_` and without `#`, which begins the digits to a base
abbrev pub is_plain_text : List ℕ → Bool
is_plain_text text = list_all (λ byte. not (byte == 95 || byte == 35)) text

-- whether there is a number that passes a test
abbrev pub is_such : (Number → Bool) → Option Number → Bool
is_such test None = false
is_such test (Some number) = test number

-- whether a number is less than 1
abbrev pub is_below_one : Number → Bool
is_below_one number = nat_lt (number.digits * 10 ^ number.raised) (10 ^ number.lowered)

-- whether a number is above 0
abbrev pub is_some_number : Number → Bool
is_some_number number = nat_lt 0 number.digits

-- Whether a text may limit a probability: it is a number less than 1.
abbrev pub is_limit : List ℕ → Bool
is_limit text = is_plain_text text && is_such is_below_one (number_of text)

-- Whether a text is a time: a number above 0.
abbrev pub is_time : List ℕ → Bool
is_time text = is_plain_text text && is_such is_some_number (number_of text)
