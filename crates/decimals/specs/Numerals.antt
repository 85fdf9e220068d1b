-- Numbers as texts have them, byte by byte: digits, a point, an exponent, or digits to a base between two `#`; `_` stands between digits.
use Rattle.std.specs.Prelude.{ℕ, ◌+◌, ◌-◌, ◌*◌, ◌==◌, nat_le, Bool, true, false, ◌&&◌, ◌||◌, not, if◌then◌else◌, List, [], ◌∷◌, take, drop, Option, None, Some}
use Rattle.std.specs.List.{fold, count_by, list_all, prefix_len}

-- a number: its digits as a whole number, times ten to the one power, divided by ten to the other
pub record Number : Type 0 where
  pub digits : ℕ
  pub raised : ℕ
  pub lowered : ℕ

-- what a digit means: 0 to 9, and 10 to 15 for A to F and a to f; another byte is no digit to any base
abbrev pub digit_of : ℕ → ℕ
digit_of b =
    if nat_le 48 b && nat_le b 57 then b - 48
    else if nat_le 65 b && nat_le b 70 then b - 55
    else if nat_le 97 b && nat_le b 102 then b - 87
    else 36

abbrev pub is_digit : ℕ → ℕ → Bool
is_digit base b = nat_le (digit_of b + 1) base

-- a digit, or `_`
abbrev pub is_figure : ℕ → ℕ → Bool
is_figure base b = is_digit base b || b == 95

-- a run of digits begins with one, and goes on with digits and `_`
abbrev pub is_run : ℕ → List ℕ → Bool
is_run base [] = false
is_run base (b ∷ bytes) = is_digit base b && list_all (is_figure base) bytes

-- what a byte adds behind the digits before it: another byte than a digit adds nothing
abbrev pub behind : ℕ → ℕ → ℕ → ℕ
behind base n b = if is_digit base b then n * base + digit_of b else n

-- what the digits of a text are worth to a base
abbrev pub worth : ℕ → List ℕ → ℕ
worth base text = fold (behind base) 0 text

-- where the point of some digits stands, or where they end
abbrev pub point : List ℕ → ℕ
point text = prefix_len (λ b. not (b == 46)) text

-- a point and a run of digits, or nothing
abbrev pub is_fraction : List ℕ → Bool
is_fraction [] = true
is_fraction (b ∷ bytes) = is_run 10 bytes

-- a run of digits, and perhaps a point and a run of digits
abbrev pub is_plain : List ℕ → Bool
is_plain text = is_run 10 (take (point text) text) && is_fraction (drop (point text) text)

-- how many digits stand behind the point
abbrev pub places : List ℕ → ℕ
places text = count_by (is_digit 10) (drop (point text) text)

-- the number of these digits without an exponent
abbrev pub plain : List ℕ → Number
plain front = record { digits = worth 10 front; raised = 0; lowered = places front }

-- a number that passes a test, where it is no greater
abbrev pub up_to : ℕ → Bool → ℕ → Option ℕ
up_to most test n = if test && nat_le n most then Some n else None

-- what a run of digits is as an exponent; a greater one is not read
abbrev pub exponent_of : List ℕ → Option ℕ
exponent_of text = up_to 10000000000 (is_run 10 text) (worth 10 text)

-- the number of these digits with an exponent
abbrev pub raised : List ℕ → Option ℕ → Option Number
raised front None = None
raised front (Some exponent) = Some record { digits = worth 10 front; raised = exponent; lowered = places front }

-- and with one that is less than nothing
abbrev pub lowered : List ℕ → Option ℕ → Option Number
lowered front None = None
lowered front (Some exponent) = Some record { digits = worth 10 front; raised = 0; lowered = places front + exponent }

-- a sign or none, and the digits of an exponent
abbrev pub signed : List ℕ → List ℕ → Option Number
signed front [] = None
signed front (b ∷ bytes) =
    if b == 45 then lowered front (exponent_of bytes)
    else if b == 43 then raised front (exponent_of bytes)
    else raised front (exponent_of (b ∷ bytes))

-- where the digits to a base end
abbrev pub hash : List ℕ → ℕ
hash text = prefix_len (λ b. not (b == 35)) text

-- one byte and no more
abbrev pub is_last : List ℕ → Bool
is_last [] = false
is_last (b ∷ []) = true
is_last (b ∷ c ∷ bytes) = false

-- a base is 2 at least
abbrev pub above_one : Option ℕ → Option ℕ
above_one None = None
above_one (Some base) = if nat_le 2 base then Some base else None

-- what a run of digits is as a base: 2 to 16
abbrev pub base_of : List ℕ → Option ℕ
base_of front = above_one (up_to 16 (is_run 10 front) (worth 10 front))

-- what digits to a base and a last `#` are worth; a number of more than 18 zeros is not read
abbrev pub digits_to : ℕ → List ℕ → Option ℕ
digits_to base text =
    up_to 1000000000000000000 (is_run base (take (hash text) text) && is_last (drop (hash text) text)) (worth base (take (hash text) text))

-- a whole number
abbrev pub whole_number : Option ℕ → Option Number
whole_number None = None
whole_number (Some n) = Some record { digits = n; raised = 0; lowered = 0 }

abbrev pub based : Option ℕ → List ℕ → Option Number
based None text = None
based (Some base) text = whole_number (digits_to base text)

-- what stands behind digits with a point or without: nothing, digits to a base, or an exponent
abbrev pub number_behind : List ℕ → List ℕ → Option Number
number_behind front [] = Some (plain front)
number_behind front (b ∷ bytes) =
    if b == 35 then based (base_of front) bytes else if b == 101 || b == 69 then signed front bytes else None

-- how many bytes at the front are digits, `_` and points
abbrev pub front_len : List ℕ → ℕ
front_len text = prefix_len (λ b. is_figure 10 b || b == 46) text

-- The number that a text is, if it is one.
abbrev pub number_of : List ℕ → Option Number
number_of text =
    if is_plain (take (front_len text) text) then number_behind (take (front_len text) text) (drop (front_len text) text) else None
