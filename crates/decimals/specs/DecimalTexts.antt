-- Decimals as texts that any program reads: their digits, with a point behind the first, and a power of ten.
use Rattle.std.specs.Prelude.{ℕ, zero, suc, ◌+◌, ◌-◌, ◌/◌, ◌%◌, ◌==◌, nat_lt, if◌then◌else◌, List, [], ◌∷◌, ◌++◌, codes, decimal, length}
use Rattle.decimals.specs.declared.decimal.Decimal.{Decimal}

-- digits, and how many zeros stand behind them
pub record Trim : Type 0 where
  pub digits : ℕ
  pub zeros : ℕ

-- some digits without the zeros at their end, so many at most, where some were taken before
abbrev pub trimmed : ℕ → ℕ → ℕ → Trim
trimmed zero before digits = record { digits = digits; zeros = before }
trimmed (suc most) before digits =
    if digits % 10 == 0 then trimmed most (before + 1) (digits / 10) else record { digits = digits; zeros = before }

-- a power of ten, as the whole has zeros: nothing for 1
abbrev pub power_text : ℕ → ℕ → List ℕ
power_text whole power =
    if power == whole then []
    else if nat_lt whole power then 101 ∷ decimal (power - whole)
    else 101 ∷ (45 ∷ decimal (whole - power))

-- the digits behind the first, if there are some
abbrev pub fraction_text : List ℕ → List ℕ
fraction_text [] = []
fraction_text (b ∷ bytes) = 46 ∷ (b ∷ bytes)

-- digits with so many zeros behind them
abbrev pub figures_text : ℕ → ℕ → List ℕ → List ℕ
figures_text whole exponent [] = []
figures_text whole exponent (first ∷ rest) = first ∷ (fraction_text rest ++ power_text whole (length rest + exponent))

abbrev pub trimmed_text : ℕ → ℕ → Trim → List ℕ
trimmed_text whole exponent found = figures_text whole (exponent + found.zeros) (decimal found.digits)

-- the text of a decimal
abbrev pub decimal_text : ℕ → Decimal → List ℕ
decimal_text whole x = if x.mantissa == 0 then codes "0" else trimmed_text whole x.exponent (trimmed 18 0 x.mantissa)
