-- What numbers to a base are worth.
use Rattle.std.specs.Prelude.{ℕ, ◌+◌, ◌*◌, List, [], ◌∷◌}
use Rattle.std.specs.Str.Parse.{digits_value}
use Rattle.open_psa_writer.specs.Mef.{Number, Figures, Digit}
use Rattle.open_psa_writer.specs.Numbers.{digit_of}

-- what a number of a text is worth, whose figures are decimal digits
abbrev pub number_worth : Number → ℕ
number_worth (Figures figures) = digits_value 10 figures
number_worth (Digit before base digit) = number_worth before * digits_value 10 base + digits_value 10 digit

-- what digits to a base are worth behind a number, as AADL has them
abbrev pub worth_behind : ℕ → ℕ → List ℕ → ℕ
worth_behind base before [] = before
worth_behind base before (b ∷ bytes) = worth_behind base (before * base + digit_of b) bytes
