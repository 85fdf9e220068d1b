-- Beside specs/Numbers.antt: the bytes of a number to a base, digit by digit.
use Rattle.std.specs.Prelude.{ℕ, List, ◌++◌, codes, decimal, filter}
use Rattle.std.specs.List.{flat_map}
use Rattle.aadl_syntax.specs.Form.{is_hexadecimal}
use Rattle.open_psa_writer.specs.Mef.{figures_text}
use Rattle.open_psa_writer.specs.Numbers.{digit_of}

-- the bytes that are hexadecimal digits
abbrev pub digits_in : List ℕ → List ℕ
digits_in text = filter is_hexadecimal text

-- what begins a number for each of its digits
abbrev pub opened : List ℕ → List ℕ
opened digits = flat_map (λ b. codes "<add>\n<mul>\n") digits

-- what stands in it for a digit, behind all before
unfoldable pub digit_text : List ℕ → ℕ → List ℕ
digit_text base b = figures_text base ++ (codes "</mul>\n" ++ (figures_text (decimal (digit_of b)) ++ codes "</add>\n"))
