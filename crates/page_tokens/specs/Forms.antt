-- The two forms of a page token.
use Rattle.std.specs.Prelude.{ℕ, ◌≡◌, ◌≤◌, ◌⊎◌, Bool, true, false, List, ◌∷◌, ◌++◌, length, take, codes, Option, None, Some}
use Rattle.std.specs.List.{AllByRecursion}
use Rattle.plain_values.specs.Name.{is_same_text}
use Rattle.plain_values.specs.declared.refusal.Code.TheVariants.{BadToken}
use Rattle.plain_values.specs.declared.refusal.Refusal.{Refusal}
use Rattle.plain_values.specs.Refusal.{of_words}

-- a token of the second version: `v2:`, the digits of a key, `:` and a text
abbrev pub token_text : List ℕ → List ℕ → List ℕ
token_text digits rest = codes "v2:" ++ (digits ++ (58 ∷ rest))

-- a lower-case hexadecimal digit
abbrev pub IsDigit : ℕ → Type 0
IsDigit byte = ((48 ≤ byte) × (byte ≤ 57)) ⊎ ((97 ≤ byte) × (byte ≤ 102))

-- The digits of a key: 64 lower-case hexadecimal digits.
pub record AreDigits (digits : List ℕ) : Type 0 where
  pub as_many : length digits ≡ 64
  pub each : AllByRecursion IsDigit digits

-- what a token says: the digits of a key, in the second version alone, and the text behind them
pub record Said : Type 0 where
  pub digits : Option (List ℕ)
  pub rest : List ℕ

-- whether a text begins as the tokens of the second version do
abbrev pub begins_new : List ℕ → Bool
begins_new text = is_same_text (take 3 text) (codes "v2:")

-- The text is a token that says so: of the first version where it does not begin as those of the second do, and it is all text.
abbrev pub Says : List ℕ → Option (List ℕ) → List ℕ → Type 0
Says text None rest = (begins_new text ≡ false) × (rest ≡ text)
Says text (Some digits) rest = (text ≡ token_text digits rest) × AreDigits digits

abbrev pub IsToken : List ℕ → Said → Type 0
IsToken text said = Says text said.digits said.rest

-- K1 of the form: the text begins as a token of the second version, and the digits of a key and `:` do not come next.
pub record IsMalformed (text : List ℕ) (refusal : Refusal) : Type 0 where
  pub begins : begins_new text ≡ true
  pub lacks : (digits rest : List ℕ) → text ≡ token_text digits rest → AreDigits digits → ⊥
  pub refusal_is : refusal ≡ of_words BadToken
