-- The answers of the reading of a file.
use Rattle.std.specs.Prelude.{◌≡◌, ℕ, List}
use Rattle.aadl_syntax.specs.declared.token.Token.{Token}
use Rattle.plain_values.specs.declared.refusal.Code.TheVariants.{TooNested}
use Rattle.plain_values.specs.declared.refusal.Place.TheVariants.{At}
use Rattle.plain_values.specs.declared.refusal.Refusal.{Refusal}
use Rattle.plain_values.specs.Refusal.{refusal}
use Rattle.grammar_rules.specs.Rules.{Dead}
use Rattle.grammar_rules.specs.Texts.{syntax_error, token_place}
use Rattle.aadl_parser.specs.Packages.{file_units}
use Rattle.aadl_parser.specs.Nesting.{IsShallow, NestedAt}

-- the refusal of the bracket at this place of this file, at which too many are open
abbrev pub too_nested : ℕ → ℕ → Refusal
too_nested file at = refusal TooNested (At file at)

-- The refusal is that of the first bracket at which too many are open.
abbrev pub IsTooNested : ℕ → List Token → ℕ → Refusal → Type 0
IsTooNested file tokens end refusal = (number : ℕ) × NestedAt tokens number × (refusal ≡ too_nested file (token_place tokens end number))

-- Nowhere are too many brackets open, and the refusal is that of a dead place: no tokens with the same up to and with it have a
-- reading. A place is that of a token, or the end of the file.
abbrev pub IsSyntaxError : ℕ → List Token → ℕ → Refusal → Type 0
IsSyntaxError file tokens end refusal = IsShallow tokens × (number : ℕ) × (refusal ≡ syntax_error file (token_place tokens end number)) × Dead file file_units tokens number
