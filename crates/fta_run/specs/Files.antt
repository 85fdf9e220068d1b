-- The contents of the files, and the refusals of their number, their lengths, their tokens and their grammar.
use Rattle.std.specs.Prelude.{◌≡◌, ℕ, suc, ◌<◌, nat_lt, if◌then◌else◌, List, [], ◌∷◌, ◌++◌, ◌⊎◌, length, sum_by, get_or, Option, Some, IfSome, Contains, slice_get}
use Rattle.std.specs.List.{AllZip}
use Rattle.plain_values.specs.declared.refusal.Code.TheVariants.{FileTooLong, TooManyFiles, TooMuchText}
use Rattle.plain_values.specs.declared.refusal.Place.TheVariants.{Whole}
use Rattle.plain_values.specs.declared.refusal.Refusal.{Refusal}
use Rattle.plain_values.specs.declared.refusal.Stop.TheVariants.{Refused}
use Rattle.plain_values.specs.Refusal.{refusal, of_words}
use Rattle.aadl_syntax.specs.declared.token.Token.{Token}
use Rattle.aadl_syntax.specs.declared.core_model.Unit.{Unit as FileUnit}
use Rattle.aadl_lexer.specs.Tokens.{IsFault, RefusedAs, Tokens}
use Rattle.grammar_rules.specs.Rules.{Reads}
use Rattle.aadl_parser.specs.Packages.{file_units}
use Rattle.aadl_parser.specs.Nesting.{IsShallow}
use Rattle.aadl_parser.specs.Files.{IsSyntaxError, IsTooNested}

-- the greatest number of files
abbrev pub most_files : ℕ
most_files = 64

-- the greatest length of a file, in bytes
abbrev pub most_bytes : ℕ
most_bytes = 4194304

-- the greatest length of all files together, in bytes
abbrev pub most_text : ℕ
most_text = 16777216

-- The files of these names may contain these texts, in order: where what a file contains is told, its text is that.
abbrev pub MayContain : (List ℕ → Option (List ℕ)) → List (List ℕ) → List (List ℕ) → Type 0
MayContain contents files texts = AllZip (λ file text. IfSome (contents file) (λ whole. text ≡ whole)) files texts

-- M2: more files are named than may be.
abbrev pub NamesTooMany : List (List ℕ) → Refusal → Type 0
NamesTooMany files refusal = (most_files < length files) × (refusal ≡ of_words TooManyFiles)

-- the refusal of a file, by its number, that is too long
abbrev pub too_long : ℕ → List ℕ → List Refusal
too_long file text = if nat_lt most_bytes (length text) then refusal FileTooLong (Whole file) ∷ [] else []

-- the refusals of all files that are too long, where the first of them has this number
abbrev pub too_long_from : ℕ → List (List ℕ) → List Refusal
too_long_from file [] = []
too_long_from file (text ∷ texts) = too_long file text ++ too_long_from (suc file) texts

-- M1: a file is too long.
abbrev pub HasTooLong : List (List ℕ) → Refusal → Type 0
HasTooLong texts = Contains (too_long_from 0 texts)

-- M13: all files are too long together.
abbrev pub HasTooMuch : List (List ℕ) → Refusal → Type 0
HasTooMuch texts refusal = (most_text < sum_by length texts) × (refusal ≡ of_words TooMuchText)

-- These are the tokens of each text, in order.
abbrev pub AreTokens : List (List ℕ) → List (List Token) → Type 0
AreTokens texts tokens = AllZip Tokens texts tokens

-- L1, L2, L3: the text of a file has no tokens, for this reason at this byte.
pub record LacksTokens (texts : List (List ℕ)) (refusal : Refusal) : Type 0 where
  pub file : ℕ
  pub text : List ℕ
  pub there : slice_get texts file ≡ Some text
  pub fault : RefusedAs file (IsFault text) (Refused refusal)

-- Nowhere are too many brackets open in the tokens of the file of this number, and they read as these units.
pub record AreUnitsOf (file : ℕ) (tokens : List Token) (units : List FileUnit) : Type 0 where
  pub shallow : IsShallow tokens
  pub reads : Reads file file_units tokens units []

-- The tokens of the file of this number have units.
abbrev pub HaveUnits : ℕ → List Token → Type 0
HaveUnits file tokens = (units : List FileUnit) × AreUnitsOf file tokens units

-- These are the units of the tokens of each file, in order.
pub record AreUnits (tokens : List (List Token)) (files : List (List FileUnit)) : Type 0 where
  pub as_many : length files ≡ length tokens
  pub each : (file : ℕ) (its_tokens : List Token) → slice_get tokens file ≡ Some its_tokens → AreUnitsOf file its_tokens (get_or files file [])

-- M3, S1: the tokens of a file are nested too deep, or have no reading, and those of each earlier file have units. It is no
-- group of which the first is taken, since of a syntax error only that its place is dead is said.
pub record LacksUnits (texts : List (List ℕ)) (tokens : List (List Token)) (refusal : Refusal) : Type 0 where
  pub file : ℕ
  pub text : List ℕ
  pub text_there : slice_get texts file ≡ Some text
  pub its_tokens : List Token
  pub tokens_there : slice_get tokens file ≡ Some its_tokens
  pub stops : IsTooNested file its_tokens (length text) refusal ⊎ IsSyntaxError file its_tokens (length text) refusal
  pub earlier : (other : ℕ) (other_tokens : List Token) → other < file → slice_get tokens other ≡ Some other_tokens → HaveUnits other other_tokens
