-- The refusal of a text that does not read.
use Rattle.std.specs.Prelude.{ℕ, List, Option, Some, None, slice_get}
use Rattle.aadl_syntax.specs.declared.token.Token.{Token}
use Rattle.plain_values.specs.declared.refusal.Code.TheVariants.{Syntax}
use Rattle.plain_values.specs.declared.refusal.Place.TheVariants.{At}
use Rattle.plain_values.specs.declared.refusal.Refusal.{Refusal}
use Rattle.plain_values.specs.Refusal.{refusal}

-- where the token of this number starts, or the place of the end
abbrev pub token_place : List Token → ℕ → ℕ → ℕ
token_place tokens end number = start (slice_get tokens number) where
  start : Option Token → ℕ
  start None = end
  start (Some token) = token.start

-- the refusal of text of this file at this place
abbrev pub syntax_error : ℕ → ℕ → Refusal
syntax_error file at = refusal Syntax (At file at)
