-- Beside specs/Files.antt: what no clause of `run` reaches.
use Rattle.std.specs.Prelude.{◌⊎◌, ℕ, List}
use Rattle.aadl_syntax.specs.declared.token.Token.{Token}
use Rattle.plain_values.specs.declared.refusal.Refusal.{Refusal}
use Rattle.plain_values.specs.Refusal.{refusal}
use Rattle.aadl_parser.specs.Files.{IsTooNested, IsSyntaxError}

-- The refusal is that of a file that is nested too deep, or of one that has no reading.
abbrev pub IsUnread : ℕ → List Token → ℕ → Refusal → Type 0
IsUnread file tokens end refusal = IsTooNested file tokens end refusal ⊎ IsSyntaxError file tokens end refusal
