-- Beside specs/Texts.antt: what no clause of `run` reaches.
use Rattle.std.specs.Prelude.{◌≡◌, ℕ, List}
use Rattle.aadl_syntax.specs.declared.token.Token.{Token}
use Rattle.plain_values.specs.declared.refusal.Stop.{Stop}
use Rattle.plain_values.specs.declared.refusal.Stop.TheVariants.{Refused, Memory}
use Rattle.plain_values.specs.Refusal.{refusal}
use Rattle.grammar_rules.specs.Rules.{Rule, Dead}
use Rattle.grammar_rules.specs.Texts.{token_place, syntax_error}

-- The stop is want of memory, or the refusal at a dead place: no text with the same tokens up to and with that place reads.
abbrev pub StopsDead : {A : Type 0} → ℕ → Rule A → List Token → ℕ → Stop → Type 0
StopsDead file rule tokens end Memory = Unit {0}
StopsDead file rule tokens end (Refused refusal) = (number : ℕ) × (refusal ≡ syntax_error file (token_place tokens end number)) × Dead file rule tokens number
