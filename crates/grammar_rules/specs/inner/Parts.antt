-- Beside specs/Parts.antt: what no clause of `run` reaches.
use Rattle.std.specs.Prelude.{ℕ, ◌<◌, List, length}
use Rattle.aadl_syntax.specs.declared.token.Token.{Token}
use Rattle.grammar_rules.specs.Rules.{Rule, Reads}

-- Whatever reads by the rule leaves fewer tokens than there were.
pub record TakesTokens {A : Type 0} (rule : Rule A) : Type 0 where
  pub fewer : (file : ℕ) (tokens : List Token) (value : A) (rest : List Token) → Reads file rule tokens value rest → length rest < length tokens
