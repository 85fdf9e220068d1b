-- How many brackets are open at once in the tokens of a file, whatever the text says.
use Rattle.std.specs.Prelude.{ℕ, suc, ◌+◌, ◌-◌, ◌<◌, ◌≤◌, ◌||◌, if◌then◌else◌, List, take, length, codes}
use Rattle.std.specs.List.{fold}
use Rattle.aadl_syntax.specs.declared.token.Token.{Token}
use Rattle.grammar_rules.specs.Rules.{Test}
use Rattle.grammar_rules.specs.Tokens.{is_sign}

-- a round, square or curly bracket that opens
unfoldable pub opens_bracket : Test
opens_bracket token = is_sign (codes "(") token || is_sign (codes "[") token || is_sign (codes "{") token

-- a round, square or curly bracket that closes
unfoldable pub closes_bracket : Test
closes_bracket token = is_sign (codes ")") token || is_sign (codes "]") token || is_sign (codes "}") token

-- how many brackets are open behind a token: an opening one opens one more, and a closing one closes one, if one is open
abbrev pub after_token : ℕ → Token → ℕ
after_token count token = if opens_bracket token then count + 1 else if closes_bracket token then count - 1 else count

-- how many brackets are open behind these tokens
abbrev pub open_after : List Token → ℕ
open_after tokens = fold after_token 0 tokens

-- the number of brackets that may be open at once
abbrev pub nesting_limit : ℕ
nesting_limit = 64

-- nowhere are more brackets open at once than may be
abbrev pub IsShallow : List Token → Type 0
IsShallow tokens = (k : ℕ) → k ≤ length tokens → open_after (take k tokens) ≤ nesting_limit

-- The token of this number is the first at which more brackets are open than may be.
pub record NestedAt (tokens : List Token) (number : ℕ) : Type 0 where
  pub within : number < length tokens
  pub over : nesting_limit < open_after (take (suc number) tokens)
  pub first : (k : ℕ) → k ≤ number → open_after (take k tokens) ≤ nesting_limit
