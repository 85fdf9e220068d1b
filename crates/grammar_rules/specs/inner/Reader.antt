-- What a function over a reader gives.
use Rattle.std.specs.Prelude.{◌≡◌, ℕ, Bool, List, Result, Ok, Err, drop}
use Rattle.aadl_syntax.specs.declared.token.Token.{Token}
use Rattle.grammar_rules.specs.declared.reader.ReadError.{ReadError}
use Rattle.grammar_rules.specs.declared.reader.ReadError.TheVariants.{Refused, Memory}
use Rattle.grammar_rules.specs.declared.reader.Reader.{Reader}
use Rattle.grammar_rules.specs.Rules.{Rule, Test, begin_at}
use Rattle.grammar_rules.specs.Running.{Outcome, read, dead, run, seen, looked_at}

-- The result is what the reading comes to, unless memory ran out.
abbrev pub Answers : {A : Type 0} → Result A ReadError → Outcome A → List Token → ℕ → Type 0
Answers (Ok value) outcome rest unseen = outcome ≡ read value rest unseen
Answers (Err Refused) outcome rest unseen = outcome ≡ dead unseen
Answers (Err Memory) outcome rest unseen = Unit {0}

-- what a function that changes a value in place gives: the value as it is then
abbrev pub given : {A : Type 0} → Result (Unit {0}) ReadError → A → Result A ReadError
given (Ok _) value = Ok value
given (Err error) value = Err error

-- The result is what the tokens of the reader read as by the rule, and the reader has gone on so far.
pub record Gives {A : Type 0} (result : Result A ReadError) (rule : Rule A) (old new : Reader) : Type 0 where
  pub same_file : new.file ≡ old.file
  pub answer : Answers result (run old.file rule old.tokens old.unseen) new.tokens new.unseen

-- The result says whether the tokens from place k on pass the tests, and the reader has looked at no others.
pub record Begins (result : Bool) (k : ℕ) (tests : List Test) (old new : Reader) : Type 0 where
  pub same_file : new.file ≡ old.file
  pub same_tokens : new.tokens ≡ old.tokens
  pub answer : result ≡ begin_at k tests old.tokens
  pub looked : new.unseen ≡ looked_at k tests old.tokens old.unseen

-- The reader has looked at the token at place k.
pub record LooksAt (k : ℕ) (old new : Reader) : Type 0 where
  pub same_file : new.file ≡ old.file
  pub same_tokens : new.tokens ≡ old.tokens
  pub looked : new.unseen ≡ seen k old.tokens old.unseen

-- The reader has gone past the next token, if there is one.
pub record Steps (old new : Reader) : Type 0 where
  pub same_file : new.file ≡ old.file
  pub tokens : new.tokens ≡ drop 1 old.tokens
  pub same_unseen : new.unseen ≡ old.unseen
