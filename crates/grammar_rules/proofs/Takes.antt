-- Which rules take tokens.
use Rattle.std.proofs.Common.{ℕ, ◌<◌, ◌≤◌, Bool, true, false, MatchBool, List, length, Option, refl, ap, arith, length-drop}
use Rattle.aadl_syntax.specs.declared.token.Token.{Token}
use Rattle.aadl_syntax.specs.declared.token.TokenKind.{TokenKind}
use Rattle.grammar_rules.specs.Rules.{Test, Rule, takes, joins, chooses, begin, Reads}
use Rattle.grammar_rules.specs.Running.{Outcome, read, dead, run}
use Rattle.grammar_rules.specs.Tokens.{kind, word, sign, identifier, one_of}
use Rattle.grammar_rules.specs.inner.Parts.{TakesTokens}
use Rattle.grammar_rules.proofs.Laws.{IsOutcome, is_outcome}

-- Reading never adds tokens.
pub length-rest : {A : Type 0} (file : ℕ) (rule : Rule A) (tokens : List Token) (value : A) (rest : List Token) → Reads file rule tokens value rest → length rest ≤ length tokens
length-rest {A} file rule tokens value rest r = either (run file rule tokens 0) (is_outcome file rule tokens 0) where
  either : (o : Outcome A) → IsOutcome file rule tokens 0 o → length rest ≤ length tokens
  either (dead left) h = absurd (h.none tokens (record { same = λ k w. refl }) value rest r)
  either (read x end left) h =
      let e = (h.alone tokens (record { same = λ k w. refl }) value rest r).1 in
      omega (arith, ap length e, length-drop h.taken tokens)

pub takes_takes : {A : Type 0} (of : Token → Option A) → TakesTokens (takes of)
takes_takes of = record { fewer = λ file tokens value rest r. let e = ap length r.1 in omega arith }

pub takes_first : {A B : Type 0} {first : Rule A} {after : A → Rule B} → TakesTokens first → TakesTokens (joins first after)
takes_first {first = first} {after = after} h = record {
  fewer = λ file tokens value rest r.
      let f = h.fewer file tokens r.0 r.1 r.2 in
      let g = length-rest file (after r.0) r.1 value rest r.3 in omega arith;
}

pub takes_after : {A B : Type 0} {first : Rule A} {after : A → Rule B} → ((x : A) → TakesTokens (after x)) → TakesTokens (joins first after)
takes_after {first = first} {after = after} h = record {
  fewer = λ file tokens value rest r.
      let f = length-rest file first tokens r.0 r.1 r.2 in
      let k = h r.0 in
      let g = k.fewer file r.1 value rest r.3 in omega arith;
}

pub takes_either : {A : Type 0} (tests : List Test) {one other : Rule A} → TakesTokens one → TakesTokens other → TakesTokens (chooses tests one other)
takes_either tests {one} {other} h k = record { fewer = λ file tokens value rest r. either file tokens value rest (begin tests tokens) r } where
  either : (file : ℕ) (tokens : List Token) (value : _) (rest : List Token) (b : Bool) → MatchBool b (Reads file one tokens value rest) (Reads file other tokens value rest) → length rest < length tokens
  either file tokens value rest true r = h.fewer file tokens value rest r
  either file tokens value rest false r = k.fewer file tokens value rest r

pub kind_takes : (k : TokenKind) → TakesTokens (kind k)
unfolding kind
kind_takes k = takes_takes _

pub word_takes : (text : List ℕ) → TakesTokens (word text)
unfolding word
word_takes text = takes_takes _

pub sign_takes : (text : List ℕ) → TakesTokens (sign text)
unfolding sign
sign_takes text = takes_takes _

pub identifier_takes : (reserved : List (List ℕ)) → TakesTokens (identifier reserved)
unfolding identifier
identifier_takes reserved = takes_takes _

pub one_of_takes : (words : List (List ℕ)) → TakesTokens (one_of words)
unfolding one_of
one_of_takes words = takes_takes _
