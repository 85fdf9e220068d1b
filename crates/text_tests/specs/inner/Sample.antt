-- A small grammar with each sort of rule, which the tests read by.
--
--     sample = "use" ID { "::" ID } ";"
--            | "item" ID [ "." ID ] tail ";"
--            | "skip" to-end "end" ";"
--            | "emv2" AnnexBegin balanced AnnexEnd
use Rattle.std.specs.Prelude.{ℕ, List, [], ◌∷◌, length, codes}
use Rattle.std.proofs.Common.{ap, arith}
use Rattle.aadl_syntax.specs.declared.token.TokenKind.TheVariants.{AnnexBegin, AnnexEnd}
use Rattle.grammar_rules.specs.Rules.{Rule, gives, chooses, ◌>>=◌}
use Rattle.grammar_rules.specs.Tokens.{is_word, is_sign, is_identifier, kind, word, sign, identifier}
use Rattle.grammar_rules.specs.Parts.{parts_after}
use Rattle.grammar_rules.specs.inner.Parts.{TakesTokens}
use Rattle.grammar_rules.specs.Spans.{until, ends_balanced, ends_tail, ends_to_end}

unfoldable pub reserved : List (List ℕ)
reserved = codes "use" ∷ codes "item" ∷ codes "skip" ∷ codes "end" ∷ []

-- ID
unfoldable pub name : Rule (List ℕ)
name = identifier reserved

-- "::" ID
unfoldable pub further_name : Rule (List ℕ)
further_name = do
  _ ← sign (codes "::")
  name

pub further_name-takes : TakesTokens further_name
unfolding further_name name sign identifier
further_name-takes = record { fewer = λ file tokens value rest r. let colons = ap length r.2.1 in let spelled = ap length r.3.1 in omega arith }

-- "use" ID { "::" ID } ";"
unfoldable pub uses : Rule (List (List ℕ))
uses = do
  _ ← word (codes "use")
  first ← name
  names ← parts_after (first ∷ []) (is_sign (codes "::") ∷ is_identifier reserved ∷ []) further_name
  _ ← sign (codes ";")
  gives names

-- [ "." ID ]
unfoldable pub dotted : List ℕ → Rule (List (List ℕ))
dotted first = chooses (is_sign (codes ".") ∷ [])
    (do
      _ ← sign (codes ".")
      second ← name
      gives (first ∷ second ∷ []))
    (gives (first ∷ []))

-- "item" ID [ "." ID ] tail ";"
unfoldable pub item : Rule (List (List ℕ))
item = do
  _ ← word (codes "item")
  first ← name
  names ← dotted first
  _ ← until ends_tail
  _ ← sign (codes ";")
  gives names

-- "skip" to-end "end" ";"
unfoldable pub skipped : Rule (List (List ℕ))
skipped = do
  _ ← word (codes "skip")
  _ ← until ends_to_end
  _ ← word (codes "end")
  _ ← sign (codes ";")
  gives []

-- "emv2" AnnexBegin balanced AnnexEnd
unfoldable pub annexed : Rule (List (List ℕ))
annexed = do
  _ ← word (codes "emv2")
  _ ← kind AnnexBegin
  _ ← until ends_balanced
  _ ← kind AnnexEnd
  gives []

unfoldable pub sample : Rule (List (List ℕ))
sample = chooses (is_word (codes "use") ∷ []) uses
    (chooses (is_word (codes "item") ∷ []) item
    (chooses (is_word (codes "skip") ∷ []) skipped annexed))
