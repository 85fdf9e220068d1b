-- The fields of the value of a rate (EMV2: a record of `OccurrenceDistribution`).
use Rattle.std.specs.Prelude.{suc, List, [], ◌∷◌, codes, length, Option, None, Some}
use Rattle.aadl_syntax.specs.declared.token.Token.{Token}
use Rattle.grammar_rules.specs.Parts.{parts_after}
use Rattle.grammar_rules.specs.Rules.{Rule, gives, ends, ◌>>=◌}
use Rattle.grammar_rules.specs.Running.{Outcome, read, dead, run}
use Rattle.grammar_rules.specs.Spans.{ends_tail, until}
use Rattle.grammar_rules.specs.Tokens.{identifier, is_identifier, sign}
use Rattle.property_reader.specs.declared.field.Field.{Field}

-- WORD "=>" tail ";"
unfoldable pub field : Rule Field
field = do
  name ← identifier []
  _ ← sign (codes "=>")
  value ← until ends_tail
  _ ← sign (codes ";")
  gives (record { name = name; value = value })

-- { field }
unfoldable pub fields : Rule (List Field)
fields = parts_after [] (is_identifier [] ∷ []) field

-- "[" { field } "]", and nothing behind it
unfoldable pub rate_value : Rule (List Field)
rate_value = do
  _ ← sign (codes "[")
  its_fields ← fields
  _ ← sign (codes "]")
  _ ← ends
  gives its_fields

-- the value of a reading, if there is one
abbrev pub value_read : {A : Type 0} → Outcome A → Option A
value_read (read value rest unseen) = Some value
value_read (dead unseen) = None

-- The fields as which these tokens read, if they read so.
abbrev pub value_fields : List Token → Option (List Field)
value_fields tokens = value_read (run 0 rate_value tokens (suc (length tokens)))
