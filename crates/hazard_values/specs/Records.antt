-- The records of hazards that a value has (EMV2, ARP4761, MILSTD882: `Hazards`).
use Rattle.std.specs.Prelude.{ℕ, suc, List, [], ◌∷◌, codes, find, length, map, Option, None, Some, option_map}
use Rattle.std.specs.Option.{option_or, option_map_or}
use Rattle.plain_values.specs.Name.{is_same_text}
use Rattle.aadl_syntax.specs.declared.token.Token.{Token}
use Rattle.grammar_rules.specs.Parts.{parts_after}
use Rattle.grammar_rules.specs.Rules.{Rule, gives, ends, chooses, ◌>>=◌}
use Rattle.grammar_rules.specs.Running.{run}
use Rattle.grammar_rules.specs.Spans.{ends_tail, until}
use Rattle.grammar_rules.specs.Tokens.{identifier, is_identifier, is_sign, sign}
use Rattle.hazard_values.specs.declared.field.Field.{Field}
use Rattle.hazard_values.specs.declared.record.HazardRecord.{HazardRecord}
use Rattle.hazard_values.specs.Texts.{value_in, value_text}

-- ---- the records of a value

-- WORD "=>" tail ";"
unfoldable pub field : Rule Field
field = do
  name ← identifier []
  _ ← sign (codes "=>")
  value ← until ends_tail
  _ ← sign (codes ";")
  gives (record { name = name; value = value })

-- { field }
unfoldable pub fields : Rule (List Field)
fields = parts_after [] (is_identifier [] ∷ []) field

-- "[" { field } "]"
unfoldable pub fields_record : Rule (List Field)
fields_record = do
  _ ← sign (codes "[")
  its_fields ← fields
  _ ← sign (codes "]")
  gives its_fields

-- "," record
unfoldable pub further_record : Rule (List Field)
further_record = do
  _ ← sign (codes ",")
  fields_record

-- record { "," record }
unfoldable pub some_records : Rule (List (List Field))
some_records = do
  first ← fields_record
  parts_after (first ∷ []) (is_sign (codes ",") ∷ []) further_record

-- [ record { "," record } ]
unfoldable pub perhaps_records : Rule (List (List Field))
perhaps_records = chooses (is_sign (codes "[") ∷ []) some_records (gives [])

-- "(" [ record { "," record } ] ")"
unfoldable pub record_list : Rule (List (List Field))
record_list = do
  _ ← sign (codes "(")
  records ← perhaps_records
  _ ← sign (codes ")")
  gives records

-- one record alone
unfoldable pub one_record : Rule (List (List Field))
one_record = do
  its_fields ← fields_record
  gives (its_fields ∷ [])

-- a list of records, or one record alone
unfoldable pub all_records : Rule (List (List Field))
all_records = chooses (is_sign (codes "(") ∷ []) record_list one_record

-- the same, and nothing behind it
unfoldable pub hazards_value : Rule (List (List Field))
hazards_value = do
  records ← all_records
  _ ← ends
  gives records

-- The records as which these tokens read, each as its fields, if they read so.
abbrev pub value_records : List Token → Option (List (List Field))
value_records tokens = value_in (run 0 hazards_value tokens (suc (length tokens)))

-- ---- what a record says

-- the tokens of the first field of a name, if there is one
abbrev pub field_value : List ℕ → List Field → Option (List Token)
field_value name its_fields = option_map (λ its. its.value) (find (λ its. is_same_text its.name name) its_fields)

-- what the first field of a name says, if there is one
abbrev pub field_text : List ℕ → List Field → Option (List ℕ)
field_text name its_fields = option_map value_text (field_value name its_fields)

-- what the first field of a name says, and nothing where there is none
abbrev pub text_or_none : Option (List ℕ) → List ℕ
text_or_none text = option_map_or (λ its. its) text []

-- the failure of a record: `Failure`, or else `HazardTitle`, or else `FailureCondition`
abbrev pub failure_text : List Field → List ℕ
failure_text its_fields =
    text_or_none (option_or (field_text (codes "failure") its_fields) (option_or (field_text (codes "hazardtitle") its_fields) (field_text (codes "failurecondition") its_fields)))

-- the phases of operation of a record: `Phases`, or else `Phase`
abbrev pub phases_text : List Field → List ℕ
phases_text its_fields = text_or_none (option_or (field_text (codes "phases") its_fields) (field_text (codes "phase") its_fields))

-- What a record of hazards says. Of two fields of one name the first counts; names are compared without case.
abbrev pub record_of : List Field → HazardRecord
record_of its_fields = record {
  failure = failure_text its_fields;
  severity = field_text (codes "severity") its_fields;
  likelihood = field_text (codes "likelihood") its_fields;
  phases = phases_text its_fields;
  cross_reference = text_or_none (field_text (codes "crossreference") its_fields);
  description = text_or_none (field_text (codes "description") its_fields);
}

-- what records say, where there are some
abbrev pub records_said : Option (List (List Field)) → List HazardRecord
records_said None = []
records_said (Some records) = map record_of records

-- What the records of a value of `Hazards` say, in order; a value that is neither a list of records nor one record has none.
abbrev pub records_of : List Token → List HazardRecord
records_of tokens = records_said (value_records tokens)
