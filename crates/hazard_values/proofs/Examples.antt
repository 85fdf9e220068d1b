-- Worked values: a list of one record with a string that has quotes, a list of phases and a name behind a set; and values that are none.
use Rattle.std.proofs.Common.{◌≡◌, ℕ, ◌+◌, List, [], ◌∷◌, ◌++◌, codes, length, Some, None, refl}
use Rattle.aadl_syntax.specs.declared.token.Token.{Token}
use Rattle.aadl_syntax.specs.declared.token.TokenKind.TheVariants.{Number, Sign, Text, Word}
use Rattle.grammar_rules.specs.Spans.{closes, ends_tail, is_even, opens, until}
use Rattle.grammar_rules.specs.Tokens.{identifier, is_identifier, is_kind, is_sign, sign}
use Rattle.hazard_values.specs.Records.{all_records, field, fields, fields_record, further_record, hazards_value, one_record, perhaps_records, record_list, records_of, some_records}
use Rattle.hazard_values.specs.Texts.{ends_item, further_item, item, items, list_value, value_text}

abbrev word : List ℕ → Token
word text = record { kind = Word; start = 0; end = 0; text = text }

abbrev sign_of : List ℕ → Token
sign_of text = record { kind = Sign; start = 0; end = 0; text = text }

-- a text in quotes, the first of which is byte `at` of the file
abbrev quoted : ℕ → List ℕ → Token
quoted at bytes = record { kind = Text; start = at; end = at + length bytes; text = bytes }

-- `"No ""thrust"" at all"`, three texts in quotes with nothing between them
abbrev no_thrust : List Token
no_thrust = quoted 10 (codes "\"No \"") ∷ quoted 15 (codes "\"thrust\"") ∷ quoted 23 (codes "\" at all\"") ∷ []

a-quote-twice-is-one : value_text no_thrust ≡ codes "No \"thrust\" at all"
unfolding list_value sign is_sign
a-quote-twice-is-one = refl

-- the same with a blank between them is no string
abbrev apart : List Token
apart = quoted 10 (codes "\"No\"") ∷ quoted 15 (codes "\"thrust\"") ∷ []

two-strings : value_text apart ≡ codes "\"No\" \"thrust\""
unfolding list_value sign is_sign
two-strings = refl

-- `\"` is a quote, `\\` a `\`, and a `\` before any other byte stays
raised-bytes : value_text (quoted 0 (codes "\"a\\\"b\\\\c\\d\"") ∷ []) ≡ codes "a\"b\\c\\d"
unfolding list_value sign is_sign
raised-bytes = refl

-- `MILSTD882::Catastrophic`
abbrev catastrophic : List Token
catastrophic = word (codes "milstd882") ∷ sign_of (codes "::") ∷ word (codes "catastrophic") ∷ []

a-name-has-no-blanks : value_text catastrophic ≡ codes "milstd882::catastrophic"
unfolding list_value sign is_sign
a-name-has-no-blanks = refl

-- `("Takeoff", "Landing")`
abbrev phases : List Token
phases = sign_of (codes "(") ∷ quoted 1 (codes "\"Takeoff\"") ∷ sign_of (codes ",") ∷ quoted 12 (codes "\"Landing\"") ∷ sign_of (codes ")") ∷ []

items-are-joined : value_text phases ≡ codes "Takeoff; Landing"
unfolding list_value items item further_item ends_item sign is_sign until closes opens is_even is_kind
items-are-joined = refl

-- `[Failure => "No ""thrust"" at all"; Phases => ("Takeoff", "Landing"); Severity => MILSTD882::Catastrophic; Failure => "x";]`
abbrev thrust_record : List Token
thrust_record =
    sign_of (codes "[") ∷ word (codes "failure") ∷ sign_of (codes "=>") ∷ (no_thrust
    ++ sign_of (codes ";") ∷ word (codes "phases") ∷ sign_of (codes "=>") ∷ (phases
    ++ sign_of (codes ";") ∷ word (codes "severity") ∷ sign_of (codes "=>") ∷ (catastrophic
    ++ sign_of (codes ";") ∷ word (codes "failure") ∷ sign_of (codes "=>") ∷ quoted 0 (codes "\"x\"") ∷ sign_of (codes ";") ∷ sign_of (codes "]") ∷ [])))

-- of two fields of one name the first counts, and what is not there is none
one-record-alone : records_of thrust_record ≡ record {
  failure = codes "No \"thrust\" at all";
  severity = Some (codes "milstd882::catastrophic");
  likelihood = None;
  phases = codes "Takeoff; Landing";
  cross_reference = [];
  description = [];
} ∷ []
unfolding hazards_value all_records record_list perhaps_records some_records further_record one_record fields_record fields field list_value items item further_item ends_item sign is_sign until closes opens is_even is_kind identifier is_identifier ends_tail
one-record-alone = refl

-- `[HazardTitle => "b"; Phase => "Taxi"; Likelihood => 3;]`
abbrev short_record : List Token
short_record =
    sign_of (codes "[") ∷ word (codes "hazardtitle") ∷ sign_of (codes "=>") ∷ quoted 0 (codes "\"b\"") ∷ sign_of (codes ";") ∷ word (codes "phase") ∷ sign_of (codes "=>")
    ∷ quoted 0 (codes "\"Taxi\"") ∷ sign_of (codes ";") ∷ word (codes "likelihood") ∷ sign_of (codes "=>") ∷ record { kind = Number; start = 0; end = 1; text = codes "3" } ∷ sign_of (codes ";") ∷ sign_of (codes "]") ∷ []

-- two records of a list
abbrev both : List Token
both = sign_of (codes "(") ∷ (short_record ++ sign_of (codes ",") ∷ (short_record ++ sign_of (codes ")") ∷ []))

two-records : records_of both
    ≡ record { failure = codes "b"; severity = None; likelihood = Some (codes "3"); phases = codes "Taxi"; cross_reference = []; description = [] }
    ∷ record { failure = codes "b"; severity = None; likelihood = Some (codes "3"); phases = codes "Taxi"; cross_reference = []; description = [] } ∷ []
unfolding hazards_value all_records record_list perhaps_records some_records further_record one_record fields_record fields field list_value items item further_item ends_item sign is_sign until closes opens is_even is_kind identifier is_identifier ends_tail
two-records = refl

-- a value that is no record has none
no-record : records_of catastrophic ≡ []
unfolding hazards_value all_records record_list one_record fields_record sign is_sign
no-record = refl
