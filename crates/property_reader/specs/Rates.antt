-- Rates of events.
use Rattle.std.specs.Prelude.{ℕ, Bool, false, ◌&&◌, if◌then◌else◌, List, [], ◌∷◌, codes, find, Option, None, Some, is_some, option_and_then, option_map}
use Rattle.plain_values.specs.Name.{is_same_text}
use Rattle.aadl_syntax.specs.declared.error_model.Association.{Association}
use Rattle.aadl_syntax.specs.declared.token.Token.{Token}
use Rattle.aadl_syntax.specs.declared.token.TokenKind.{TokenKind}
use Rattle.aadl_syntax.specs.declared.token.TokenKind.TheVariants.{Number, Word}
use Rattle.grammar_rules.specs.Tokens.{same_kind}
use Rattle.property_reader.specs.declared.field.Field.{Field}
use Rattle.property_reader.specs.declared.rate.Rate.{Rate}
use Rattle.property_reader.specs.declared.rate.RateKind.{RateKind}
use Rattle.property_reader.specs.declared.rate.RateKind.TheVariants.{Lambda, Prob}
use Rattle.property_reader.specs.Fields.{value_fields}

-- the probability 1: what is written of an event of which nothing else is known
abbrev pub conservative_rate : Rate
conservative_rate = record { kind = Prob; text = codes "1" }

-- the word that is written before the number of a rate of this kind
abbrev pub rate_word : RateKind → List ℕ
rate_word Prob = codes "prob="
rate_word Lambda = codes "lambda="

-- the tokens of the first field of a name
abbrev pub field_named : List ℕ → List Field → Option (List Token)
field_named name fields = option_map (λ field. field.value) (find (λ field. is_same_text field.name name) fields)

-- the text of tokens that are one token of this kind
abbrev pub only_text : TokenKind → List Token → Option (List ℕ)
only_text kind [] = None
only_text kind (token ∷ []) = if same_kind token.kind kind then Some token.text else None
only_text kind (token ∷ next ∷ tokens) = None

-- what the number of a rate is under a distribution of this name
abbrev pub distribution_kind : List ℕ → Option RateKind
distribution_kind name =
    if is_same_text name (codes "fixed") then Some Prob
    else if is_same_text name (codes "poisson") then Some Lambda
    else if is_same_text name (codes "exponential") then Some Lambda
    else None

-- the distribution that fields give, where it is one word that names one of these
abbrev pub fields_kind : List Field → Option RateKind
fields_kind fields = option_and_then distribution_kind (option_and_then (only_text Word) (field_named (codes "distribution") fields))

-- the number that fields give, where it is one number
abbrev pub fields_number : List Field → Option (List ℕ)
fields_number fields = option_and_then (only_text Number) (field_named (codes "probabilityvalue") fields)

-- the rate of a number under a distribution, where both are there
abbrev pub rate_with : Option RateKind → Option (List ℕ) → Rate
rate_with None number = conservative_rate
rate_with (Some kind) None = conservative_rate
rate_with (Some kind) (Some number) = record { kind = kind; text = number }

-- the rate that fields give
abbrev pub fields_rate : Option (List Field) → Rate
fields_rate None = conservative_rate
fields_rate (Some fields) = rate_with (fields_kind fields) (fields_number fields)

-- The rate that a value gives (EMV2: `OccurrenceDistribution`): its `ProbabilityValue`, one number, whose bytes are unchanged, as
-- a probability under the `Distribution` Fixed, and as a failure rate under Poisson and Exponential; of two fields of one name the
-- first counts. Everything else gives the conservative rate.
abbrev pub value_rate : List Token → Rate
value_rate value = fields_rate (value_fields value)

-- The rate that an association gives, where there is one.
abbrev pub association_rate : Option Association → Rate
association_rate None = conservative_rate
association_rate (Some association) = value_rate association.value

-- whether fields give a rate: a distribution that is known, and a number
abbrev pub fields_give_rate : Option (List Field) → Bool
fields_give_rate None = false
fields_give_rate (Some fields) = is_some (fields_kind fields) && is_some (fields_number fields)

-- Whether an association gives a rate, where there is one; the rate of all others is the conservative one.
abbrev pub gives_rate : Option Association → Bool
gives_rate None = false
gives_rate (Some association) = fields_give_rate (value_fields association.value)
