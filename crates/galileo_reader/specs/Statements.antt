-- What a line of a Galileo text says, by its tokens; and the lines of a text.
use Rattle.std.specs.Prelude.{ℕ, ◌+◌, ◌-◌, ◌*◌, min, ◌≡◌, ◌≢◌, Bool, true, false, ◌&&◌, if◌then◌else◌, List, [], ◌∷◌, length, take, drop, Option, Some, None, ◌⊎◌, codes}
use Rattle.std.specs.List.{list_all, list_any}
use Rattle.std.specs.Option.{option_map, option_or}
use Rattle.property_reader.specs.declared.rate.Rate.{Rate}
use Rattle.property_reader.specs.declared.rate.RateKind.{RateKind}
use Rattle.property_reader.specs.declared.rate.RateKind.TheVariants.{Lambda, Prob}
use Rattle.round_gates.specs.declared.node.GateKind.{GateKind}
use Rattle.round_gates.specs.declared.node.GateKind.TheVariants as kinds
use Rattle.galileo_reader.specs.declared.token.Mark.{Mark}
use Rattle.galileo_reader.specs.declared.token.Token.{Token}
use Rattle.galileo_reader.specs.declared.token.Token.TheVariants as tokens
use Rattle.galileo_reader.specs.declared.statement.PlacedName.{PlacedName}
use Rattle.galileo_reader.specs.declared.statement.Statement.{Statement}
use Rattle.galileo_reader.specs.declared.statement.Statement.TheVariants.{Top, Gate, Event}
use Rattle.galileo_reader.specs.Marks.{LineMarks, gap_len, mark_from}
use Rattle.galileo_reader.specs.Nodes.{first_some}

-- bytes of a text: so many, from so many behind a place
abbrev pub part : List ℕ → ℕ → ℕ → ℕ → List ℕ
part text at from len = take len (drop from (drop at text))

-- a name, in quotes or without
abbrev pub is_name : Token → Bool
is_name tokens.Name = true
is_name tokens.Bare = true
is_name _ = false

-- a rate of an event, or one that is read past
abbrev pub is_attribute : Token → Bool
is_attribute (tokens.Rate kind) = true
is_attribute tokens.Dorm = true
is_attribute (tokens.Value kind from) = true
is_attribute tokens.Other = true
is_attribute _ = false

-- the name of a token, between its quotes where it has any
abbrev pub name_part : List ℕ → Mark → Token → List ℕ
name_part text mark tokens.Bare = part text mark.at 0 mark.len
name_part text mark _ = part text mark.at 1 (mark.len - 2)

-- the name of a token, with the place of its first byte
abbrev pub placed : List ℕ → Mark → PlacedName
placed text mark = record { at = mark.at; name = name_part text mark mark.token }

-- the names of tokens that are all names
unfoldable pub names_of : List ℕ → List Mark → Option (List PlacedName)
names_of text [] = Some []
names_of text (mark ∷ marks) = if is_name mark.token then option_map (λ names. placed text mark ∷ names) (names_of text marks) else None

-- the line of a gate, which has an input
abbrev pub gate_with : PlacedName → GateKind → Option ℕ → Option (List PlacedName) → Option Statement
gate_with name kind count None = None
gate_with name kind count (Some []) = None
gate_with name kind count (Some (input ∷ inputs)) = Some (Gate name kind count (input ∷ inputs))

-- how long the word of a rate is with its `=`
abbrev pub word_len : RateKind → ℕ
word_len Lambda = 7
word_len Prob = 5

-- the rate of a token, whose number is what stands behind so many bytes of it
abbrev pub rate_of : List ℕ → Mark → RateKind → ℕ → Rate
rate_of text mark kind from = record { kind = kind; text = part text mark.at from (mark.len - from) }

-- the rate of a token that has one
abbrev pub rate_in : List ℕ → Mark → Token → Option Rate
rate_in text mark (tokens.Rate kind) = Some (rate_of text mark kind (word_len kind))
rate_in text mark (tokens.Value kind from) = Some (rate_of text mark kind from)
rate_in text mark _ = None

-- the first rate of some tokens
abbrev pub first_rate : List ℕ → List Mark → Option Rate
first_rate text marks = first_some (λ mark. rate_in text mark mark.token) marks

-- an attribute that tells of a failure without such a rate
abbrev pub is_other : Token → Bool
is_other tokens.Other = true
is_other _ = false

-- the rate of an event of whose failure the text tells in another way: as this tool writes an event without a number
abbrev pub other_rate : List Mark → Option Rate
other_rate marks = if list_any (λ mark. is_other mark.token) marks then Some (record { kind = Prob; text = codes "1" }) else None

-- the line of an event: its tokens are attributes, one at least is not read past, and the first rate of them is its rate
abbrev pub event_with : List ℕ → PlacedName → List Mark → Option Statement
event_with text name marks =
    if list_all (λ mark. is_attribute mark.token) marks then option_map (λ rate. Event name rate) (option_or (first_rate text marks) (other_rate marks)) else None

-- what a decimal digit is worth
abbrev pub digit_value : ℕ → ℕ
digit_value b = min (b - 48) 9

-- the number that some digits are behind a number that was read
abbrev pub value_from : ℕ → List ℕ → ℕ
value_from value [] = value
value_from value (b ∷ text) = value_from (value * 10 + digit_value b) text

-- the number that the first of some bytes are, at most nine
abbrev pub figures : List ℕ → ℕ → ℕ
figures text len = value_from 0 (take (min len 9) text)

-- the number before `of`, in a token with so many digits there: how many inputs are to be true
abbrev pub least_of : List ℕ → Mark → ℕ → ℕ
least_of text mark len = figures (drop mark.at text) len

-- the number behind `of`: how many inputs the line says there are
abbrev pub count_of : List ℕ → Mark → ℕ → ℕ
count_of text mark len = figures (drop 2 (drop len (drop mark.at text))) (mark.len - len - 2)

-- the number behind `vot`: how many inputs are to be true
abbrev pub votes_of : List ℕ → Mark → ℕ
votes_of text mark = figures (drop 3 (drop mark.at text)) (mark.len - 3)

-- what a line says of a name, by the token behind the name
abbrev pub named_by : List ℕ → PlacedName → Token → Mark → List Mark → Option Statement
named_by text name tokens.And mark marks = gate_with name kinds.And None (names_of text marks)
named_by text name tokens.Or mark marks = gate_with name kinds.Or None (names_of text marks)
named_by text name (tokens.Counts len) mark marks = gate_with name (kinds.AtLeast (least_of text mark len)) (Some (count_of text mark len)) (names_of text marks)
named_by text name tokens.Votes mark marks = gate_with name (kinds.AtLeast (votes_of text mark)) None (names_of text marks)
named_by text name _ mark marks = event_with text name (mark ∷ marks)

-- what a line says that begins with a name
abbrev pub named_line : List ℕ → PlacedName → List Mark → Option Statement
named_line text name [] = None
named_line text name (mark ∷ marks) = named_by text name mark.token mark marks

-- the line of the top, which begins at a place, has one name
abbrev pub top_line : List ℕ → ℕ → List Mark → Option Statement
top_line text at (mark ∷ []) = if is_name mark.token then Some (Top at (placed text mark)) else None
top_line text at _ = None

-- what a line says, by its first token
abbrev pub said_by : List ℕ → Token → Mark → List Mark → Option Statement
said_by text tokens.Toplevel mark marks = top_line text mark.at marks
said_by text tokens.Name mark marks = named_line text (placed text mark) marks
said_by text tokens.Bare mark marks = named_line text (placed text mark) marks
said_by text _ mark marks = None

-- what a line says, by its tokens
unfoldable pub statement_of : List ℕ → List Mark → Option Statement
statement_of text [] = None
statement_of text (mark ∷ marks) = said_by text mark.token mark marks

-- In the first reading or in the wide one stand from a place on the tokens of a line that says this, and behind its `;` is the place `next`.
pub record HasLine (wide : Bool) (text : List ℕ) (at : ℕ) (statement : Statement) (next : ℕ) : Type 0 where
  pub marks : List Mark
  pub line : LineMarks wide text at marks next
  pub says : statement_of text marks ≡ Some statement

-- From a place on no such line stands.
abbrev pub HasNoLine : Bool → List ℕ → ℕ → Type 0
HasNoLine wide text at = (statement : Statement) (next : ℕ) → HasLine wide text at statement next → ⊥

-- From a place on stands a line that says this. The wide reading reads what the first one reads, and where that has no line its own.
abbrev pub IsLine : Bool → List ℕ → ℕ → Statement → ℕ → Type 0
IsLine false text at statement next = HasLine false text at statement next
IsLine true text at statement next = HasLine false text at statement next ⊎ (HasNoLine false text at × HasLine true text at statement next)

-- From a place on stand these lines, and then nothing but what may stand between tokens.
abbrev pub AreLines : Bool → List ℕ → ℕ → List Statement → Type 0
AreLines wide text at [] = at + gap_len wide (drop at text) ≡ length text
AreLines wide text at (statement ∷ statements) = (next : ℕ) × IsLine wide text at statement next × AreLines wide text next statements

-- From a place on no line stands.
abbrev pub IsNoLine : Bool → List ℕ → ℕ → Type 0
IsNoLine wide text at = (statement : Statement) (next : ℕ) → IsLine wide text at statement next → ⊥

-- These lines stand from a place on, and then, behind what may stand between tokens, at the place `bad`, something that is no line.
abbrev pub IsBadAt : Bool → List ℕ → ℕ → List Statement → ℕ → Type 0
IsBadAt wide text at [] bad = (bad ≡ at + gap_len wide (drop at text)) × (bad ≢ length text) × IsNoLine wide text at
IsBadAt wide text at (statement ∷ statements) bad = (next : ℕ) × IsLine wide text at statement next × IsBadAt wide text next statements bad

-- ---- dynamic gates

abbrev pub is_dynamic : Token → Bool
is_dynamic tokens.Dynamic = true
is_dynamic _ = false

-- whether a token is there, and of a kind
abbrev pub is_mark : (Token → Bool) → Option Mark → Bool
is_mark kind None = false
is_mark kind (Some mark) = kind mark.token

-- whether a name is there, and behind it the word of a dynamic gate
abbrev pub names_dynamic : List ℕ → Option Mark → Bool
names_dynamic text None = false
names_dynamic text (Some name) = is_name name.token && is_mark is_dynamic (mark_from true text (name.at + name.len))

-- whether from a place on stands a name, and behind it the word of a dynamic gate, which the wide reading alone knows
abbrev pub is_dynamic_at : Bool → List ℕ → ℕ → Bool
is_dynamic_at false text at = false
is_dynamic_at true text at = names_dynamic text (mark_from true text at)
