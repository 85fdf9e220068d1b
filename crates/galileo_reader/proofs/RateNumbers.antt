-- The rate of each event of a tree that was read has a number.
use Rattle.std.proofs.Common.{ℕ, ◌+◌, ◌-◌, ◌≡◌, ◌==◌, Bool, true, false, if◌then◌else◌, List, [], ◌∷◌, drop, take, Option, Some, None, Result, Ok, Err, IfOk, MatchResult, codes, inl, ⊎_elim, sym, subst, refl, arith}
use Rattle.std.specs.List.{AllByRecursion, list_all, list_any}
use Rattle.std.specs.Option.{option_map, option_or}
use Rattle.std.proofs.lemmas.Bool.{eqb-false}
use Rattle.aadl_lexer.specs.Scan.{based_len, begins, decimals_len, digits_len, exponent_len, fraction_len, number_len, signed_len, tail_len}
use Rattle.aadl_lexer.proofs.Numbers.{number_most}
use Rattle.aadl_syntax.specs.Form.{IsNumber}
use Rattle.property_reader.specs.declared.rate.Rate.{Rate}
use Rattle.property_reader.specs.declared.rate.RateKind.{RateKind}
use Rattle.property_reader.specs.declared.rate.RateKind.TheVariants.{Lambda, Prob}
use Rattle.round_gates.specs.declared.node.GateKind.{GateKind}
use Rattle.round_gates.specs.declared.node.GateKind.TheVariants as kinds
use Rattle.galileo_reader.specs.declared.statement.PlacedName.{PlacedName}
use Rattle.galileo_reader.specs.declared.statement.Statement.{Statement}
use Rattle.galileo_reader.specs.declared.statement.Statement.TheVariants.{Top, Gate, Event}
use Rattle.galileo_reader.specs.declared.token.Front.{Front}
use Rattle.galileo_reader.specs.declared.token.Mark.{Mark}
use Rattle.galileo_reader.specs.declared.token.Token.{Token}
use Rattle.galileo_reader.specs.declared.token.Token.TheVariants as tokens
use Rattle.galileo_reader.specs.declared.tree.GalileoFault.{GalileoFault}
use Rattle.galileo_reader.specs.declared.tree.NamedEvent.{NamedEvent}
use Rattle.galileo_reader.specs.declared.tree.NamedTree.{NamedTree}
use Rattle.galileo_reader.specs.Marks.{LineMarks, front_of, gap_len, mark_from}
use Rattle.galileo_reader.specs.Nodes.{events_of}
use Rattle.galileo_reader.specs.Statements.{AreLines, HasLine, IsLine, count_of, event_with, first_rate, gate_with, is_attribute, is_name, is_other, least_of, named_by, named_line, names_of, other_rate, placed, rate_in, said_by, statement_of, top_line, votes_of, word_len}
use Rattle.galileo_reader.specs.Tokens.{counts_len, figures_len, front_or, name_len, rate_at, rate_len, starts, token_at, word_at, word_or}
use Rattle.galileo_reader.specs.WideTokens.{after, are_counts, are_votes, attribute_front, bare_len, is_distribution, is_dynamic_word, is_past, is_single, past_front, plain_front, rate_front, real_len, setting_len, spells, value_at, wide_token_at, word_front, word_token}
use Rattle.galileo_reader.specs.Trees.{IsTreeOf}
use Rattle.galileo_reader.specs.inner.Rates.{HasNumbers, IsNumberIn, IsWideNumber}
use Rattle.galileo_reader.specs.inner.Trees.{HaveNoTree}
use Rattle.galileo_reader.proofs.WideNumbers.{rate-is, real-is}

-- ---- tokens

-- the number of a token that has one, where the token begins a text
abbrev HasNumber : Bool → List ℕ → Token → ℕ → Type 0
HasNumber wide text (tokens.Rate kind) len = IsNumberIn wide (take (len - word_len kind) (drop (word_len kind) text))
HasNumber wide text (tokens.Value kind from) len = IsNumberIn wide (take (len - from) (drop from text))
HasNumber wide text _ len = Unit {0}

-- the same of a token, where there is one
abbrev Each : Bool → List ℕ → Option Front → Type 0
Each wide text None = Unit {0}
Each wide text (Some front) = HasNumber wide text front.token front.len

module _ (wide : Bool) (text : List ℕ) where
  abbrev Numbered : Option Front → Type 0
  Numbered front = Each wide text front

  each-if : (c : Bool) (x y : Option Front) → Numbered x → Numbered y → Numbered (if c then x else y)
  each-if true x y p q = p
  each-if false x y p q = q

  each-or : (token : Token) (len : ℕ) (other : Option Front) → ((len ≡ 0 → ⊥) → HasNumber wide text token len) → Numbered other → Numbered (front_or token len other)
  each-or token len other number rest = by (len == 0) refl
    where
      by : (c : Bool) → (len == 0) ≡ c → Numbered (if c then other else Some (record { token = token; len = len }))
      by true e = rest
      by false e = number (eqb-false len 0 e)

rates-first : (text : List ℕ) → Each false text (rate_at text)
unfolding rate_at
rates-first text =
    each-or false text (tokens.Rate Lambda) (rate_len text (codes "lambda=") 7) _ (rate-is text (codes "lambda=") 7)
    (each-or false text (tokens.Rate Prob) (rate_len text (codes "prob=") 5) _ (rate-is text (codes "prob=") 5) (each-or false text tokens.Dorm (rate_len text (codes "dorm=") 5) None (λ some. tt) tt))

words-first : (text : List ℕ) → Each false text (word_at text)
unfolding word_at
words-first text =
    let third = word_or (codes "or") tokens.Or 2 text (rate_at text) in
    let second = word_or (codes "and") tokens.And 3 text third in
    each-if false text (starts text (codes "toplevel")) (Some (record { token = tokens.Toplevel; len = 8 })) second tt
    (each-if false text (starts text (codes "and")) (Some (record { token = tokens.And; len = 3 })) third tt
    (each-if false text (starts text (codes "or")) (Some (record { token = tokens.Or; len = 2 })) (rate_at text) tt (rates-first text)))

first-numbers : (text : List ℕ) → Each false text (token_at text)
unfolding token_at
first-numbers text =
    let counts = front_or (tokens.Counts (figures_len text)) (counts_len text) (word_at text) in
    each-if false text (begins 59 text) (Some (record { token = tokens.End; len = 1 })) (front_or tokens.Name (name_len text) counts) tt
    (each-or false text tokens.Name (name_len text) counts (λ some. tt) (each-or false text (tokens.Counts (figures_len text)) (counts_len text) (word_at text) (λ some. tt) (words-first text)))

-- ---- tokens of the wide reading

rate-wide : (text : List ℕ) (kind : RateKind) (at : ℕ) → Each true text (rate_front kind at (drop at text))
rate-wide text kind at =
    each-or true text (tokens.Value kind at) (after at (real_len (drop at text))) _ (number (real_len (drop at text) == 0) refl)
    (each-or true text tokens.Other (after at (setting_len (drop at text))) None (λ some. tt) tt)
  where
    number : (c : Bool) → (real_len (drop at text) == 0) ≡ c → ((if c then 0 else at + real_len (drop at text)) ≡ 0 → ⊥)
        → IsWideNumber (take ((if c then 0 else at + real_len (drop at text)) - at) (drop at text))
    number true e some = absurd (some refl)
    number false e some =
        let left : real_len (drop at text) ≡ at + real_len (drop at text) - at = omega arith in
        subst (λ n. IsWideNumber (take n (drop at text))) left (real-is (drop at text) (eqb-false (real_len (drop at text)) 0 e))

past-wide : (text word : List ℕ) (at : ℕ) (value : List ℕ) → Each true text (past_front word at value)
past-wide text word at value =
    each-if true text (is_distribution word) _ _ (each-or true text tokens.Other (after at (setting_len value)) None (λ some. tt) tt)
    (each-if true text (is_past word) _ _ (each-or true text tokens.Dorm (after at (setting_len value)) None (λ some. tt) tt)
    (each-if true text (is_single word value) _ _ (each-or true text tokens.Dorm (after at (real_len value)) None (λ some. tt) tt) tt))

attribute-wide : (text word : List ℕ) (at : ℕ) → Each true text (attribute_front word at (drop at text))
unfolding attribute_front
attribute-wide text word at =
    each-if true text (spells word (codes "lambda")) _ _ (rate-wide text Lambda at) (each-if true text (spells word (codes "prob")) _ _ (rate-wide text Prob at) (past-wide text word at (drop at text)))

plain-word : (text word : List ℕ) (len : ℕ) → HasNumber true text (word_token word) len
plain-word text word len =
    by (spells word (codes "toplevel")) (spells word (codes "and")) (spells word (codes "or")) (are_votes word) (are_counts word)
  where
    by : (a b c d e : Bool)
        → HasNumber true text (if a then tokens.Toplevel else (if b then tokens.And else (if c then tokens.Or else (if d then tokens.Votes else (if e then tokens.Counts (figures_len word) else tokens.Bare))))) len
    by true b c d e = tt
    by false true c d e = tt
    by false false true d e = tt
    by false false false true e = tt
    by false false false false true = tt
    by false false false false false = tt

plain-wide : (text : List ℕ) (len : ℕ) (at : Option ℕ) → Each true text (plain_front len text at)
plain-wide text len None = plain-word text (take len text) len
plain-wide text len (Some at) = attribute-wide text (take len text) at

word-wide : (text : List ℕ) (len : ℕ) → Each true text (word_front len text)
unfolding word_front
word-wide text len =
    let plain = plain_front len text (value_at text) in
    let dynamic = Some (record { token = tokens.Dynamic; len = len }) in
    each-if true text (len == 0) None (if is_dynamic_word (take len text) then dynamic else plain) tt
    (each-if true text (is_dynamic_word (take len text)) dynamic plain tt (plain-wide text len (value_at text)))

wide-numbers : (text : List ℕ) → Each true text (wide_token_at text)
unfolding wide_token_at
wide-numbers text =
    let word = word_front (bare_len text) text in
    each-if true text (begins 59 text) (Some (record { token = tokens.End; len = 1 })) (front_or tokens.Name (name_len text) word) tt
    (each-or true text tokens.Name (name_len text) word (λ some. tt) (word-wide text (bare_len text)))

all-numbers : (wide : Bool) (text : List ℕ) → Each wide text (front_of wide text)
all-numbers false text = first-numbers text
all-numbers true text = wide-numbers text

-- ---- tokens at their places

abbrev IsNumbered : Bool → List ℕ → Mark → Type 0
IsNumbered wide text mark = HasNumber wide (drop mark.at text) mark.token mark.len

mark-numbered : (wide : Bool) (text : List ℕ) (at : ℕ) (mark : Mark) → mark_from wide text at ≡ Some mark → IsNumbered wide text mark
unfolding mark_from
mark-numbered wide text at mark e =
    let place = at + gap_len wide (drop at text) in
    from place (front_of wide (drop place text)) (all-numbers wide (drop place text)) e
  where
    same : (a b : Mark) → Some a ≡ Some b → a ≡ b
    same a b h = cc

    from : (place : ℕ) (front : Option Front) → Each wide (drop place text) front → option_map (λ (f : Front). record { token = f.token; at = place; len = f.len }) front ≡ Some mark → IsNumbered wide text mark
    from place None number h = cc
    from place (Some front) number h = subst (IsNumbered wide text) (same (record { token = front.token; at = place; len = front.len }) mark h) number

marks-numbered : (wide : Bool) (text : List ℕ) (at : ℕ) (marks : List Mark) (next : ℕ) → LineMarks wide text at marks next → AllByRecursion (IsNumbered wide text) marks
marks-numbered wide text at [] next line = tt
marks-numbered wide text at (mark ∷ marks) next line = (mark-numbered wide text at mark line.0, marks-numbered wide text (mark.at + mark.len) marks next line.2)

-- ---- rates

-- the rate has a number, where there is one
abbrev IsRated : Bool → Option Rate → Type 0
IsRated wide None = Unit {0}
IsRated wide (Some rate) = IsNumberIn wide rate.text

rate-numbered : (wide : Bool) (text : List ℕ) (mark : Mark) (token : Token) → HasNumber wide (drop mark.at text) token mark.len → IsRated wide (rate_in text mark token)
rate-numbered wide text mark tokens.Name number = tt
rate-numbered wide text mark tokens.Toplevel number = tt
rate-numbered wide text mark tokens.And number = tt
rate-numbered wide text mark tokens.Or number = tt
rate-numbered wide text mark (tokens.Counts n) number = tt
rate-numbered wide text mark (tokens.Rate kind) number = number
rate-numbered wide text mark tokens.Dorm number = tt
rate-numbered wide text mark tokens.Bare number = tt
rate-numbered wide text mark tokens.Votes number = tt
rate-numbered wide text mark (tokens.Value kind from) number = number
rate-numbered wide text mark tokens.Other number = tt
rate-numbered wide text mark tokens.Dynamic number = tt
rate-numbered wide text mark tokens.End number = tt

either-rated : (wide : Bool) (a b : Option Rate) → IsRated wide a → IsRated wide b → IsRated wide (option_or a b)
either-rated wide None b p q = q
either-rated wide (Some rate) b p q = p

first-rated : (wide : Bool) (text : List ℕ) (marks : List Mark) → AllByRecursion (IsNumbered wide text) marks → IsRated wide (first_rate text marks)
first-rated wide text [] all = tt
first-rated wide text (mark ∷ marks) all = either-rated wide (rate_in text mark mark.token) (first_rate text marks) (rate-numbered wide text mark mark.token all.0) (first-rated wide text marks all.1)

-- the number of an event without one
one-is : IsNumber (codes "1")
unfolding digits_len number_len tail_len decimals_len fraction_len exponent_len signed_len based_len
one-is = (number_most (codes "1") (λ z. absurd (omega (arith, z)))).form (λ z. absurd (omega (arith, z)))

one-number : (wide : Bool) → IsNumberIn wide (codes "1")
one-number false = one-is
one-number true = inl one-is

other-rated : (wide : Bool) (marks : List Mark) → IsRated wide (other_rate marks)
other-rated wide marks = by (list_any (λ (mark : Mark). is_other mark.token) marks)
  where
    by : (c : Bool) → IsRated wide (if c then Some (record { kind = Prob; text = codes "1" }) else None)
    by true = one-number wide
    by false = tt

-- ---- lines

-- the rate of a line of an event has a number
abbrev HasRate : Bool → Statement → Type 0
HasRate wide (Event name rate) = IsNumberIn wide rate.text
HasRate wide _ = Unit {0}

abbrev SaysRate : Bool → Option Statement → Type 0
SaysRate wide None = Unit {0}
SaysRate wide (Some statement) = HasRate wide statement

module _ (wide : Bool) (text : List ℕ) where
  event-rated : (name : PlacedName) (marks : List Mark) → AllByRecursion (IsNumbered wide text) marks → SaysRate wide (event_with text name marks)
  event-rated name marks all =
      by (list_all (λ (mark : Mark). is_attribute mark.token) marks) (option_or (first_rate text marks) (other_rate marks))
      (either-rated wide (first_rate text marks) (other_rate marks) (first-rated wide text marks all) (other-rated wide marks))
    where
      by : (c : Bool) (rate : Option Rate) → IsRated wide rate → SaysRate wide (if c then option_map (λ rate. Event name rate) rate else None)
      by true None p = tt
      by true (Some rate) p = p
      by false rate p = tt

  gate-rated : (name : PlacedName) (kind : GateKind) (count : Option ℕ) (names : Option (List PlacedName)) → SaysRate wide (gate_with name kind count names)
  gate-rated name kind count None = tt
  gate-rated name kind count (Some []) = tt
  gate-rated name kind count (Some (input ∷ inputs)) = tt

  by-rated : (name : PlacedName) (token : Token) (mark : Mark) (marks : List Mark) → AllByRecursion (IsNumbered wide text) (mark ∷ marks) → SaysRate wide (named_by text name token mark marks)
  by-rated name tokens.And mark marks all = gate-rated name kinds.And None (names_of text marks)
  by-rated name tokens.Or mark marks all = gate-rated name kinds.Or None (names_of text marks)
  by-rated name (tokens.Counts n) mark marks all = gate-rated name (kinds.AtLeast (least_of text mark n)) (Some (count_of text mark n)) (names_of text marks)
  by-rated name tokens.Votes mark marks all = gate-rated name (kinds.AtLeast (votes_of text mark)) None (names_of text marks)
  by-rated name tokens.Name mark marks all = event-rated name (mark ∷ marks) all
  by-rated name tokens.Toplevel mark marks all = event-rated name (mark ∷ marks) all
  by-rated name (tokens.Rate kind) mark marks all = event-rated name (mark ∷ marks) all
  by-rated name tokens.Dorm mark marks all = event-rated name (mark ∷ marks) all
  by-rated name tokens.Bare mark marks all = event-rated name (mark ∷ marks) all
  by-rated name (tokens.Value kind from) mark marks all = event-rated name (mark ∷ marks) all
  by-rated name tokens.Other mark marks all = event-rated name (mark ∷ marks) all
  by-rated name tokens.Dynamic mark marks all = event-rated name (mark ∷ marks) all
  by-rated name tokens.End mark marks all = event-rated name (mark ∷ marks) all

  line-rated : (name : PlacedName) (marks : List Mark) → AllByRecursion (IsNumbered wide text) marks → SaysRate wide (named_line text name marks)
  line-rated name [] all = tt
  line-rated name (mark ∷ marks) all = by-rated name mark.token mark marks all

  top-rated : (at : ℕ) (marks : List Mark) → SaysRate wide (top_line text at marks)
  top-rated at [] = tt
  top-rated at (mark ∷ []) = by (is_name mark.token)
    where
      by : (c : Bool) → SaysRate wide (if c then Some (Top at (placed text mark)) else None)
      by true = tt
      by false = tt
  top-rated at (mark ∷ other ∷ marks) = tt

  said-rated : (token : Token) (mark : Mark) (marks : List Mark) → AllByRecursion (IsNumbered wide text) marks → SaysRate wide (said_by text token mark marks)
  said-rated tokens.Toplevel mark marks all = top-rated mark.at marks
  said-rated tokens.Name mark marks all = line-rated (placed text mark) marks all
  said-rated tokens.Bare mark marks all = line-rated (placed text mark) marks all
  said-rated tokens.And mark marks all = tt
  said-rated tokens.Or mark marks all = tt
  said-rated (tokens.Counts n) mark marks all = tt
  said-rated tokens.Votes mark marks all = tt
  said-rated (tokens.Rate kind) mark marks all = tt
  said-rated tokens.Dorm mark marks all = tt
  said-rated (tokens.Value kind from) mark marks all = tt
  said-rated tokens.Other mark marks all = tt
  said-rated tokens.Dynamic mark marks all = tt
  said-rated tokens.End mark marks all = tt

  statement-rated : (marks : List Mark) → AllByRecursion (IsNumbered wide text) marks → SaysRate wide (statement_of text marks)
  unfolding statement_of
  statement-rated [] all = tt
  statement-rated (mark ∷ marks) all = said-rated mark.token mark marks all.1

  has-rated : (at : ℕ) (statement : Statement) (next : ℕ) → HasLine wide text at statement next → HasRate wide statement
  has-rated at statement next is = subst (SaysRate wide) is.says (statement-rated is.marks (marks-numbered wide text at is.marks next is.line))

-- a number of the first reading is one of the wide reading
widened : (statement : Statement) → HasRate false statement → HasRate true statement
widened (Top at name) h = tt
widened (Gate name kind count ins) h = tt
widened (Event name rate) h = inl h

is-rated : (wide : Bool) (text : List ℕ) (at : ℕ) (statement : Statement) (next : ℕ) → IsLine wide text at statement next → HasRate wide statement
is-rated false text at statement next is = has-rated false text at statement next is
is-rated true text at statement next is =
    ⊎_elim (λ (line : HasLine false text at statement next). widened statement (has-rated false text at statement next line)) (λ line. has-rated true text at statement next line.1) is

lines-rated : (wide : Bool) (text : List ℕ) (at : ℕ) (lines : List Statement) → AreLines wide text at lines → AllByRecursion (HasRate wide) lines
lines-rated wide text at [] are = tt
lines-rated wide text at (line ∷ lines) are = (is-rated wide text at line are.0 are.1, lines-rated wide text are.0 lines are.2)

events-rated : (wide : Bool) (lines : List Statement) → AllByRecursion (HasRate wide) lines → AllByRecursion (λ (event : NamedEvent). IsNumberIn wide event.rate.text) (events_of lines)
events-rated wide [] all = tt
events-rated wide (Top at name ∷ lines) all = events-rated wide lines all.1
events-rated wide (Gate name kind count ins ∷ lines) all = events-rated wide lines all.1
events-rated wide (Event name rate ∷ lines) all = (all.0, events-rated wide lines all.1)

tree-rated : (wide : Bool) (text : List ℕ) (lines : List Statement) (tree : NamedTree) → AreLines wide text 0 lines → IsTreeOf lines tree → HasNumbers wide tree
tree-rated wide text lines tree are is = subst (HasNumbers wide) (sym is.tree_is) (events-rated wide lines (lines-rated wide text 0 lines are))

-- ---- what the code answers

pub answer-rated : (wide : Bool) (text : List ℕ) (lines found : List Statement) (result : Result NamedTree GalileoFault) → AreLines wide text 0 lines → found ≡ lines → MatchResult result (IsTreeOf found) (HaveNoTree found)
    → IfOk result (HasNumbers wide)
answer-rated wide text lines found (Ok tree) are same is = tree-rated wide text lines tree are (subst (λ ls. IsTreeOf ls tree) same is)
answer-rated wide text lines found (Err fault) are same h = tt
