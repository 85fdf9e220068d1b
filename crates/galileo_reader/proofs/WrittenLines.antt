-- Lines that are written read as what they say.
use Rattle.std.proofs.Common.{ℕ, ◌+◌, ◌-◌, ◌≡◌, ◌<◌, ◌≤◌, true, false, not, min, ◌||◌, ◌==◌, List, [], ◌∷◌, ◌++◌, length, map, flat_map, take, drop, decimal, Option, Some, None, ap, ◌∙◌, sym, subst, refl, arith}
use Rattle.std.proofs.lemmas.Bool.{ne_eqb}
use Rattle.std.proofs.lemmas.Fmt.{decimal_nonempty, length-decimal-le}
use Rattle.std.proofs.lemmas.List.{append_assoc, drop_at, length-append, take_at}
use Rattle.std.specs.List.{AllByRecursion}
use Rattle.std.specs.Option.{option_map}
use Rattle.aadl_syntax.specs.Form.{IsNumber, is_blank}
use Rattle.fault_system.proofs.Elements.{In, contains_In, each-made}
use Rattle.galileo_writer.proofs.Bytes.{IsDigit, decimal-digits}
use Rattle.galileo_writer.specs.Galileo.{EventLine, GateLine, IsPlainName, Line, inputs_text, kind_text, line_text, top_text}
use Rattle.property_reader.specs.Rates.{rate_word}
use Rattle.property_reader.specs.declared.rate.Rate.{Rate}
use Rattle.property_reader.specs.declared.rate.RateKind.{RateKind}
use Rattle.property_reader.specs.declared.rate.RateKind.TheVariants.{Lambda, Prob}
use Rattle.round_gates.specs.declared.node.GateKind.{GateKind}
use Rattle.round_gates.specs.declared.node.GateKind.TheVariants as kinds
use Rattle.galileo_reader.specs.declared.statement.PlacedName.{PlacedName}
use Rattle.galileo_reader.specs.declared.statement.Statement.{Statement}
use Rattle.galileo_reader.specs.declared.statement.Statement.TheVariants.{Top, Gate, Event}
use Rattle.galileo_reader.specs.declared.token.Mark.{Mark}
use Rattle.galileo_reader.specs.declared.token.Token.{Token}
use Rattle.galileo_reader.specs.declared.token.Token.TheVariants as tokens
use Rattle.galileo_reader.specs.Marks.{LineMarks, is_end}
use Rattle.galileo_reader.specs.Tokens.{blanks_len, is_plain, token_at}
use Rattle.galileo_reader.specs.Statements.{AreLines, count_of, figures, gate_with, least_of, names_of, part, placed, statement_of, value_from, word_len}
use Rattle.galileo_reader.proofs.Again.{and-again, counts-again, end-again, lambda-again, mark, mark-again, or-again, prob-again, token-again, top-again, value-again}

-- ---- tokens as they are written

-- blanks, and the bytes of a token, the first of them apart
pub record Piece : Type 0 where
  pub blanks : List ℕ
  pub first : ℕ
  pub more : List ℕ
  pub token : Token

abbrev pub pieces_text : List Piece → List ℕ
pieces_text [] = []
pieces_text (p ∷ ps) = p.blanks ++ p.first ∷ (p.more ++ pieces_text ps)

-- where the tokens stand, from a place on
abbrev pub marks_at : ℕ → List Piece → List Mark
marks_at at [] = []
marks_at at (p ∷ ps) = mark p.token (at + length p.blanks) (1 + length p.more) ∷ marks_at (at + length p.blanks + (1 + length p.more)) ps

-- each piece reads as its token, before what comes behind
abbrev pub Readable : List Piece → List ℕ → Type 0
Readable [] after = Unit {0}
Readable (p ∷ ps) after =
    AllByRecursion (λ b. is_blank b ≡ true) p.blanks × (is_blank p.first ≡ false) × (token_at (p.first ∷ (p.more ++ (pieces_text ps ++ after))) ≡ Some (record { token = p.token; len = 1 + length p.more })) × (is_end p.token ≡ false) × Readable ps after

split : (blanks : List ℕ) (first : ℕ) (more rest after : List ℕ) → (blanks ++ first ∷ (more ++ rest)) ++ after ≡ blanks ++ first ∷ (more ++ (rest ++ after))
split blanks first more rest after = append_assoc blanks (first ∷ (more ++ rest)) after ∙ ap (λ t. blanks ++ first ∷ t) (append_assoc more rest after)

grown : (front blanks : List ℕ) (first : ℕ) (more rest : List ℕ) → (front ++ (blanks ++ first ∷ more)) ++ rest ≡ front ++ (blanks ++ first ∷ (more ++ rest))
grown front blanks first more rest = append_assoc front (blanks ++ first ∷ more) rest ∙ ap (λ t. front ++ t) (append_assoc blanks (first ∷ more) rest)

grown-long : (front blanks : List ℕ) (first : ℕ) (more : List ℕ) → length (front ++ (blanks ++ first ∷ more)) ≡ length front + length blanks + (1 + length more)
grown-long front blanks first more =
    let whole : length (front ++ (blanks ++ first ∷ more)) ≡ length front + length (blanks ++ first ∷ more) = length-append front (blanks ++ first ∷ more) in
    let part : length (blanks ++ first ∷ more) ≡ length blanks + length (first ∷ more) = length-append blanks (first ∷ more) in
    omega (arith, whole, part)

-- a line of written tokens
pub line-again : (front : List ℕ) (ps : List Piece) (rest : List ℕ) → Readable ps (59 ∷ rest) → LineMarks false (front ++ (pieces_text ps ++ 59 ∷ rest)) (length front) (marks_at (length front) ps) (length front + length (pieces_text ps) + 1)
line-again front [] rest r = (mark tokens.End (length front + 0) 1, mark-again front [] 59 rest tokens.End 1 tt refl (end-again rest), refl, refl)
line-again front (p ∷ ps) rest r =
    let T = pieces_text ps in
    let R = 59 ∷ rest in
    let text = ap (λ t. front ++ t) (split p.blanks p.first p.more T R) in
    let long = grown-long front p.blanks p.first p.more in
    let first = mark-again front p.blanks p.first (p.more ++ (T ++ R)) p.token (1 + length p.more) r.0 r.1 r.2 in
    let after = line-again (front ++ (p.blanks ++ p.first ∷ p.more)) ps rest r.4 in
    let moved = subst (λ t. LineMarks false t (length (front ++ (p.blanks ++ p.first ∷ p.more))) (marks_at (length (front ++ (p.blanks ++ p.first ∷ p.more))) ps) (length (front ++ (p.blanks ++ p.first ∷ p.more)) + length T + 1)) (grown front p.blanks p.first p.more (T ++ R)) after in
    let placed = subst (λ n. LineMarks false (front ++ (p.blanks ++ p.first ∷ (p.more ++ (T ++ R)))) n (marks_at n ps) (n + length T + 1)) long moved in
    let size : length (p.blanks ++ p.first ∷ (p.more ++ T)) ≡ length p.blanks + length (p.first ∷ (p.more ++ T)) = length-append p.blanks (p.first ∷ (p.more ++ T)) in
    let inner : length (p.more ++ T) ≡ length p.more + length T = length-append p.more T in
    let next : length front + length p.blanks + (1 + length p.more) + length T + 1 ≡ length front + length (p.blanks ++ p.first ∷ (p.more ++ T)) + 1 = omega (arith, size, inner) in
    let ended = subst (λ n. LineMarks false (front ++ (p.blanks ++ p.first ∷ (p.more ++ (T ++ R)))) (length front + length p.blanks + (1 + length p.more)) (marks_at (length front + length p.blanks + (1 + length p.more)) ps) n) next placed in
    subst (λ t. LineMarks false t (length front) (marks_at (length front) (p ∷ ps)) (length front + length (p.blanks ++ p.first ∷ (p.more ++ T)) + 1)) (sym text) (first, r.3, ended)

-- ---- names

-- a name in quotes behind a blank
abbrev pub name_piece : ℕ → List ℕ → Piece
name_piece blank name = record { blanks = blank ∷ []; first = 34; more = name ++ 34 ∷ []; token = tokens.Name }

pub plain-bytes : (name : List ℕ) → IsPlainName name → AllByRecursion (λ b. is_plain b ≡ true) name
plain-bytes name is = each-made (λ b. is_plain b ≡ true) name (λ b i.
    ap (λ x. not (x || (b == 10))) (ne_eqb b 34 (λ e. is.no_quote (contains_In 34 name (subst (λ (k : ℕ). In k name) e i))))
    ∙ ap not (ne_eqb b 10 (λ e. is.no_line_feed (contains_In 10 name (subst (λ (k : ℕ). In k name) e i)))))

quote-long : (name : List ℕ) → length (name ++ 34 ∷ []) ≡ length name + 1
quote-long name = length-append name (34 ∷ [])

name-token : (name rest : List ℕ) → IsPlainName name → token_at (34 ∷ ((name ++ 34 ∷ []) ++ rest)) ≡ Some (record { token = tokens.Name; len = 1 + length (name ++ 34 ∷ []) })
name-token name rest is =
    let long : length name + 2 ≡ 1 + length (name ++ 34 ∷ []) = omega (arith, quote-long name) in
    ap (λ t. token_at (34 ∷ t)) (append_assoc name (34 ∷ []) rest) ∙ token-again name rest is.some (plain-bytes name is) ∙ ap (λ n. Some (record { token = tokens.Name; len = n })) long

-- the name between the quotes
name-part : (text : List ℕ) (at len : ℕ) (name rest : List ℕ) → drop at text ≡ 34 ∷ (name ++ 34 ∷ rest) → len ≡ length name + 2 → part text at 1 (len - 2) ≡ name
name-part text at len name rest there e =
    let few : length name ≡ len - 2 = omega (arith, e) in
    ap (λ t. take (len - 2) (drop 1 t)) there ∙ ap (take (len - 2)) (drop_at (34 ∷ []) (name ++ 34 ∷ rest) 1 refl) ∙ take_at name (34 ∷ rest) (len - 2) few

-- the mark of a name that is written behind a front and a blank
name-placed : (front : List ℕ) (blank : ℕ) (name rest : List ℕ) (text : List ℕ) → text ≡ front ++ (blank ∷ 34 ∷ ((name ++ 34 ∷ []) ++ rest))
    → placed text (mark tokens.Name (length front + 1) (1 + length (name ++ 34 ∷ []))) ≡ record { at = length front + 1; name = name }
name-placed front blank name rest text is =
    let there : drop (length front + 1) text ≡ 34 ∷ (name ++ 34 ∷ rest)
    = ap (drop (length front + 1)) (is ∙ sym (append_assoc front (blank ∷ []) (34 ∷ ((name ++ 34 ∷ []) ++ rest)))) ∙ drop_at (front ++ blank ∷ []) (34 ∷ ((name ++ 34 ∷ []) ++ rest)) (length front + 1) (length-append front (blank ∷ []))
    ∙ ap (λ t. 34 ∷ t) (append_assoc name (34 ∷ []) rest) in
    let long : 1 + length (name ++ 34 ∷ []) ≡ length name + 2 = omega (arith, quote-long name) in
    ap (λ n. record { at = length front + 1; name = n }) (name-part text (length front + 1) (1 + length (name ++ 34 ∷ [])) name rest there long)

-- the names of inputs, from a place on
abbrev pub placed_at : ℕ → List (List ℕ) → List PlacedName
placed_at at [] = []
placed_at at (name ∷ names) = record { at = at + 1; name = name } ∷ placed_at (at + 1 + (1 + length (name ++ 34 ∷ []))) names

abbrev pub input_pieces : List (List ℕ) → List Piece
input_pieces names = map (name_piece 32) names

pub names-again : (front : List ℕ) (names : List (List ℕ)) (rest text : List ℕ) → text ≡ front ++ (pieces_text (input_pieces names) ++ rest) → names_of text (marks_at (length front) (input_pieces names)) ≡ Some (placed_at (length front) names)
unfolding names_of
names-again front [] rest text is = refl
names-again front (name ∷ names) rest text is =
    let T = pieces_text (input_pieces names) in
    let here : text ≡ front ++ (32 ∷ 34 ∷ ((name ++ 34 ∷ []) ++ (T ++ rest))) = is ∙ ap (λ t. front ++ t) (split (32 ∷ []) 34 (name ++ 34 ∷ []) T rest) in
    let later : text ≡ (front ++ (32 ∷ 34 ∷ (name ++ 34 ∷ []))) ++ (T ++ rest) = here ∙ sym (grown front (32 ∷ []) 34 (name ++ 34 ∷ []) (T ++ rest)) in
    let long : length (front ++ (32 ∷ 34 ∷ (name ++ 34 ∷ []))) ≡ length front + 1 + (1 + length (name ++ 34 ∷ [])) = grown-long front (32 ∷ []) 34 (name ++ 34 ∷ []) in
    let after = names-again (front ++ (32 ∷ 34 ∷ (name ++ 34 ∷ []))) names rest text later in
    let moved : names_of text (marks_at (length front + 1 + (1 + length (name ++ 34 ∷ []))) (input_pieces names)) ≡ Some (placed_at (length front + 1 + (1 + length (name ++ 34 ∷ []))) names)
    = subst (λ n. names_of text (marks_at n (input_pieces names)) ≡ Some (placed_at n names)) long after in
    ap (option_map (λ found. placed text (mark tokens.Name (length front + 1) (1 + length (name ++ 34 ∷ []))) ∷ found)) moved
    ∙ ap (λ own. Some (own ∷ placed_at (length front + 1 + (1 + length (name ++ 34 ∷ []))) names)) (name-placed front 32 name (T ++ rest) text here)

inputs-readable : (names : List (List ℕ)) (after : List ℕ) → AllByRecursion IsPlainName names → Readable (input_pieces names) after
inputs-readable [] after all = tt
inputs-readable (name ∷ names) after all = ((refl, tt), refl, name-token name (pieces_text (input_pieces names) ++ after) all.0, refl, inputs-readable names after all.1)

inputs-written : (names : List (List ℕ)) → inputs_text names ≡ pieces_text (input_pieces names)
inputs-written [] = refl
inputs-written (name ∷ names) = ap (λ t. 32 ∷ 34 ∷ ((name ++ 34 ∷ []) ++ t)) (inputs-written names)

-- ---- kinds

abbrev head_of : List ℕ → ℕ
head_of [] = 0
head_of (b ∷ bytes) = b

abbrev tail_of : List ℕ → List ℕ
tail_of [] = []
tail_of (b ∷ bytes) = bytes

again : (bytes : List ℕ) → 0 < length bytes → head_of bytes ∷ tail_of bytes ≡ bytes
again [] some = absurd (omega arith)
again (b ∷ bytes) some = refl

abbrev pub kind_piece : GateKind → ℕ → Piece
kind_piece kinds.And count = record { blanks = 32 ∷ []; first = 97; more = 110 ∷ 100 ∷ []; token = tokens.And }
kind_piece kinds.Or count = record { blanks = 32 ∷ []; first = 111; more = 114 ∷ []; token = tokens.Or }
kind_piece (kinds.AtLeast k) count = record { blanks = 32 ∷ []; first = head_of (decimal k); more = tail_of (decimal k) ++ 111 ∷ 102 ∷ decimal count; token = tokens.Counts (length (decimal k)) }

-- what a line says of the count of its inputs
abbrev pub said_count : GateKind → ℕ → Option ℕ
said_count kinds.And count = None
said_count kinds.Or count = None
said_count (kinds.AtLeast k) count = Some count

-- numbers of at most nine digits
abbrev pub IsShort : GateKind → ℕ → Type 0
IsShort kinds.And count = Unit {0}
IsShort kinds.Or count = Unit {0}
IsShort (kinds.AtLeast k) count = (k < 1000000000) × (count < 1000000000)

some-digit : (n : ℕ) → n < 1000000000 → 0 < length (decimal n)
some-digit n small = decimal_nonempty n (omega (arith, small))

counts-text : (k count : ℕ) (rest : List ℕ) → k < 1000000000 → head_of (decimal k) ∷ ((tail_of (decimal k) ++ 111 ∷ 102 ∷ decimal count) ++ rest) ≡ decimal k ++ 111 ∷ 102 ∷ (decimal count ++ rest)
counts-text k count rest small =
    ap (λ t. head_of (decimal k) ∷ t) (append_assoc (tail_of (decimal k)) (111 ∷ 102 ∷ decimal count) rest)
    ∙ ap (λ t. t ++ 111 ∷ 102 ∷ (decimal count ++ rest)) (again (decimal k) (some-digit k small))

tail-long : (bytes : List ℕ) → 0 < length bytes → length bytes ≡ 1 + length (tail_of bytes)
tail-long [] some = absurd (omega arith)
tail-long (b ∷ bytes) some = omega arith

counts-long : (k count : ℕ) → k < 1000000000 → length (decimal k) + length (decimal count) + 2 ≡ 1 + length (tail_of (decimal k) ++ 111 ∷ 102 ∷ decimal count)
counts-long k count small =
    let rest : length (tail_of (decimal k) ++ 111 ∷ 102 ∷ decimal count) ≡ length (tail_of (decimal k)) + length (111 ∷ 102 ∷ decimal count) = length-append (tail_of (decimal k)) (111 ∷ 102 ∷ decimal count) in
    omega (arith, rest, tail-long (decimal k) (some-digit k small))

digit-blank : (b : ℕ) → IsDigit b → is_blank b ≡ false
digit-blank b d =
    ap (λ x. x || ((b == 10) || ((b == 13) || ((b == 32) || false)))) (ne_eqb b 9 (λ e. omega (arith, d.0, e)))
    ∙ ap (λ x. x || ((b == 13) || ((b == 32) || false))) (ne_eqb b 10 (λ e. omega (arith, d.0, e)))
    ∙ ap (λ x. x || ((b == 32) || false)) (ne_eqb b 13 (λ e. omega (arith, d.0, e)))
    ∙ ap (λ x. x || false) (ne_eqb b 32 (λ e. omega (arith, d.0, e)))

-- a kind before a blank
kind-token : (kind : GateKind) (count : ℕ) (rest : List ℕ) → IsShort kind count
    → (is_blank (kind_piece kind count).first ≡ false) × (token_at ((kind_piece kind count).first ∷ ((kind_piece kind count).more ++ 32 ∷ rest)) ≡ Some (record { token = (kind_piece kind count).token; len = 1 + length (kind_piece kind count).more })) × (is_end (kind_piece kind count).token ≡ false)
kind-token kinds.And count rest short = (refl, and-again (32 ∷ rest), refl)
kind-token kinds.Or count rest short = (refl, or-again (32 ∷ rest), refl)
kind-token (kinds.AtLeast k) count rest short = (
  not-blank (decimal k) (some-digit k short.0) (decimal-digits k),
  ap token_at (counts-text k count (32 ∷ rest) short.0) ∙ counts-again k count 32 rest short.0 short.1 refl ∙ ap (λ n. Some (record { token = tokens.Counts (length (decimal k)); len = n })) (counts-long k count short.0),
  refl,
)
  where
    not-blank : (bytes : List ℕ) → 0 < length bytes → AllByRecursion IsDigit bytes → is_blank (head_of bytes) ≡ false
    not-blank [] some all = absurd (omega arith)
    not-blank (b ∷ bytes) some all = digit-blank b all.0

kind-written : (kind : GateKind) (count : ℕ) (rest : List ℕ) → IsShort kind count → kind_text kind count ++ rest ≡ (kind_piece kind count).first ∷ ((kind_piece kind count).more ++ rest)
kind-written kinds.And count rest short = refl
kind-written kinds.Or count rest short = refl
kind-written (kinds.AtLeast k) count rest short = append_assoc (decimal k) (111 ∷ 102 ∷ decimal count) rest ∙ sym (counts-text k count rest short.0)

kind-blanks : (kind : GateKind) (count : ℕ) → (kind_piece kind count).blanks ≡ 32 ∷ []
kind-blanks kinds.And count = refl
kind-blanks kinds.Or count = refl
kind-blanks (kinds.AtLeast k) count = refl

-- the number at the front of a text
figures-read : (n : ℕ) (text rest : List ℕ) (len : ℕ) → n < 1000000000 → text ≡ decimal n ++ rest → len ≡ length (decimal n) → figures text len ≡ n
figures-read n text rest len small is e =
    let most : length (decimal n) ≤ 9 = length-decimal-le 9 n (omega arith) (omega (arith, small)) (omega (arith, small)) in
    let few : min len 9 ≡ length (decimal n) = omega (arith, e, most) in
    ap (λ t. value_from 0 (take (min len 9) t)) is ∙ ap (value_from 0) (ap (λ k. take k (decimal n ++ rest)) few ∙ take_at (decimal n) rest (length (decimal n)) refl) ∙ value-again n (omega (arith, small))

least-read : (k count : ℕ) (text rest : List ℕ) (at len : ℕ) → k < 1000000000 → drop at text ≡ decimal k ++ 111 ∷ 102 ∷ (decimal count ++ rest) → least_of text (mark (tokens.Counts (length (decimal k))) at len) (length (decimal k)) ≡ k
least-read k count text rest at len small there = figures-read k (drop at text) (111 ∷ 102 ∷ (decimal count ++ rest)) (length (decimal k)) small there refl

count-read : (k count : ℕ) (text rest : List ℕ) (at len : ℕ) → count < 1000000000 → drop at text ≡ decimal k ++ 111 ∷ 102 ∷ (decimal count ++ rest) → len ≡ length (decimal k) + length (decimal count) + 2
    → count_of text (mark (tokens.Counts (length (decimal k))) at len) (length (decimal k)) ≡ count
count-read k count text rest at len small there long =
    let few : len - length (decimal k) - 2 ≡ length (decimal count) = omega (arith, long) in
    figures-read count (drop 2 (drop (length (decimal k)) (drop at text))) rest (len - length (decimal k) - 2) small
    (ap (λ t. drop 2 (drop (length (decimal k)) t)) there ∙ ap (drop 2) (drop_at (decimal k) (111 ∷ 102 ∷ (decimal count ++ rest)) (length (decimal k)) refl) ∙ drop_at (111 ∷ 102 ∷ []) (decimal count ++ rest) 2 refl) few

-- ---- lines of gates

abbrev pub gate_pieces : List ℕ → GateKind → List (List ℕ) → List Piece
gate_pieces name kind ins = name_piece 10 name ∷ kind_piece kind (length ins) ∷ input_pieces ins

-- what the written line of a gate behind a line feed says
abbrev pub gate_at : ℕ → List ℕ → GateKind → List (List ℕ) → Statement
gate_at at name kind ins =
    Gate (record { at = at + 1; name = name }) kind (said_count kind (length ins)) (placed_at (at + 1 + (1 + length (name ++ 34 ∷ [])) + length (kind_piece kind (length ins)).blanks + (1 + length (kind_piece kind (length ins)).more)) ins)

-- a text from the name of a line on
gate-text : (name : List ℕ) (kind : GateKind) (ins : List (List ℕ)) (rest : List ℕ) → IsShort kind (length ins) → 10 ∷ (line_text (GateLine name kind ins) ++ rest) ≡ pieces_text (gate_pieces name kind ins) ++ 59 ∷ 10 ∷ rest
gate-text name kind ins rest short =
    let K = kind_text kind (length ins) in
    let I = inputs_text ins in
    let P = kind_piece kind (length ins) in
    let T = pieces_text (input_pieces ins) in
    let left : line_text (GateLine name kind ins) ++ rest ≡ 34 ∷ ((name ++ 34 ∷ []) ++ 32 ∷ (K ++ (I ++ 59 ∷ 10 ∷ rest)))
    = append_assoc (34 ∷ (name ++ 34 ∷ [])) (32 ∷ (K ++ (I ++ 59 ∷ 10 ∷ []))) rest
    ∙ ap (λ t. 34 ∷ ((name ++ 34 ∷ []) ++ 32 ∷ t)) (append_assoc K (I ++ 59 ∷ 10 ∷ []) rest ∙ ap (λ t. K ++ t) (append_assoc I (59 ∷ 10 ∷ []) rest)) in
    let right : pieces_text (gate_pieces name kind ins) ++ 59 ∷ 10 ∷ rest ≡ 10 ∷ 34 ∷ ((name ++ 34 ∷ []) ++ (P.blanks ++ P.first ∷ (P.more ++ (T ++ 59 ∷ 10 ∷ rest))))
    = split (10 ∷ []) 34 (name ++ 34 ∷ []) (P.blanks ++ P.first ∷ (P.more ++ T)) (59 ∷ 10 ∷ rest) ∙ ap (λ t. 10 ∷ 34 ∷ ((name ++ 34 ∷ []) ++ t)) (split P.blanks P.first P.more T (59 ∷ 10 ∷ rest)) in
    ap (λ t. 10 ∷ t) left
    ∙ ap (λ t. 10 ∷ 34 ∷ ((name ++ 34 ∷ []) ++ 32 ∷ t)) (kind-written kind (length ins) (I ++ 59 ∷ 10 ∷ rest) short ∙ ap (λ t. P.first ∷ (P.more ++ (t ++ 59 ∷ 10 ∷ rest))) (inputs-written ins))
    ∙ ap (λ b. 10 ∷ 34 ∷ ((name ++ 34 ∷ []) ++ (b ++ P.first ∷ (P.more ++ (T ++ 59 ∷ 10 ∷ rest))))) (sym (kind-blanks kind (length ins))) ∙ sym right

gate-readable : (name : List ℕ) (kind : GateKind) (ins : List (List ℕ)) (rest : List ℕ) → IsPlainName name → IsShort kind (length ins) → AllByRecursion IsPlainName ins → (ins ≡ [] → ⊥) → Readable (gate_pieces name kind ins) (59 ∷ rest)
gate-readable name kind [] rest plain short all some = absurd (some refl)
gate-readable name kind (input ∷ ins) rest plain short all some =
    let P = kind_piece kind (length (input ∷ ins)) in
    let K = kind-token kind (length (input ∷ ins)) (34 ∷ ((input ++ 34 ∷ []) ++ pieces_text (input_pieces ins)) ++ 59 ∷ rest) short in (
      (refl, tt),
      refl,
      name-token name ((P.blanks ++ P.first ∷ (P.more ++ pieces_text (input_pieces (input ∷ ins)))) ++ 59 ∷ rest) plain,
      refl,
      (subst (λ bs. AllByRecursion (λ b. is_blank b ≡ true) bs) (sym (kind-blanks kind (length (input ∷ ins)))) (refl, tt), K.0, K.1, K.2, inputs-readable (input ∷ ins) (59 ∷ rest) all),
    )

-- a gate that has inputs
with-inputs : (name : PlacedName) (kind : GateKind) (count : Option ℕ) (at : ℕ) (ins : List (List ℕ)) → (ins ≡ [] → ⊥) → gate_with name kind count (Some (placed_at at ins)) ≡ Some (Gate name kind count (placed_at at ins))
with-inputs name kind count at [] some = absurd (some refl)
with-inputs name kind count at (input ∷ ins) some = refl

-- what tokens say of which the names and the counts are read
gate-read : (text : List ℕ) (name : PlacedName) (first : Mark) (kind : GateKind) (ins : List (List ℕ)) (at behind len : ℕ) (marks : List Mark) → placed text (mark tokens.Name first.at first.len) ≡ name → names_of text marks ≡ Some (placed_at behind ins) → (ins ≡ [] → ⊥)
    → ((k : ℕ) → kind ≡ kinds.AtLeast k → (least_of text (mark (tokens.Counts (length (decimal k))) at len) (length (decimal k)) ≡ k) × (count_of text (mark (tokens.Counts (length (decimal k))) at len) (length (decimal k)) ≡ length ins))
    → statement_of text (mark tokens.Name first.at first.len ∷ mark (kind_piece kind (length ins)).token at len ∷ marks) ≡ Some (Gate name kind (said_count kind (length ins)) (placed_at behind ins))
unfolding statement_of
gate-read text name first kinds.And ins at behind len marks own read some counts =
    ap (λ p. gate_with p kinds.And None (names_of text marks)) own ∙ ap (gate_with name kinds.And None) read ∙ with-inputs name kinds.And None behind ins some
gate-read text name first kinds.Or ins at behind len marks own read some counts =
    ap (λ p. gate_with p kinds.Or None (names_of text marks)) own ∙ ap (gate_with name kinds.Or None) read ∙ with-inputs name kinds.Or None behind ins some
gate-read text name first (kinds.AtLeast k) ins at behind len marks own read some counts =
    let numbers = counts k refl in
    ap (λ p. gate_with p (kinds.AtLeast (least_of text (mark (tokens.Counts (length (decimal k))) at len) (length (decimal k)))) (Some (count_of text (mark (tokens.Counts (length (decimal k))) at len) (length (decimal k)))) (names_of text marks)) own
    ∙ (λ i. gate_with name (kinds.AtLeast (numbers.0 i)) (Some (numbers.1 i)) (read i)) ∙ with-inputs name (kinds.AtLeast k) (Some (length ins)) behind ins some

-- what the tokens of the written line of a gate say
module _ (front : List ℕ) (name : List ℕ) (kind : GateKind) (ins : List (List ℕ)) (rest text : List ℕ) (short : IsShort kind (length ins)) (some : ins ≡ [] → ⊥) (is : text ≡ front ++ (pieces_text (gate_pieces name kind ins) ++ 59 ∷ rest)) where
  abbrev P : Piece
  P = kind_piece kind (length ins)

  abbrev T : List ℕ
  T = pieces_text (input_pieces ins)

  here : text ≡ front ++ (10 ∷ 34 ∷ ((name ++ 34 ∷ []) ++ ((P.blanks ++ P.first ∷ (P.more ++ T)) ++ 59 ∷ rest)))
  here = is ∙ ap (λ t. front ++ t) (split (10 ∷ []) 34 (name ++ 34 ∷ []) (P.blanks ++ P.first ∷ (P.more ++ T)) (59 ∷ rest))

  own : placed text (mark tokens.Name (length front + 1) (1 + length (name ++ 34 ∷ []))) ≡ record { at = length front + 1; name = name }
  own = name-placed front 10 name ((P.blanks ++ P.first ∷ (P.more ++ T)) ++ 59 ∷ rest) text here

  -- what stands before the kind, and before the inputs
  abbrev front_kind : List ℕ
  front_kind = front ++ (10 ∷ 34 ∷ (name ++ 34 ∷ []))

  abbrev at_kind : ℕ
  at_kind = length front + 1 + (1 + length (name ++ 34 ∷ []))

  long_kind : length front_kind ≡ at_kind
  long_kind = grown-long front (10 ∷ []) 34 (name ++ 34 ∷ [])

  from_kind : text ≡ front_kind ++ (P.blanks ++ P.first ∷ (P.more ++ (T ++ 59 ∷ rest)))
  from_kind = here ∙ sym (grown front (10 ∷ []) 34 (name ++ 34 ∷ []) ((P.blanks ++ P.first ∷ (P.more ++ T)) ++ 59 ∷ rest)) ∙ ap (λ t. front_kind ++ t) (split P.blanks P.first P.more T (59 ∷ rest))

  abbrev at_inputs : ℕ
  at_inputs = at_kind + length P.blanks + (1 + length P.more)

  read-inputs : names_of text (marks_at at_inputs (input_pieces ins)) ≡ Some (placed_at at_inputs ins)
  read-inputs = subst (λ n. names_of text (marks_at n (input_pieces ins)) ≡ Some (placed_at n ins)) (grown-long front_kind P.blanks P.first P.more ∙ ap (λ n. n + length P.blanks + (1 + length P.more)) long_kind)
      (names-again (front_kind ++ (P.blanks ++ P.first ∷ P.more)) ins (59 ∷ rest) text (from_kind ∙ sym (grown front_kind P.blanks P.first P.more (T ++ 59 ∷ rest))))

  counted : (k : ℕ) → kind ≡ kinds.AtLeast k → drop (at_kind + 1) text ≡ decimal k ++ 111 ∷ 102 ∷ (decimal (length ins) ++ (T ++ 59 ∷ rest))
  counted k e =
      let digits : text ≡ front_kind ++ (32 ∷ (decimal k ++ 111 ∷ 102 ∷ (decimal (length ins) ++ (T ++ 59 ∷ rest)))) =
      from_kind ∙ ap (λ g. front_kind ++ ((kind_piece g (length ins)).blanks ++ (kind_piece g (length ins)).first ∷ ((kind_piece g (length ins)).more ++ (T ++ 59 ∷ rest)))) e
      ∙ ap (λ t. front_kind ++ (32 ∷ t)) (counts-text k (length ins) (T ++ 59 ∷ rest) (subst (λ g. IsShort g (length ins)) e short).0) in
      ap (drop (at_kind + 1)) (digits ∙ sym (append_assoc front_kind (32 ∷ []) (decimal k ++ 111 ∷ 102 ∷ (decimal (length ins) ++ (T ++ 59 ∷ rest)))))
      ∙ drop_at (front_kind ++ 32 ∷ []) (decimal k ++ 111 ∷ 102 ∷ (decimal (length ins) ++ (T ++ 59 ∷ rest))) (at_kind + 1) (length-append front_kind (32 ∷ []) ∙ ap (λ n. n + 1) long_kind)

  one-blank : length P.blanks ≡ 1
  one-blank = ap length (kind-blanks kind (length ins))

  pub gate-said : statement_of text (marks_at (length front) (gate_pieces name kind ins)) ≡ Some (gate_at (length front) name kind ins)
  gate-said =
      gate-read text (record { at = length front + 1; name = name }) (mark tokens.Name (length front + 1) (1 + length (name ++ 34 ∷ []))) kind ins (at_kind + length P.blanks) at_inputs (1 + length P.more) (marks_at at_inputs (input_pieces ins)) own read-inputs some
      (λ k e.
      let numbers = subst (λ g. IsShort g (length ins)) e short in
      let there : drop (at_kind + length P.blanks) text ≡ decimal k ++ 111 ∷ 102 ∷ (decimal (length ins) ++ (T ++ 59 ∷ rest)) = ap (λ n. drop (at_kind + n) text) one-blank ∙ counted k e in
      let long : 1 + length P.more ≡ length (decimal k) + length (decimal (length ins)) + 2 = ap (λ g. 1 + length (kind_piece g (length ins)).more) e ∙ sym (counts-long k (length ins) numbers.0) in (
        least-read k (length ins) text (T ++ 59 ∷ rest) (at_kind + length P.blanks) (1 + length P.more) numbers.0 there,
        count-read k (length ins) text (T ++ 59 ∷ rest) (at_kind + length P.blanks) (1 + length P.more) numbers.1 there long,
      ))

-- ---- lines of events

abbrev pub rate_piece : RateKind → List ℕ → Piece
rate_piece Lambda text = record { blanks = 32 ∷ []; first = 108; more = 97 ∷ 109 ∷ 98 ∷ 100 ∷ 97 ∷ 61 ∷ text; token = tokens.Rate Lambda }
rate_piece Prob text = record { blanks = 32 ∷ []; first = 112; more = 114 ∷ 111 ∷ 98 ∷ 61 ∷ text; token = tokens.Rate Prob }

abbrev pub event_pieces : List ℕ → Rate → List Piece
event_pieces name rate = name_piece 10 name ∷ rate_piece rate.kind rate.text ∷ []

-- what the written line of an event behind a line feed says
abbrev pub event_at : ℕ → List ℕ → Rate → Statement
event_at at name rate = Event (record { at = at + 1; name = name }) rate

rate-text : (name : List ℕ) (kind : RateKind) (text rest : List ℕ) → 10 ∷ ((34 ∷ (name ++ 34 ∷ [])) ++ (32 ∷ (rate_word kind ++ (text ++ 59 ∷ 10 ∷ rest)))) ≡ pieces_text (name_piece 10 name ∷ rate_piece kind text ∷ []) ++ 59 ∷ 10 ∷ rest
rate-text name Lambda text rest =
    sym (split (10 ∷ []) 34 (name ++ 34 ∷ []) (32 ∷ 108 ∷ 97 ∷ 109 ∷ 98 ∷ 100 ∷ 97 ∷ 61 ∷ (text ++ [])) (59 ∷ 10 ∷ rest)
    ∙ ap (λ t. 10 ∷ 34 ∷ ((name ++ 34 ∷ []) ++ (32 ∷ 108 ∷ 97 ∷ 109 ∷ 98 ∷ 100 ∷ 97 ∷ 61 ∷ t))) (append_assoc text [] (59 ∷ 10 ∷ rest)))
rate-text name Prob text rest =
    sym (split (10 ∷ []) 34 (name ++ 34 ∷ []) (32 ∷ 112 ∷ 114 ∷ 111 ∷ 98 ∷ 61 ∷ (text ++ [])) (59 ∷ 10 ∷ rest)
    ∙ ap (λ t. 10 ∷ 34 ∷ ((name ++ 34 ∷ []) ++ (32 ∷ 112 ∷ 114 ∷ 111 ∷ 98 ∷ 61 ∷ t))) (append_assoc text [] (59 ∷ 10 ∷ rest)))

event-text : (name : List ℕ) (rate : Rate) (rest : List ℕ) → 10 ∷ (line_text (EventLine name rate) ++ rest) ≡ pieces_text (event_pieces name rate) ++ 59 ∷ 10 ∷ rest
event-text name rate rest =
    ap (λ t. 10 ∷ t) (append_assoc (34 ∷ (name ++ 34 ∷ [])) (32 ∷ (rate_word rate.kind ++ (rate.text ++ 59 ∷ 10 ∷ []))) rest)
    ∙ ap (λ t. 10 ∷ 34 ∷ ((name ++ 34 ∷ []) ++ 32 ∷ t)) (append_assoc (rate_word rate.kind) (rate.text ++ 59 ∷ 10 ∷ []) rest ∙ ap (λ t. rate_word rate.kind ++ t) (append_assoc rate.text (59 ∷ 10 ∷ []) rest))
    ∙ rate-text name rate.kind rate.text rest

rate-readable : (kind : RateKind) (text rest : List ℕ) → IsNumber text → Readable (rate_piece kind text ∷ []) (59 ∷ rest)
rate-readable Lambda text rest is =
    let long : 5 + length text + 2 ≡ 1 + length (97 ∷ 109 ∷ 98 ∷ 100 ∷ 97 ∷ 61 ∷ text) = omega arith in
    ((refl, tt), refl, lambda-again text rest is ∙ ap (λ n. Some (record { token = tokens.Rate Lambda; len = n })) long, refl, tt)
rate-readable Prob text rest is =
    let long : 3 + length text + 2 ≡ 1 + length (114 ∷ 111 ∷ 98 ∷ 61 ∷ text) = omega arith in
    ((refl, tt), refl, prob-again text rest is ∙ ap (λ n. Some (record { token = tokens.Rate Prob; len = n })) long, refl, tt)

event-readable : (name : List ℕ) (rate : Rate) (rest : List ℕ) → IsPlainName name → IsNumber rate.text → Readable (event_pieces name rate) (59 ∷ rest)
event-readable name rate rest plain is = ((refl, tt), refl, name-token name (pieces_text (rate_piece rate.kind rate.text ∷ []) ++ 59 ∷ rest) plain, refl, rate-readable rate.kind rate.text rest is)

-- the rate in a text
rate-part : (text : List ℕ) (at : ℕ) (kind : RateKind) (number rest : List ℕ) → drop at text ≡ (rate_piece kind number).first ∷ ((rate_piece kind number).more ++ rest) → part text at (word_len kind) (1 + length (rate_piece kind number).more - word_len kind) ≡ number
rate-part text at Lambda number rest there =
    let few : length number ≡ 1 + length (97 ∷ 109 ∷ 98 ∷ 100 ∷ 97 ∷ 61 ∷ number) - 7 = omega arith in
    ap (λ t. take (1 + length (97 ∷ 109 ∷ 98 ∷ 100 ∷ 97 ∷ 61 ∷ number) - 7) (drop 7 t)) there
    ∙ ap (take (1 + length (97 ∷ 109 ∷ 98 ∷ 100 ∷ 97 ∷ 61 ∷ number) - 7)) (drop_at (108 ∷ 97 ∷ 109 ∷ 98 ∷ 100 ∷ 97 ∷ 61 ∷ []) (number ++ rest) 7 refl)
    ∙ take_at number rest (1 + length (97 ∷ 109 ∷ 98 ∷ 100 ∷ 97 ∷ 61 ∷ number) - 7) few
rate-part text at Prob number rest there =
    let few : length number ≡ 1 + length (114 ∷ 111 ∷ 98 ∷ 61 ∷ number) - 5 = omega arith in
    ap (λ t. take (1 + length (114 ∷ 111 ∷ 98 ∷ 61 ∷ number) - 5) (drop 5 t)) there
    ∙ ap (take (1 + length (114 ∷ 111 ∷ 98 ∷ 61 ∷ number) - 5)) (drop_at (112 ∷ 114 ∷ 111 ∷ 98 ∷ 61 ∷ []) (number ++ rest) 5 refl)
    ∙ take_at number rest (1 + length (114 ∷ 111 ∷ 98 ∷ 61 ∷ number) - 5) few

event-read : (text : List ℕ) (name : PlacedName) (at len a b : ℕ) (kind : RateKind) (number : List ℕ) → placed text (mark tokens.Name a b) ≡ name → part text at (word_len kind) (len - word_len kind) ≡ number
    → statement_of text (mark tokens.Name a b ∷ mark (tokens.Rate kind) at len ∷ []) ≡ Some (Event name (record { kind = kind; text = number }))
unfolding statement_of
event-read text name at len a b kind number own e =
    ap (λ p. Some (Event p (record { kind = kind; text = part text at (word_len kind) (len - word_len kind) }))) own ∙ ap (λ n. Some (Event name (record { kind = kind; text = n }))) e

token-of : (kind : RateKind) (number : List ℕ) → (rate_piece kind number).token ≡ tokens.Rate kind
token-of Lambda number = refl
token-of Prob number = refl

blanks-of : (kind : RateKind) (number : List ℕ) → (rate_piece kind number).blanks ≡ 32 ∷ []
blanks-of Lambda number = refl
blanks-of Prob number = refl

pub event-said : (front name : List ℕ) (rate : Rate) (rest text : List ℕ) → text ≡ front ++ (pieces_text (event_pieces name rate) ++ 59 ∷ rest) → statement_of text (marks_at (length front) (event_pieces name rate)) ≡ Some (event_at (length front) name rate)
event-said front name rate rest text is =
    let P = rate_piece rate.kind rate.text in
    let here : text ≡ front ++ (10 ∷ 34 ∷ ((name ++ 34 ∷ []) ++ ((P.blanks ++ P.first ∷ (P.more ++ [])) ++ 59 ∷ rest)))
    = is ∙ ap (λ t. front ++ t) (split (10 ∷ []) 34 (name ++ 34 ∷ []) (P.blanks ++ P.first ∷ (P.more ++ [])) (59 ∷ rest)) in
    let own = name-placed front 10 name ((P.blanks ++ P.first ∷ (P.more ++ [])) ++ 59 ∷ rest) text here in
    let before = front ++ (10 ∷ 34 ∷ (name ++ 34 ∷ [])) in
    let from : text ≡ (front ++ (10 ∷ 34 ∷ (name ++ 34 ∷ []))) ++ (P.blanks ++ P.first ∷ (P.more ++ 59 ∷ rest))
    = here ∙ sym (grown front (10 ∷ []) 34 (name ++ 34 ∷ []) ((P.blanks ++ P.first ∷ (P.more ++ [])) ++ 59 ∷ rest)) ∙ ap (λ t. (front ++ (10 ∷ 34 ∷ (name ++ 34 ∷ []))) ++ t) (split P.blanks P.first P.more [] (59 ∷ rest)) in
    let long : length ((front ++ (10 ∷ 34 ∷ (name ++ 34 ∷ []))) ++ P.blanks) ≡ length front + 1 + (1 + length (name ++ 34 ∷ [])) + length P.blanks
    = length-append (front ++ (10 ∷ 34 ∷ (name ++ 34 ∷ []))) P.blanks ∙ ap (λ n. n + length P.blanks) (grown-long front (10 ∷ []) 34 (name ++ 34 ∷ [])) in
    let there : drop (length front + 1 + (1 + length (name ++ 34 ∷ [])) + length P.blanks) text ≡ P.first ∷ (P.more ++ 59 ∷ rest)
    = ap (drop (length front + 1 + (1 + length (name ++ 34 ∷ [])) + length P.blanks)) (from ∙ sym (append_assoc (front ++ (10 ∷ 34 ∷ (name ++ 34 ∷ []))) P.blanks (P.first ∷ (P.more ++ 59 ∷ rest))))
    ∙ drop_at ((front ++ (10 ∷ 34 ∷ (name ++ 34 ∷ []))) ++ P.blanks) (P.first ∷ (P.more ++ 59 ∷ rest)) (length front + 1 + (1 + length (name ++ 34 ∷ [])) + length P.blanks) long in
    ap (λ t. statement_of text (mark tokens.Name (length front + 1) (1 + length (name ++ 34 ∷ [])) ∷ mark t (length front + 1 + (1 + length (name ++ 34 ∷ [])) + length P.blanks) (1 + length P.more) ∷ [])) (token-of rate.kind rate.text)
    ∙ event-read text (record { at = length front + 1; name = name }) (length front + 1 + (1 + length (name ++ 34 ∷ [])) + length P.blanks) (1 + length P.more) (length front + 1) (1 + length (name ++ 34 ∷ [])) rate.kind rate.text own
    (rate-part text (length front + 1 + (1 + length (name ++ 34 ∷ [])) + length P.blanks) rate.kind rate.text (59 ∷ rest) there)

-- ---- lines

-- a line that reads as what it says
abbrev pub IsReadable : Line → Type 0
IsReadable (GateLine name kind ins) = IsPlainName name × IsShort kind (length ins) × AllByRecursion IsPlainName ins × (ins ≡ [] → ⊥)
IsReadable (EventLine name rate) = IsPlainName name × IsNumber rate.text

abbrev pub line_pieces : Line → List Piece
line_pieces (GateLine name kind ins) = gate_pieces name kind ins
line_pieces (EventLine name rate) = event_pieces name rate

-- what a written line behind a line feed says
abbrev pub said_at : ℕ → Line → Statement
said_at at (GateLine name kind ins) = gate_at at name kind ins
said_at at (EventLine name rate) = event_at at name rate

line-written : (line : Line) (rest : List ℕ) → IsReadable line → 10 ∷ (line_text line ++ rest) ≡ pieces_text (line_pieces line) ++ 59 ∷ 10 ∷ rest
line-written (GateLine name kind ins) rest is = gate-text name kind ins rest is.1
line-written (EventLine name rate) rest is = event-text name rate rest

line-readable : (line : Line) (rest : List ℕ) → IsReadable line → Readable (line_pieces line) (59 ∷ rest)
line-readable (GateLine name kind ins) rest is = gate-readable name kind ins rest is.0 is.1 is.2 is.3
line-readable (EventLine name rate) rest is = event-readable name rate rest is.0 is.1

line-said : (front : List ℕ) (line : Line) (rest text : List ℕ) → IsReadable line → text ≡ front ++ (pieces_text (line_pieces line) ++ 59 ∷ rest) → statement_of text (marks_at (length front) (line_pieces line)) ≡ Some (said_at (length front) line)
line-said front (GateLine name kind ins) rest text is e = gate-said front name kind ins rest text is.1 is.3 e
line-said front (EventLine name rate) rest text is e = event-said front name rate rest text e

-- the lines of a text behind a place, each behind a line feed
abbrev pub said_from : ℕ → List Line → List Statement
said_from at [] = []
said_from at (line ∷ lines) = said_at at line ∷ said_from (at + length (pieces_text (line_pieces line)) + 1) lines

pub lines-again : (front : List ℕ) (lines : List Line) → AllByRecursion IsReadable lines → AreLines false (front ++ 10 ∷ flat_map line_text lines) (length front) (said_from (length front) lines)
lines-again front [] all =
    ap (λ t. length front + blanks_len t) (drop_at front (10 ∷ []) (length front) refl) ∙ sym (length-append front (10 ∷ []))
lines-again front (line ∷ lines) all =
    let L = flat_map line_text lines in
    let P = line_pieces line in
    let text : front ++ 10 ∷ (line_text line ++ L) ≡ front ++ (pieces_text P ++ 59 ∷ 10 ∷ L) = ap (λ t. front ++ t) (line-written line L all.0) in
    let marks = line-again front P (10 ∷ L) (line-readable line (10 ∷ L) all.0) in
    let says = line-said front line (10 ∷ L) (front ++ (pieces_text P ++ 59 ∷ 10 ∷ L)) all.0 refl in
    let next = front ++ (pieces_text P ++ 59 ∷ []) in
    let rest_text : (front ++ (pieces_text P ++ 59 ∷ [])) ++ 10 ∷ L ≡ front ++ (pieces_text P ++ 59 ∷ 10 ∷ L) = append_assoc front (pieces_text P ++ 59 ∷ []) (10 ∷ L) ∙ ap (λ t. front ++ t) (append_assoc (pieces_text P) (59 ∷ []) (10 ∷ L)) in
    let inner : length (pieces_text P ++ 59 ∷ []) ≡ length (pieces_text P) + 1 = length-append (pieces_text P) (59 ∷ []) in
    let outer : length (front ++ (pieces_text P ++ 59 ∷ [])) ≡ length front + length (pieces_text P ++ 59 ∷ []) = length-append front (pieces_text P ++ 59 ∷ []) in
    let long : length (front ++ (pieces_text P ++ 59 ∷ [])) ≡ length front + length (pieces_text P) + 1 = omega (arith, inner, outer) in
    let more = lines-again (front ++ (pieces_text P ++ 59 ∷ [])) lines all.1 in
    let moved = subst (λ t. AreLines false t (length (front ++ (pieces_text P ++ 59 ∷ []))) (said_from (length (front ++ (pieces_text P ++ 59 ∷ []))) lines)) rest_text more in
    let placed_on = subst (λ n. AreLines false (front ++ (pieces_text P ++ 59 ∷ 10 ∷ L)) n (said_from n lines)) long moved in
    subst (λ t. AreLines false t (length front) (said_from (length front) (line ∷ lines))) (sym text)
    (length front + length (pieces_text P) + 1, record { marks = marks_at (length front) P; line = marks; says = says }, placed_on)

-- ---- the whole text

abbrev pub top_pieces : List ℕ → List Piece
top_pieces name = record { blanks = []; first = 116; more = 111 ∷ 112 ∷ 108 ∷ 101 ∷ 118 ∷ 101 ∷ 108 ∷ []; token = tokens.Toplevel } ∷ name_piece 32 name ∷ []

-- the statements of a written text
abbrev pub written_statements : List ℕ → List Line → List Statement
written_statements top lines = Top 0 (record { at = 9; name = top }) ∷ said_from (length (pieces_text (top_pieces top)) + 1) lines

top-read : (text : List ℕ) (name : PlacedName) (at len : ℕ) → placed text (mark tokens.Name at len) ≡ name → statement_of text (mark tokens.Toplevel 0 8 ∷ mark tokens.Name at len ∷ []) ≡ Some (Top 0 name)
unfolding statement_of
top-read text name at len own = ap (λ p. Some (Top 0 p)) own

pub text-again : (top : List ℕ) (lines : List Line) → IsPlainName top → AllByRecursion IsReadable lines → AreLines false (top_text top ++ flat_map line_text lines) 0 (written_statements top lines)
text-again top lines plain all =
    let L = flat_map line_text lines in
    let P = top_pieces top in
    let T = pieces_text P in
    let word : List ℕ = 116 ∷ 111 ∷ 112 ∷ 108 ∷ 101 ∷ 118 ∷ 101 ∷ 108 ∷ [] in
    let text : top_text top ++ L ≡ pieces_text P ++ 59 ∷ 10 ∷ L
    = ap (λ t. 116 ∷ 111 ∷ 112 ∷ 108 ∷ 101 ∷ 118 ∷ 101 ∷ 108 ∷ 32 ∷ 34 ∷ t)
    (append_assoc (top ++ 34 ∷ []) (59 ∷ 10 ∷ []) L ∙ sym (append_assoc (top ++ 34 ∷ []) [] (59 ∷ 10 ∷ L))) in
    let readable : Readable (top_pieces top) (59 ∷ 10 ∷ L)
    = (tt, refl, top-again ((32 ∷ 34 ∷ ((top ++ 34 ∷ []) ++ [])) ++ 59 ∷ 10 ∷ L), refl, ((refl, tt), refl, name-token top (59 ∷ 10 ∷ L) plain, refl, tt)) in
    let marks = subst (λ n. LineMarks false (pieces_text P ++ 59 ∷ 10 ∷ L) 0 (marks_at 0 P) (n + 1)) (plus (length (pieces_text P))) (line-again [] P (10 ∷ L) readable) in
    let own = name-placed (116 ∷ 111 ∷ 112 ∷ 108 ∷ 101 ∷ 118 ∷ 101 ∷ 108 ∷ []) 32 top (59 ∷ 10 ∷ L) (pieces_text P ++ 59 ∷ 10 ∷ L)
    (ap (λ t. 116 ∷ 111 ∷ 112 ∷ 108 ∷ 101 ∷ 118 ∷ 101 ∷ 108 ∷ 32 ∷ 34 ∷ t) (append_assoc (top ++ 34 ∷ []) [] (59 ∷ 10 ∷ L))) in
    let says = top-read (pieces_text P ++ 59 ∷ 10 ∷ L) (record { at = 9; name = top }) 9 (1 + length (top ++ 34 ∷ [])) own in
    let rest_text : (pieces_text P ++ 59 ∷ []) ++ 10 ∷ L ≡ pieces_text P ++ 59 ∷ 10 ∷ L = append_assoc (pieces_text P) (59 ∷ []) (10 ∷ L) in
    let more = lines-again (pieces_text P ++ 59 ∷ []) lines all in
    let moved = subst (λ t. AreLines false t (length (pieces_text P ++ 59 ∷ [])) (said_from (length (pieces_text P ++ 59 ∷ [])) lines)) rest_text more in
    let placed_on = subst (λ n. AreLines false (pieces_text P ++ 59 ∷ 10 ∷ L) n (said_from n lines)) (length-append (pieces_text P) (59 ∷ [])) moved in
    subst (λ t. AreLines false t 0 (written_statements top lines)) (sym text)
    (length (pieces_text P) + 1, record { marks = marks_at 0 P; line = marks; says = says }, placed_on)
  where
    plus : (n : ℕ) → 0 + n ≡ n
    plus n = omega arith
