-- What is seen of a box holds no line feed.
use Rattle.std.proofs.Common.{ℕ, ◌+◌, Bool, true, false, List, [], ◌∷◌, ◌++◌, codes, decimal, flat_map, Option, None, Some, refl}
use Rattle.std.specs.Bool.{if◌then◌else◌}
use Rattle.std.specs.Option.{option_map_or}
use Rattle.plain_values.specs.Name.{is_same_text}
use Rattle.round_gates.specs.declared.node.GateKind.{GateKind}
use Rattle.round_gates.specs.declared.node.GateKind.TheVariants.{And, Or, AtLeast}
use Rattle.dot_writer.specs.Shown.{shown}
use Rattle.dot_writer.specs.Words.{behind, happening, part_name, spoken, typed_words, until, verb_of, words_of}
use Rattle.dot_writer.specs.Picture.{Box, box_look, legend_line, number, symbol, symbol_row, transfer_sign, words_row}
use Rattle.dot_writer.proofs.Reading.{Lacks, lacks-both, lacks-decimal, lacks-shown, lacks-text}

typed-lacks : (text : List ℕ) → Lacks (typed_words text)
typed-lacks text = lacks-both (shown (until 123 text)) _ (lacks-shown (until 123 text)) (by (behind 123 text))
  where
    by : (rest : Option (List ℕ)) → Lacks (option_map_or (λ type. codes "<br/>" ++ shown (until 125 type)) rest [])
    by None = λ i. i
    by (Some type) = lacks-both (codes "<br/>") (shown (until 125 type)) (lacks-text (codes "<br/>") refl) (lacks-shown (until 125 type))

abbrev VerbLacks : Option (List ℕ) → Type 0
VerbLacks None = Unit {0}
VerbLacks (Some verb) = Lacks verb

verb-lacks : (word : List ℕ) → VerbLacks (verb_of word)
verb-lacks word = by (is_same_text word (codes "state")) (is_same_text word (codes "out")) (is_same_text word (codes "in")) (is_same_text word (codes "source"))
  where
    by : (a b c d : Bool) → VerbLacks (if a then Some (codes "is ") else if b then Some (codes "sends ") else if c then Some (codes "gets ") else if d then Some (codes "source ") else None)
    by true b c d = lacks-text (codes "is ") refl
    by false true c d = lacks-text (codes "sends ") refl
    by false false true d = lacks-text (codes "gets ") refl
    by false false false true = lacks-text (codes "source ") refl
    by false false false false = tt

spoken-lacks : (verb rest : Option (List ℕ)) (text : List ℕ) → VerbLacks verb → Lacks (spoken verb rest text)
spoken-lacks None rest text lacks = typed-lacks text
spoken-lacks (Some verb) None text lacks = typed-lacks text
spoken-lacks (Some verb) (Some rest) text lacks = lacks-both verb (typed_words rest) lacks (typed-lacks rest)

words-lacks : (name : List ℕ) → Lacks (words_of name)
words-lacks name = by (behind 47 name)
  where
    part : List ℕ
    part = shown (part_name (until 47 name))

    by : (rest : Option (List ℕ)) → Lacks (option_map_or (λ what. codes "<b>" ++ (part ++ (codes " </b><br/>" ++ happening (until 64 what)))) rest (shown name))
    by None = lacks-shown name
    by (Some what) =
        lacks-both (codes "<b>") _ (lacks-text (codes "<b>") refl)
        (lacks-both part _ (lacks-shown (part_name (until 47 name)))
        (lacks-both (codes " </b><br/>") _ (lacks-text (codes " </b><br/>") refl)
        (spoken-lacks (verb_of (until 58 (until 64 what))) (behind 58 (until 64 what)) (until 64 what) (verb-lacks (until 58 (until 64 what))))))

row-lacks : (words : Option (List ℕ)) → Lacks (words_row words)
row-lacks None = λ i. i
row-lacks (Some name) = lacks-both (codes "<tr><td>") _ (lacks-text (codes "<tr><td>") refl) (lacks-both (words_of name) _ (words-lacks name) (lacks-text (codes "</td></tr>") refl))

symbol-lacks : (kind : GateKind) → Lacks (symbol kind)
symbol-lacks And = lacks-text (codes "&amp;") refl
symbol-lacks Or = lacks-text (codes "&ge;1") refl
symbol-lacks (AtLeast k) = lacks-both (codes "&ge;") (decimal k) (lacks-text (codes "&ge;") refl) (lacks-decimal k)

sign-lacks : (shared : Bool) (position : ℕ) → Lacks (transfer_sign shared position)
sign-lacks false position = λ i. i
sign-lacks true position = lacks-both (codes " &#9651;T") (number position) (lacks-text (codes " &#9651;T") refl) (lacks-decimal (position + 1))

pub look-lacks : (position : ℕ) (box : Box) → Lacks (box_look position box)
look-lacks position box =
    lacks-both (codes ",label=<<table border=\"0\" cellborder=\"1\" cellspacing=\"0\" cellpadding=\"4\">") _ (lacks-text (codes ",label=<<table border=\"0\" cellborder=\"1\" cellspacing=\"0\" cellpadding=\"4\">") refl)
    (lacks-both (words_row box.words) _ (row-lacks box.words)
    (lacks-both (symbol_row position box) (codes "</table>>") row (lacks-text (codes "</table>>") refl)))
  where
    row : Lacks (symbol_row position box)
    row =
        lacks-both (codes "<tr><td bgcolor=\"#eeeeee\">") _ (lacks-text (codes "<tr><td bgcolor=\"#eeeeee\">") refl)
        (lacks-both (symbol box.kind) _ (symbol-lacks box.kind) (lacks-both (transfer_sign box.shared position) _ (sign-lacks box.shared position) (lacks-text (codes "</td></tr>") refl)))

pub legend-lacks : (legend : List (List ℕ)) → Lacks (flat_map legend_line legend)
legend-lacks [] = λ i. i
legend-lacks (line ∷ legend) =
    lacks-both (legend_line line) (flat_map legend_line legend)
    (lacks-both (shown line) (codes "<br align=\"left\"/>") (lacks-shown line) (lacks-text (codes "<br align=\"left\"/>") refl)) (legend-lacks legend)
