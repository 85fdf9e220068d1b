-- A picture of a static fault tree, and the DOT text that Graphviz draws: boxes with symbols, as IEC 61025 has them.
use Rattle.std.specs.Prelude.{ℕ, ◌+◌, Bool, true, false, if◌then◌else◌, List, [], ◌∷◌, ◌++◌, codes, decimal, unwrap_or, flat_map, Option, None, Some}
use Rattle.plain_values.specs.Name.{is_same_text}
use Rattle.property_reader.specs.declared.rate.Rate.{Rate}
use Rattle.property_reader.specs.declared.rate.RateKind.{RateKind}
use Rattle.property_reader.specs.declared.rate.RateKind.TheVariants.{Prob, Lambda}
use Rattle.property_reader.specs.Rates.{rate_word}
use Rattle.round_gates.specs.declared.node.GateKind.{GateKind}
use Rattle.round_gates.specs.declared.node.GateKind.TheVariants.{And, Or, AtLeast}
use Rattle.dot_writer.specs.Shown.{shown}
use Rattle.dot_writer.specs.Words.{behind, until, words_of}

-- what a box has below it: an event by its name and its rate, the box of a position, or a transfer to a box that is drawn
-- elsewhere, by its position and its name
pub data Arc : Type 0 where
  EventArc : List ℕ → Rate → Arc
  BoxArc : ℕ → Arc
  TransferArc : ℕ → List ℕ → Arc

-- the box of a gate: in a picture of several parts the box at the head of the one in which it stands, which the top and what is
-- drawn below it do not; its full name, the name of which its words are made, where it has words, its kind, whether transfers lead
-- to it, and what is below it
pub record Box : Type 0 where
  pub part : Option ℕ
  pub name : List ℕ
  pub words : Option (List ℕ)
  pub kind : GateKind
  pub shared : Bool
  pub arcs : List Arc

-- a picture: whether it is of several parts, the lines of its legend, and its boxes by position
pub record Picture : Type 0 where
  pub parted : Bool
  pub legend : List (List ℕ)
  pub boxes : List Box

-- ---- signs

-- what is at a position has the next number
abbrev pub number : ℕ → List ℕ
number position = decimal (position + 1)

-- the word of a gate's kind
abbrev pub kind_word : GateKind → List ℕ
kind_word And = codes "and"
kind_word Or = codes "or"
kind_word (AtLeast k) = codes "least " ++ decimal k

-- the symbol of a gate: all, one, or at least so many of its inputs
abbrev pub symbol : GateKind → List ℕ
symbol And = codes "&amp;"
symbol Or = codes "&ge;1"
symbol (AtLeast k) = codes "&ge;" ++ decimal k

-- the shape of an event: a house where something arrives from outside, and else a circle
abbrev pub shape : List ℕ → List ℕ
shape name = if is_same_text (until 58 (unwrap_or (behind 47 name) [])) (codes "in") then codes "house" else codes "circle"

-- a rate as it is told: its word and its number
abbrev pub rate_told : Rate → List ℕ
rate_told rate = rate_word rate.kind ++ shown rate.text

-- whether a rate is only the mark of an event that has none: the probability 1
abbrev pub is_mark : RateKind → List ℕ → Bool
is_mark Prob text = is_same_text text (codes "1")
is_mark Lambda text = false

-- the sign of a rate's kind
abbrev pub rate_sign : RateKind → List ℕ
rate_sign Prob = codes "p="
rate_sign Lambda = codes "&lambda;="

-- the words of a rate
abbrev pub rate_words : Rate → List ℕ
rate_words rate = if is_mark rate.kind rate.text then codes "no rate" else rate_sign rate.kind ++ shown rate.text

-- ---- boxes

-- the full name of a node, which is shown where the pointer rests
abbrev pub tooltip : List ℕ → List ℕ
tooltip name = codes " [tooltip=\"" ++ (shown name ++ codes "\"")

-- the kind of a gate as it is told
abbrev pub kind_told : GateKind → List ℕ
kind_told kind = codes ",kind=\"" ++ (kind_word kind ++ codes "\"")

-- the row of a box that has its words
abbrev pub words_row : Option (List ℕ) → List ℕ
words_row None = []
words_row (Some name) = codes "<tr><td>" ++ (words_of name ++ codes "</td></tr>")

-- the sign of a transfer, beside the symbol of the box to which it leads
abbrev pub transfer_sign : Bool → ℕ → List ℕ
transfer_sign false position = []
transfer_sign true position = codes " &#9651;T" ++ number position

-- the row of a box that has its symbol
abbrev pub symbol_row : ℕ → Box → List ℕ
symbol_row position box = codes "<tr><td bgcolor=\"#eeeeee\">" ++ (symbol box.kind ++ (transfer_sign box.shared position ++ codes "</td></tr>"))

-- what is seen of a box: its words, and below them its symbol
abbrev pub box_look : ℕ → Box → List ℕ
box_look position box =
    codes ",label=<<table border=\"0\" cellborder=\"1\" cellspacing=\"0\" cellpadding=\"4\">" ++ (words_row box.words ++ (symbol_row position box ++ codes "</table>>"))

-- the line of a box: its node, its full name, its kind, and what is seen of it
abbrev pub box_line : ℕ → Box → List ℕ
box_line position box = codes "g" ++ (number position ++ (tooltip box.name ++ (kind_told box.kind ++ (box_look position box ++ codes "];\n"))))

-- ---- parts

-- the line before a box that stands in a part: the part is the cluster with the number of the box at its head; all that stand
-- between the braces of one cluster are drawn together, in a frame
abbrev pub part_line : Option ℕ → List ℕ
part_line None = []
part_line (Some head) = codes "subgraph cluster_" ++ (number head ++ codes " {label=\"\";color=gray;\n")

-- the line behind it and what is below it
abbrev pub part_end : Option ℕ → List ℕ
part_end None = []
part_end (Some head) = codes "}\n"

-- the line of a box, and what stands before it
abbrev pub box_start : ℕ → Box → List ℕ
box_start position box = part_line box.part ++ box_line position box

-- ---- what is below a box

-- the node of what is below a box: a letter, and the numbers of the box and of the place below it
abbrev pub leaf : ℕ → ℕ → ℕ → List ℕ
leaf letter position place = letter ∷ number position ++ (codes "_" ++ number place)

-- what the line of an event or of a transfer begins with: its node and a full name
abbrev pub leaf_head : ℕ → ℕ → ℕ → List ℕ → List ℕ
leaf_head letter position place name = codes "\t" ++ (leaf letter position place ++ tooltip name)

-- what it ends with: the edge that leads to it
abbrev pub leaf_edge : ℕ → ℕ → ℕ → List ℕ
leaf_edge letter position place = codes "]; g" ++ (number position ++ (codes " -> " ++ (leaf letter position place ++ codes ";\n")))

-- the rate of an event, and its shape
abbrev pub event_form : List ℕ → Rate → List ℕ
event_form name rate = codes ",rate=\"" ++ (rate_told rate ++ (codes "\",shape=" ++ shape name))

-- what is seen of an event: its words, and its rate
abbrev pub event_look : List ℕ → Rate → List ℕ
event_look name rate = codes ",label=<" ++ (words_of name ++ (codes "<br/><font point-size=\"8\">" ++ (rate_words rate ++ codes "</font>>")))

-- what is seen of a transfer: a triangle with the number of the box to which it leads
abbrev pub transfer_look : ℕ → List ℕ
transfer_look position = codes ",shape=triangle,height=0.45,width=0.6,fixedsize=true,fontsize=9,label=\"T" ++ (number position ++ codes "\"")

-- the line of an event, `e` and its numbers
abbrev pub event_line : ℕ → ℕ → List ℕ → Rate → List ℕ
event_line position place name rate = leaf_head 101 position place name ++ (event_form name rate ++ (event_look name rate ++ leaf_edge 101 position place))

-- the line of a transfer, `t` and its numbers
abbrev pub transfer_line : ℕ → ℕ → ℕ → List ℕ → List ℕ
transfer_line position place to name = leaf_head 116 position place name ++ (transfer_look to ++ leaf_edge 116 position place)

-- the edge to a box
abbrev pub edge_line : ℕ → ℕ → List ℕ
edge_line position to = codes "\tg" ++ (number position ++ (codes " -> g" ++ (number to ++ codes ";\n")))

-- the line of what is at a place below the box of a position
abbrev pub arc_line : ℕ → ℕ → Arc → List ℕ
arc_line position place (EventArc name rate) = event_line position place name rate
arc_line position place (TransferArc to name) = transfer_line position place to name
arc_line position place (BoxArc to) = edge_line position to

-- the lines of what is below a box, from a place on
abbrev pub arc_lines : ℕ → ℕ → List Arc → List ℕ
arc_lines position place [] = []
arc_lines position place (arc ∷ arcs) = arc_line position place arc ++ arc_lines position (place + 1) arcs

-- ---- the text

-- boxes, from a position on, each with what is below it
abbrev pub boxes_text : ℕ → List Box → List ℕ
boxes_text position [] = []
boxes_text position (box ∷ boxes) = box_start position box ++ (arc_lines position 0 box.arcs ++ (part_end box.part ++ boxes_text (position + 1) boxes))

-- a line of the legend
abbrev pub legend_line : List ℕ → List ℕ
legend_line line = shown line ++ codes "<br align=\"left\"/>"

-- how all is drawn
abbrev pub style_text : List ℕ
style_text =
    codes "digraph tree {\ngraph [splines=polyline,nodesep=0.25,ranksep=0.35,fontname=\"Helvetica\",fontsize=9,labelloc=b,labeljust=l];\n"
    ++ codes "node [fontname=\"Helvetica\",fontsize=10,margin=\"0.02\",shape=plain];\nedge [arrowhead=none,tailport=s,headport=n];\n"

-- the parts of a picture are put together as they fit
abbrev pub pack_text : Bool → List ℕ
pack_text false = []
pack_text true = codes "packmode=\"graph\";\n"

-- how all is drawn, in one part or in several
abbrev pub drawn_text : Bool → List ℕ
drawn_text parted = style_text ++ pack_text parted

-- what the symbols mean
abbrev pub symbols_text : List ℕ
symbols_text = codes "label=<&amp;: all inputs, &ge;n: at least n inputs; circle: event, house: from outside; triangle T: goes on at the box with &#9651;T<br align=\"left\"/>"

-- the lines before the boxes: how all is drawn, and the legend, which begins with what the symbols mean
abbrev pub head_text : Bool → List (List ℕ) → List ℕ
head_text parted legend = drawn_text parted ++ (symbols_text ++ (flat_map legend_line legend ++ codes ">;\n"))

-- The DOT text of a picture.
abbrev pub picture_text : Picture → List ℕ
picture_text picture = head_text picture.parted picture.legend ++ (boxes_text 0 picture.boxes ++ codes "}\n")
