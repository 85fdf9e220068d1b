-- Pictures of small trees, worked.
use Rattle.std.proofs.Common.{ℕ, ◌≡◌, List, [], ◌∷◌, ◌++◌, codes, map, Some, false, refl}
use Rattle.std.specs.Fmt.{digits}
use Rattle.fault_system.specs.Systems.{System}
use Rattle.fault_system.specs.declared.formula.Formula.TheVariants.{True}
use Rattle.property_reader.specs.Rates.{conservative_rate}
use Rattle.property_reader.specs.declared.rate.Rate.{Rate}
use Rattle.property_reader.specs.declared.rate.RateKind.TheVariants.{Lambda, Prob}
use Rattle.round_gates.specs.declared.node.GateKind.{GateKind}
use Rattle.round_gates.specs.declared.node.GateKind.TheVariants.{And, Or, AtLeast}
use Rattle.round_gates.specs.declared.tree.Gate.{Gate}
use Rattle.round_gates.specs.declared.tree.Input.{Input}
use Rattle.round_gates.specs.declared.tree.Input.TheVariants as inputs
use Rattle.round_gates.specs.declared.tree.Tree.{Tree}
use Rattle.dot_writer.specs.Shown.{shown}
use Rattle.dot_writer.specs.Words.{words_of}
use Rattle.dot_writer.specs.declared.usages.Usage.TheVariants.{Unused, Once, Shared}
use Rattle.dot_writer.specs.Picture.{BoxArc, TransferArc, Box, boxes_text}
use Rattle.dot_writer.specs.TreePicture.{boxes_of, head, heads_of, sheet_of}

-- ---- words

state_words : words_of (codes "root.b.c/state:s") ≡ codes "<b>b.c </b><br/>is s"
state_words = refl

typed_state_words : words_of (codes "root/state:s{p::t}") ≡ codes "<b>system </b><br/>is s<br/>p::t"
typed_state_words = refl

out_words : words_of (codes "root.a/out:port{lib::type}@1.3") ≡ codes "<b>a </b><br/>sends port<br/>lib::type"
out_words = refl

in_words : words_of (codes "root/in:p{p::q::t}") ≡ codes "<b>system </b><br/>gets p<br/>p::q::t"
in_words = refl

source_words : words_of (codes "root.rooted/source:f") ≡ codes "<b>rooted </b><br/>source f"
source_words = refl

-- an event of the name of a verb is an event
event_words : words_of (codes "root.a/state") ≡ codes "<b>a </b><br/>state"
event_words = refl

-- a name of another form stands as it is
other_words : words_of (codes "pump fails @ 3") ≡ codes "pump fails @ 3"
other_words = refl

other_part : words_of (codes "plant.root/x:y") ≡ codes "<b>plant.root </b><br/>x:y"
other_part = refl

signs : shown (codes "a\"<b>&%\\") ≡ codes "a%22%3cb%3e%26%25%5c"
signs = refl

bytes : shown (0 ∷ 9 ∷ 127 ∷ 195 ∷ 255 ∷ []) ≡ codes "%00%09%7f%c3%ff"
bytes = refl

-- ---- boxes

-- facts and events of these names; a picture does not look at formulas
abbrev machine : System
machine =
    record {
      facts = map (λ name. record { name = name; owner = 0; formula = True }) (codes "root.a/out:p{l::t}" ∷ codes "root.b/state:s" ∷ codes "root/state:bad" ∷ []);
      events = map (λ name. record { name = name; owner = 0; key = [] }) (codes "root.a/e" ∷ codes "root/in:q{l::t}" ∷ codes "root.b/source:f" ∷ []);
    }

abbrev gate : ℕ → ℕ → GateKind → List Input → Gate
gate fact place kind ins = record { fact = fact; stage = 1; place = place; kind = kind; inputs = ins }

-- a gate that two use, an inner place, an event from outside, and rates of each form
abbrev tree : Tree
tree =
    record {
      top = 2;
      gates =
          gate 0 0 Or (inputs.Event 0 ∷ inputs.Event 1 ∷ [])
          ∷ gate 1 0 Or (inputs.Event 2 ∷ inputs.Gate 0 ∷ [])
          ∷ gate 2 0 And (inputs.Gate 0 ∷ inputs.Gate 3 ∷ [])
          ∷ gate 2 2 (AtLeast 2) (inputs.Gate 1 ∷ inputs.Event 0 ∷ inputs.Event 1 ∷ [])
          ∷ [];
      events = 0 ∷ 1 ∷ 2 ∷ [];
    }

abbrev rates : List Rate
rates = record { kind = Lambda; text = codes "1.0e-5" } ∷ conservative_rate ∷ record { kind = Prob; text = codes "0.5" } ∷ []

tree_boxes : boxes_text 0 (boxes_of (sheet_of machine tree rates (record { target = codes "root/out:o{l::u}"; legend = [] })) 0 tree.gates) ≡
    codes "g1 [tooltip=\"root.a/out:p{l::t}@1.0\",kind=\"or\",label=<<table border=\"0\" cellborder=\"1\" cellspacing=\"0\" cellpadding=\"4\"><tr><td><b>a </b><br/>sends p<br/>l::t</td></tr><tr><td bgcolor=\"#eeeeee\">&ge;1 &#9651;T1</td></tr></table>>];\n"
    ++ (codes "\te1_1 [tooltip=\"root.a/e\",rate=\"lambda=1.0e-5\",shape=circle,label=<<b>a </b><br/>e<br/><font point-size=\"8\">&lambda;=1.0e-5</font>>]; g1 -> e1_1;\n"
    ++ (codes "\te1_2 [tooltip=\"root/in:q{l::t}\",rate=\"prob=1\",shape=house,label=<<b>system </b><br/>gets q<br/>l::t<br/><font point-size=\"8\">no rate</font>>]; g1 -> e1_2;\n"
    ++ (codes "g2 [tooltip=\"root.b/state:s@1.0\",kind=\"or\",label=<<table border=\"0\" cellborder=\"1\" cellspacing=\"0\" cellpadding=\"4\"><tr><td><b>b </b><br/>is s</td></tr><tr><td bgcolor=\"#eeeeee\">&ge;1</td></tr></table>>];\n"
    ++ (codes "\te2_1 [tooltip=\"root.b/source:f\",rate=\"prob=0.5\",shape=circle,label=<<b>b </b><br/>source f<br/><font point-size=\"8\">p=0.5</font>>]; g2 -> e2_1;\n"
    ++ (codes "\tg2 -> g1;\n"
    ++ (codes "g3 [tooltip=\"root/state:bad@1.0\",kind=\"and\",label=<<table border=\"0\" cellborder=\"1\" cellspacing=\"0\" cellpadding=\"4\"><tr><td><b>system </b><br/>sends o<br/>l::u</td></tr><tr><td bgcolor=\"#eeeeee\">&amp;</td></tr></table>>];\n"
    ++ (codes "\tt3_1 [tooltip=\"root.a/out:p{l::t}@1.0\",shape=triangle,height=0.45,width=0.6,fixedsize=true,fontsize=9,label=\"T1\"]; g3 -> t3_1;\n"
    ++ (codes "\tg3 -> g4;\n"
    ++ (codes "g4 [tooltip=\"root/state:bad@1.2\",kind=\"least 2\",label=<<table border=\"0\" cellborder=\"1\" cellspacing=\"0\" cellpadding=\"4\"><tr><td bgcolor=\"#eeeeee\">&ge;2</td></tr></table>>];\n"
    ++ (codes "\tg4 -> g2;\n"
    ++ (codes "\te4_2 [tooltip=\"root.a/e\",rate=\"lambda=1.0e-5\",shape=circle,label=<<b>a </b><br/>e<br/><font point-size=\"8\">&lambda;=1.0e-5</font>>]; g4 -> e4_2;\n"
    ++ codes "\te4_3 [tooltip=\"root/in:q{l::t}\",rate=\"prob=1\",shape=house,label=<<b>system </b><br/>gets q<br/>l::t<br/><font point-size=\"8\">no rate</font>>]; g4 -> e4_3;\n")))))))))))
unfolding digits
tree_boxes = refl

-- ---- parts

-- the top, a gate below it, one that several use, and two below that
heads : heads_of (Unused ∷ Once 0 ∷ Shared 0 ∷ Once 2 ∷ Once 3 ∷ []) ≡ 0 ∷ 0 ∷ 2 ∷ 2 ∷ 2 ∷ []
unfolding head
heads = refl

abbrev part_box : Box
part_box = record { part = Some 1; name = codes "G@1.0"; words = Some (codes "G"); kind = Or; shared = false; arcs = TransferArc 4 (codes "H@1.0") ∷ BoxArc 2 ∷ [] }

part_text : boxes_text 3 (part_box ∷ []) ≡
    codes "subgraph cluster_2 {label=\"\";color=gray;\n"
    ++ (codes "g4 [tooltip=\"G@1.0\",kind=\"or\",label=<<table border=\"0\" cellborder=\"1\" cellspacing=\"0\" cellpadding=\"4\"><tr><td>G</td></tr><tr><td bgcolor=\"#eeeeee\">&ge;1</td></tr></table>>];\n"
    ++ (codes "\tt4_1 [tooltip=\"H@1.0\",shape=triangle,height=0.45,width=0.6,fixedsize=true,fontsize=9,label=\"T5\"]; g4 -> t4_1;\n"
    ++ (codes "\tg4 -> g3;\n"
    ++ codes "}\n")))
unfolding digits
part_text = refl
