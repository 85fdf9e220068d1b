-- A text tells of one tree at most.
use Rattle.std.proofs.Common.{ℕ, zero, suc, ◌+◌, ◌≡◌, ◌<◌, ◌^◌, Bool, true, false, List, [], ◌∷◌, ◌++◌, codes, decimal, flat_map, map, get_or, None, Some, ap, ◌∙◌, sym, refl, arith, append_assoc, Option}
use Rattle.std.specs.Bool.{if◌then◌else◌}
use Rattle.std.specs.List.{AllByRecursion}
use Rattle.std.proofs.lemmas.List.{append_cancel_left}
use Rattle.fault_system.specs.Systems.{System}
use Rattle.property_reader.specs.declared.rate.Rate.{Rate}
use Rattle.property_reader.specs.declared.rate.RateKind.{RateKind}
use Rattle.property_reader.specs.declared.rate.RateKind.TheVariants.{Prob, Lambda}
use Rattle.property_reader.specs.Rates.{rate_word}
use Rattle.round_gates.specs.declared.node.GateKind.{GateKind}
use Rattle.round_gates.specs.declared.node.GateKind.TheVariants.{And, Or, AtLeast}
use Rattle.round_gates.specs.declared.tree.Gate.{Gate}
use Rattle.round_gates.specs.declared.tree.Input.{Input}
use Rattle.round_gates.specs.declared.tree.Input.TheVariants as inputs
use Rattle.round_gates.specs.declared.tree.Tree.{Tree}
use Rattle.galileo_writer.specs.Galileo.{IsKind}
use Rattle.galileo_writer.specs.TreeText.{gate_name, name_at}
use Rattle.galileo_writer.proofs.Bytes.{cut-first}
use Rattle.dot_writer.specs.declared.sheet.Sheet.{Sheet}
use Rattle.dot_writer.specs.declared.sheet.Title.{Title}
use Rattle.dot_writer.specs.Shown.{shown}
use Rattle.dot_writer.specs.Picture.{Arc, EventArc, BoxArc, TransferArc, Box, arc_line, arc_lines, box_line, box_look, box_start, boxes_text, edge_line, event_form, event_line, event_look, drawn_text, head_text, kind_told, kind_word, leaf, leaf_edge, leaf_head, legend_line, number, pack_text, part_end, part_line, rate_told, shape, style_text, symbols_text, transfer_line, transfer_look}
use Rattle.dot_writer.specs.TreePicture.{arc_of, boxes_of, dot_text, is_below, is_parted, sheet_of, usage_at}
use Rattle.dot_writer.specs.inner.ReadBack.{IsByte, IsPlainInput, IsPlainGate, IsShortInput, IsTellable, ToldInput, told_gate, told_input, tree_told}
use Rattle.dot_writer.proofs.Labels.{legend-lacks, look-lacks}
use Rattle.dot_writer.proofs.Reading.{Lacks, apart, lacks-both, lacks-decimal, lacks-text, no-digit, quote-no-digit, read-decimal, read-shown, rest-same}

-- ---- what is below a box

-- what may be below a box: texts of bytes, and numbers of 32 bits
abbrev IsPlainArc : Arc → Type 0
IsPlainArc (EventArc name rate) = AllByRecursion IsByte name × AllByRecursion IsByte rate.text
IsPlainArc (BoxArc to) = to < 2 ^ 32
IsPlainArc (TransferArc to name) = (to < 2 ^ 32) × AllByRecursion IsByte name

-- what the name of a leaf stands behind
abbrev front : ℕ → ℕ → ℕ → List ℕ
front letter n p = leaf letter n p ++ codes " [tooltip=\""

head-open : (letter n p : ℕ) (name t : List ℕ) → leaf_head letter n p name ++ t ≡ 9 ∷ (front letter n p ++ (shown name ++ 34 ∷ t))
head-open letter n p name t =
    ap (λ u. 9 ∷ u)
    (append_assoc (leaf letter n p) (codes " [tooltip=\"" ++ (shown name ++ 34 ∷ [])) t
    ∙ ap (λ u. leaf letter n p ++ u) (append_assoc (codes " [tooltip=\"") (shown name ++ 34 ∷ []) t ∙ ap (λ u. codes " [tooltip=\"" ++ u) (append_assoc (shown name) (34 ∷ []) t))
    ∙ sym (append_assoc (leaf letter n p) (codes " [tooltip=\"") (shown name ++ 34 ∷ t)))

-- the name of a leaf, and what is left behind it
read-head : (letter n p : ℕ) (name other t u : List ℕ) → AllByRecursion IsByte name → AllByRecursion IsByte other → leaf_head letter n p name ++ t ≡ leaf_head letter n p other ++ u → (name ≡ other) × (t ≡ u)
read-head letter n p name other t u f g e =
    let parts = sym (head-open letter n p name t) ∙ e ∙ head-open letter n p other u in
    read-shown name other t u f g (append_cancel_left (front letter n p) _ _ (rest-same 9 9 _ _ parts))

form-open : (name : List ℕ) (rate : Rate) (t : List ℕ) → event_form name rate ++ t ≡ codes ",rate=\"" ++ (rate_word rate.kind ++ (shown rate.text ++ 34 ∷ ((codes ",shape=" ++ shape name) ++ t)))
form-open name rate t =
    append_assoc (codes ",rate=\"") (rate_told rate ++ (codes "\",shape=" ++ shape name)) t
    ∙ ap (λ u. codes ",rate=\"" ++ u) (append_assoc (rate_told rate) (codes "\",shape=" ++ shape name) t ∙ append_assoc (rate_word rate.kind) (shown rate.text) ((codes "\",shape=" ++ shape name) ++ t))

read-rate : (a b : Rate) (t u : List ℕ) → AllByRecursion IsByte a.text → AllByRecursion IsByte b.text → rate_word a.kind ++ (shown a.text ++ 34 ∷ t) ≡ rate_word b.kind ++ (shown b.text ++ 34 ∷ u) → a ≡ b
read-rate a b t u f g e = by a.kind b.kind refl refl e
  where
    cut : shown a.text ++ 34 ∷ t ≡ shown b.text ++ 34 ∷ u → a.kind ≡ b.kind → a ≡ b
    cut tail kinds = let both = read-shown a.text b.text t u f g tail in (λ i. record { kind = kinds i; text = both.0 i })

    by : (x y : RateKind) → a.kind ≡ x → b.kind ≡ y → rate_word x ++ (shown a.text ++ 34 ∷ t) ≡ rate_word y ++ (shown b.text ++ 34 ∷ u) → a ≡ b
    by Prob Prob p q h = cut (append_cancel_left (codes "prob=") _ _ h) (p ∙ sym q)
    by Prob Lambda p q h = absurd (apart 112 108 _ _ (λ k. omega arith) h)
    by Lambda Prob p q h = absurd (apart 108 112 _ _ (λ k. omega arith) h)
    by Lambda Lambda p q h = cut (append_cancel_left (codes "lambda=") _ _ h) (p ∙ sym q)

read-event : (n p : ℕ) (name other : List ℕ) (a b : Rate) (r s : List ℕ) → IsPlainArc (EventArc name a) → IsPlainArc (EventArc other b) → event_line n p name a ++ r ≡ event_line n p other b ++ s → (name ≡ other) × (a ≡ b)
read-event n p name other a b r s f g e =
    let look : List ℕ → Rate → List ℕ = λ m rate. event_look m rate ++ leaf_edge 101 n p in
    let parts : leaf_head 101 n p name ++ ((event_form name a ++ look name a) ++ r) ≡ leaf_head 101 n p other ++ ((event_form other b ++ look other b) ++ s)
    = sym (append_assoc (leaf_head 101 n p name) (event_form name a ++ look name a) r) ∙ e ∙ append_assoc (leaf_head 101 n p other) (event_form other b ++ look other b) s in
    let head = read-head 101 n p name other _ _ f.0 g.0 parts in
    let form : event_form name a ++ (look name a ++ r) ≡ event_form other b ++ (look other b ++ s)
    = sym (append_assoc (event_form name a) (look name a) r) ∙ head.1 ∙ append_assoc (event_form other b) (look other b) s in
    let rates = sym (form-open name a (look name a ++ r)) ∙ form ∙ form-open other b (look other b ++ s) in
    (head.0, read-rate a b _ _ f.1 g.1 (append_cancel_left (codes ",rate=\"") _ _ rates))

read-transfer : (n p to from : ℕ) (name other r s : List ℕ) → IsPlainArc (TransferArc to name) → IsPlainArc (TransferArc from other) → transfer_line n p to name ++ r ≡ transfer_line n p from other ++ s → (to ≡ from) × (name ≡ other)
read-transfer n p to from name other r s f g e =
    let sign = codes ",shape=triangle,height=0.45,width=0.6,fixedsize=true,fontsize=9,label=\"T" in
    let edge = leaf_edge 116 n p in
    let parts : leaf_head 116 n p name ++ ((transfer_look to ++ edge) ++ r) ≡ leaf_head 116 n p other ++ ((transfer_look from ++ edge) ++ s)
    = sym (append_assoc (leaf_head 116 n p name) (transfer_look to ++ edge) r) ∙ e ∙ append_assoc (leaf_head 116 n p other) (transfer_look from ++ edge) s in
    let head = read-head 116 n p name other _ _ f.1 g.1 parts in
    let look = sym (look-open sign edge to r) ∙ head.1 ∙ look-open sign edge from s in
    let numbers = read-decimal (to + 1) (from + 1) 34 _ _ (omega (arith, f.0)) (omega (arith, g.0)) quote-no-digit (append_cancel_left sign _ _ look) in
    (omega (arith, numbers.0), head.0)
  where
    look-open : (sign edge : List ℕ) (k : ℕ) (t : List ℕ) → ((sign ++ (number k ++ 34 ∷ [])) ++ edge) ++ t ≡ sign ++ (number k ++ 34 ∷ (edge ++ t))
    look-open sign edge k t =
        append_assoc (sign ++ (number k ++ 34 ∷ [])) edge t
        ∙ append_assoc sign (number k ++ 34 ∷ []) (edge ++ t) ∙ ap (λ u. sign ++ u) (append_assoc (number k) (34 ∷ []) (edge ++ t))

read-edge : (n to from : ℕ) (r s : List ℕ) → to < 2 ^ 32 → from < 2 ^ 32 → edge_line n to ++ r ≡ edge_line n from ++ s → to ≡ from
read-edge n to from r s f g e =
    let parts = sym (edge-open to r) ∙ e ∙ edge-open from s in
    let inner = append_cancel_left (codes " -> g") _ _ (append_cancel_left (number n) _ _ (append_cancel_left (codes "\tg") _ _ parts)) in
    let numbers = read-decimal (to + 1) (from + 1) 59 _ _ (omega (arith, f)) (omega (arith, g)) (no-digit 59 (omega arith)) inner in
    omega (arith, numbers.0)
  where
    edge-open : (k : ℕ) (t : List ℕ) → edge_line n k ++ t ≡ codes "\tg" ++ (number n ++ (codes " -> g" ++ (number k ++ 59 ∷ 10 ∷ t)))
    edge-open k t =
        append_assoc (codes "\tg") (number n ++ (codes " -> g" ++ (number k ++ codes ";\n"))) t
        ∙ ap (λ u. codes "\tg" ++ u) (append_assoc (number n) (codes " -> g" ++ (number k ++ codes ";\n")) t
        ∙ ap (λ u. number n ++ u) (append_assoc (codes " -> g") (number k ++ codes ";\n") t ∙ ap (λ u. codes " -> g" ++ u) (append_assoc (number k) (codes ";\n") t)))

second-apart : (a b : ℕ) (t u : List ℕ) → (a ≡ b → ⊥) → 9 ∷ a ∷ t ≡ 9 ∷ b ∷ u → ⊥
second-apart a b t u differ e = apart a b t u differ (rest-same 9 9 _ _ e)

read-arc : (n p : ℕ) (x y : Arc) (r s : List ℕ) → IsPlainArc x → IsPlainArc y → arc_line n p x ++ r ≡ arc_line n p y ++ s → x ≡ y
read-arc n p (EventArc name a) (EventArc other b) r s f g e = let both = read-event n p name other a b r s f g e in (λ i. EventArc (both.0 i) (both.1 i))
read-arc n p (EventArc name a) (BoxArc from) r s f g e = absurd (second-apart 101 103 _ _ (λ h. omega arith) e)
read-arc n p (EventArc name a) (TransferArc from other) r s f g e = absurd (second-apart 101 116 _ _ (λ h. omega arith) e)
read-arc n p (BoxArc to) (EventArc other b) r s f g e = absurd (second-apart 103 101 _ _ (λ h. omega arith) e)
read-arc n p (BoxArc to) (BoxArc from) r s f g e = ap BoxArc (read-edge n to from r s f g e)
read-arc n p (BoxArc to) (TransferArc from other) r s f g e = absurd (second-apart 103 116 _ _ (λ h. omega arith) e)
read-arc n p (TransferArc to name) (EventArc other b) r s f g e = absurd (second-apart 116 101 _ _ (λ h. omega arith) e)
read-arc n p (TransferArc to name) (BoxArc from) r s f g e = absurd (second-apart 116 103 _ _ (λ h. omega arith) e)
read-arc n p (TransferArc to name) (TransferArc from other) r s f g e = let both = read-transfer n p to from name other r s f g e in (λ i. TransferArc (both.0 i) (both.1 i))

-- no line of what is below a box comes
abbrev NoArc : List ℕ → Type 0
NoArc text = (t : List ℕ) → text ≡ 9 ∷ t → ⊥

arc-first : (n p : ℕ) (x : Arc) (t r : List ℕ) → r ≡ arc_line n p x ++ t → NoArc r → ⊥
arc-first n p (EventArc name a) t r e none = none _ e
arc-first n p (BoxArc to) t r e none = none _ e
arc-first n p (TransferArc to name) t r e none = none _ e

read-arcs : (n p : ℕ) (xs ys : List Arc) (r s : List ℕ) → AllByRecursion IsPlainArc xs → AllByRecursion IsPlainArc ys → NoArc r → NoArc s → arc_lines n p xs ++ r ≡ arc_lines n p ys ++ s → (xs ≡ ys) × (r ≡ s)
read-arcs n p [] [] r s f g h k e = (refl, e)
read-arcs n p [] (y ∷ ys) r s f g h k e = absurd (arc-first n p y (arc_lines n (p + 1) ys ++ s) r (e ∙ append_assoc (arc_line n p y) (arc_lines n (p + 1) ys) s) h)
read-arcs n p (x ∷ xs) [] r s f g h k e = absurd (arc-first n p x (arc_lines n (p + 1) xs ++ r) s (sym e ∙ append_assoc (arc_line n p x) (arc_lines n (p + 1) xs) r) k)
read-arcs n p (x ∷ xs) (y ∷ ys) r s f g h k e =
    let parts = sym (append_assoc (arc_line n p x) (arc_lines n (p + 1) xs) r) ∙ e ∙ append_assoc (arc_line n p y) (arc_lines n (p + 1) ys) s in
    let same = read-arc n p x y _ _ f.0 g.0 parts in
    let tail = append_cancel_left (arc_line n p y) _ _ (ap (λ a. arc_line n p a ++ (arc_lines n (p + 1) xs ++ r)) (sym same) ∙ parts) in
    let rest = read-arcs n (p + 1) xs ys r s f.1 g.1 h k tail in
    ((λ i. same i ∷ rest.0 i), rest.1)

-- ---- boxes

read-kind : (a b : GateKind) (r s : List ℕ) → IsKind a → IsKind b → kind_word a ++ 34 ∷ r ≡ kind_word b ++ 34 ∷ s → (a ≡ b) × (r ≡ s)
read-kind And And r s f g e = (refl, append_cancel_left (codes "and\"") r s e)
read-kind And Or r s f g e = absurd (apart 97 111 _ _ (λ h. omega arith) e)
read-kind And (AtLeast l) r s f g e = absurd (apart 97 108 _ _ (λ h. omega arith) e)
read-kind Or And r s f g e = absurd (apart 111 97 _ _ (λ h. omega arith) e)
read-kind Or Or r s f g e = (refl, append_cancel_left (codes "or\"") r s e)
read-kind Or (AtLeast l) r s f g e = absurd (apart 111 108 _ _ (λ h. omega arith) e)
read-kind (AtLeast k) And r s f g e = absurd (apart 108 97 _ _ (λ h. omega arith) e)
read-kind (AtLeast k) Or r s f g e = absurd (apart 108 111 _ _ (λ h. omega arith) e)
read-kind (AtLeast k) (AtLeast l) r s f g e =
    let parts = append_cancel_left (codes "least ") _ _ (sym (append_assoc (codes "least ") (decimal k) (34 ∷ r)) ∙ e ∙ append_assoc (codes "least ") (decimal l) (34 ∷ s)) in
    let numbers = read-decimal k l 34 r s (omega (arith, f)) (omega (arith, g)) quote-no-digit parts in
    (ap AtLeast numbers.0, numbers.1)

-- what is read of a box
abbrev IsPlainBox : Box → Type 0
IsPlainBox box = AllByRecursion IsByte box.name × IsKind box.kind × AllByRecursion IsPlainArc box.arcs

record ReadBox : Type 0 where
  name : List ℕ
  kind : GateKind
  arcs : List Arc

abbrev read_box : Box → ReadBox
read_box box = record { name = box.name; kind = box.kind; arcs = box.arcs }

box-open : (n : ℕ) (box : Box) (t : List ℕ) → box_line n box ++ t ≡ codes "g" ++ (number n ++ (codes " [tooltip=\"" ++ (shown box.name ++ 34 ∷ (codes ",kind=\"" ++ (kind_word box.kind ++ 34 ∷ ((box_look n box ++ codes "];") ++ 10 ∷ t))))))
box-open n box t =
    let look = box_look n box in
    let tip = codes " [tooltip=\"" ++ (shown box.name ++ codes "\"") in
    ap (λ u. 103 ∷ u)
    (append_assoc (number n) (tip ++ (kind_told box.kind ++ (look ++ codes "];\n"))) t
    ∙ ap (λ u. number n ++ u) (append_assoc tip (kind_told box.kind ++ (look ++ codes "];\n")) t
    ∙ append_assoc (codes " [tooltip=\"") (shown box.name ++ codes "\"") ((kind_told box.kind ++ (look ++ codes "];\n")) ++ t)
    ∙ ap (λ u. codes " [tooltip=\"" ++ u) (append_assoc (shown box.name) (codes "\"") ((kind_told box.kind ++ (look ++ codes "];\n")) ++ t)
    ∙ ap (λ u. shown box.name ++ 34 ∷ u) (append_assoc (kind_told box.kind) (look ++ codes "];\n") t
    ∙ append_assoc (codes ",kind=\"") (kind_word box.kind ++ codes "\"") ((look ++ codes "];\n") ++ t)
    ∙ ap (λ u. codes ",kind=\"" ++ u) (append_assoc (kind_word box.kind) (codes "\"") ((look ++ codes "];\n") ++ t)
    ∙ ap (λ u. kind_word box.kind ++ 34 ∷ u) (append_assoc look (codes "];\n") t ∙ sym (append_assoc look (codes "];") (10 ∷ t))))))))

read-line : (n : ℕ) (x y : Box) (r s : List ℕ) → IsPlainBox x → IsPlainBox y → box_line n x ++ r ≡ box_line n y ++ s → (x.name ≡ y.name) × (x.kind ≡ y.kind) × (r ≡ s)
read-line n x y r s f g e =
    let parts = sym (box-open n x r) ∙ e ∙ box-open n y s in
    let named = append_cancel_left (codes " [tooltip=\"") _ _ (append_cancel_left (number n) _ _ (append_cancel_left (codes "g") _ _ parts)) in
    let name = read-shown x.name y.name _ _ f.0 g.0 named in
    let kind = read-kind x.kind y.kind _ _ f.1 g.1 (append_cancel_left (codes ",kind=\"") _ _ name.1) in
    let look : (box : Box) → Lacks (box_look n box ++ codes "];") = λ box. lacks-both (box_look n box) (codes "];") (look-lacks n box) (lacks-text (codes "];") refl) in
    let rest = cut-first 10 (box_look n x ++ codes "];") (box_look n y ++ codes "];") r s (look x) (look y) kind.1 in
    (name.0, kind.0, rest.1)

-- ---- parts

-- the line before a box, without its line feed
abbrev part_front : ℕ → List ℕ
part_front head = codes "subgraph cluster_" ++ (number head ++ codes " {label=\"\";color=gray;")

front-lacks : (head : ℕ) → Lacks (part_front head)
front-lacks head =
    lacks-both (codes "subgraph cluster_") _ (lacks-text (codes "subgraph cluster_") refl)
    (lacks-both (number head) (codes " {label=\"\";color=gray;") (lacks-decimal (head + 1)) (lacks-text (codes " {label=\"\";color=gray;") refl))

part-open : (head : ℕ) (t : List ℕ) → part_line (Some head) ++ t ≡ part_front head ++ 10 ∷ t
part-open head t =
    let last = codes " {label=\"\";color=gray;" in
    append_assoc (codes "subgraph cluster_") (number head ++ (last ++ 10 ∷ [])) t
    ∙ ap (λ u. codes "subgraph cluster_" ++ u) (append_assoc (number head) (last ++ 10 ∷ []) t ∙ ap (λ u. number head ++ u) (append_assoc last (10 ∷ []) t))
    ∙ sym (append_assoc (codes "subgraph cluster_") (number head ++ last) (10 ∷ t) ∙ ap (λ u. codes "subgraph cluster_" ++ u) (append_assoc (number head) last (10 ∷ t)))

-- a box with what stands before it, and whether something stands behind it
read-start : (n : ℕ) (x y : Box) (r s : List ℕ) → IsPlainBox x → IsPlainBox y → box_start n x ++ r ≡ box_start n y ++ s → (part_end x.part ≡ part_end y.part) × (x.name ≡ y.name) × (x.kind ≡ y.kind) × (r ≡ s)
read-start n x y r s f g e = by x.part y.part e
  where
    by : (p q : Option ℕ) → (part_line p ++ box_line n x) ++ r ≡ (part_line q ++ box_line n y) ++ s → (part_end p ≡ part_end q) × (x.name ≡ y.name) × (x.kind ≡ y.kind) × (r ≡ s)
    by None None h = let line = read-line n x y r s f g h in (refl, line.0, line.1, line.2)
    by None (Some b) h = absurd (apart 103 115 _ _ (λ k. omega arith) h)
    by (Some a) None h = absurd (apart 115 103 _ _ (λ k. omega arith) h)
    by (Some a) (Some b) h =
        let parts = sym (opened a x r) ∙ h ∙ opened b y s in
        let cut = cut-first 10 (part_front a) (part_front b) (box_line n x ++ r) (box_line n y ++ s) (front-lacks a) (front-lacks b) parts in
        let line = read-line n x y r s f g cut.1 in
        (refl, line.0, line.1, line.2)
      where
        opened : (head : ℕ) (box : Box) (t : List ℕ) → (part_line (Some head) ++ box_line n box) ++ t ≡ part_front head ++ 10 ∷ (box_line n box ++ t)
        opened head box t = append_assoc (part_line (Some head)) (box_line n box) t ∙ part-open head (box_line n box ++ t)

-- ---- all boxes

-- what stands behind what is below a box: the end of its part, or the next box, or the last line
boxes-no-arc : (n : ℕ) (part : Option ℕ) (boxes : List Box) → NoArc (part_end part ++ (boxes_text n boxes ++ codes "}\n"))
boxes-no-arc n (Some head) boxes t e = apart 125 9 _ _ (λ h. omega arith) e
boxes-no-arc n None [] t e = apart 125 9 _ _ (λ h. omega arith) e
boxes-no-arc n None (box ∷ boxes) t e = by box.part e
  where
    later : List ℕ
    later = arc_lines n 0 box.arcs ++ (part_end box.part ++ boxes_text (n + 1) boxes)

    by : (p : Option ℕ) → ((part_line p ++ box_line n box) ++ later) ++ codes "}\n" ≡ 9 ∷ t → ⊥
    by None h = apart 103 9 _ _ (λ k. omega arith) h
    by (Some head) h = apart 115 9 _ _ (λ k. omega arith) h

-- a box is not the last line
box-not-last : (n : ℕ) (box : Box) (boxes : List Box) → codes "}\n" ≡ boxes_text n (box ∷ boxes) ++ codes "}\n" → ⊥
box-not-last n box boxes e = by box.part e
  where
    later : List ℕ
    later = arc_lines n 0 box.arcs ++ (part_end box.part ++ boxes_text (n + 1) boxes)

    by : (p : Option ℕ) → codes "}\n" ≡ ((part_line p ++ box_line n box) ++ later) ++ codes "}\n" → ⊥
    by None h = apart 125 103 _ _ (λ k. omega arith) h
    by (Some head) h = apart 125 115 _ _ (λ k. omega arith) h

read-boxes : (n : ℕ) (xs ys : List Box) → AllByRecursion IsPlainBox xs → AllByRecursion IsPlainBox ys → boxes_text n xs ++ codes "}\n" ≡ boxes_text n ys ++ codes "}\n" → map read_box xs ≡ map read_box ys
read-boxes n [] [] f g e = refl
read-boxes n [] (y ∷ ys) f g e = absurd (box-not-last n y ys e)
read-boxes n (x ∷ xs) [] f g e = absurd (box-not-last n x xs (sym e))
read-boxes n (x ∷ xs) (y ∷ ys) f g e =
    let parts = sym (more x xs) ∙ e ∙ more y ys in
    let start = read-start n x y _ _ f.0 g.0 parts in
    let arcs = read-arcs n 0 x.arcs y.arcs _ _ f.0.2 g.0.2 (boxes-no-arc (n + 1) x.part xs) (boxes-no-arc (n + 1) y.part ys) start.3 in
    let ended = append_cancel_left (part_end y.part) _ _ (ap (λ t. t ++ (boxes_text (n + 1) xs ++ codes "}\n")) (sym start.0) ∙ arcs.1) in
    let rest = read-boxes (n + 1) xs ys f.1 g.1 ended in
    (λ i. record { name = start.1 i; kind = start.2 i; arcs = arcs.0 i } ∷ rest i)
  where
    more : (box : Box) (boxes : List Box) → boxes_text n (box ∷ boxes) ++ codes "}\n" ≡ box_start n box ++ (arc_lines n 0 box.arcs ++ (part_end box.part ++ (boxes_text (n + 1) boxes ++ codes "}\n")))
    more box boxes =
        let arcs = arc_lines n 0 box.arcs in
        append_assoc (box_start n box) (arcs ++ (part_end box.part ++ boxes_text (n + 1) boxes)) (codes "}\n")
        ∙ ap (λ u. box_start n box ++ u) (append_assoc arcs (part_end box.part ++ boxes_text (n + 1) boxes) (codes "}\n")
        ∙ ap (λ u. arcs ++ u) (append_assoc (part_end box.part) (boxes_text (n + 1) boxes) (codes "}\n")))

-- ---- the head

read-text : (one other : Bool) (legend heading : List (List ℕ)) (r s : List ℕ) → head_text one legend ++ r ≡ head_text other heading ++ s → r ≡ s
read-text one other legend heading r s e =
    let parts = sym (head-parts one legend r) ∙ e ∙ head-parts other heading s in
    let told = packed one other (append_cancel_left style_text _ _ parts) in
    (cut-first 10 (flat_map legend_line legend ++ codes ">;") (flat_map legend_line heading ++ codes ">;") r s (lacks legend) (lacks heading) told).1
  where
    lacks : (lines : List (List ℕ)) → Lacks (flat_map legend_line lines ++ codes ">;")
    lacks lines = lacks-both (flat_map legend_line lines) (codes ">;") (legend-lacks lines) (lacks-text (codes ">;") refl)

    head-parts : (parted : Bool) (lines : List (List ℕ)) (t : List ℕ) → head_text parted lines ++ t ≡ style_text ++ (pack_text parted ++ (symbols_text ++ ((flat_map legend_line lines ++ codes ">;") ++ 10 ∷ t)))
    head-parts parted lines t =
        append_assoc (drawn_text parted) (symbols_text ++ (flat_map legend_line lines ++ codes ">;\n")) t
        ∙ append_assoc style_text (pack_text parted) ((symbols_text ++ (flat_map legend_line lines ++ codes ">;\n")) ++ t)
        ∙ ap (λ u. style_text ++ (pack_text parted ++ u)) (append_assoc symbols_text (flat_map legend_line lines ++ codes ">;\n") t
        ∙ ap (λ u. symbols_text ++ u) (append_assoc (flat_map legend_line lines) (codes ">;\n") t ∙ sym (append_assoc (flat_map legend_line lines) (codes ">;") (10 ∷ t))))

    packed : (p q : Bool) {t u : List ℕ} → pack_text p ++ (symbols_text ++ t) ≡ pack_text q ++ (symbols_text ++ u) → t ≡ u
    packed false false h = append_cancel_left symbols_text _ _ h
    packed false true h = absurd (apart 108 112 _ _ (λ k. omega arith) h)
    packed true false h = absurd (apart 112 108 _ _ (λ k. omega arith) h)
    packed true true h = append_cancel_left symbols_text _ _ (append_cancel_left (pack_text true) _ _ h)

-- ---- the tree

plain-arc : (sheet : Sheet) (n : ℕ) (input : Input) → IsShortInput input → IsPlainInput (told_input sheet.system sheet.rates sheet.tree.gates input) → IsPlainArc (arc_of sheet n input)
plain-arc sheet n (inputs.Event number) short plain = plain
plain-arc sheet n (inputs.Gate number) short plain = by (is_below (is_parted sheet.tree.gates) n (usage_at sheet.usages number))
  where
    by : (b : Bool) → IsPlainArc (if b then BoxArc number else TransferArc number (name_at sheet.system sheet.tree.gates number))
    by true = short
    by false = (short, plain.0)

plain-arcs : (sheet : Sheet) (n : ℕ) (ins : List Input) → AllByRecursion IsShortInput ins → AllByRecursion IsPlainInput (map (told_input sheet.system sheet.rates sheet.tree.gates) ins) → AllByRecursion IsPlainArc (map (arc_of sheet n) ins)
plain-arcs sheet n [] short plain = tt
plain-arcs sheet n (x ∷ xs) short plain = (plain-arc sheet n x short.0 plain.0, plain-arcs sheet n xs short.1 plain.1)

plain-boxes : (sheet : Sheet) (n : ℕ) (gates : List Gate) → AllByRecursion (λ gate. AllByRecursion IsShortInput gate.inputs) gates → AllByRecursion IsPlainGate (map (told_gate sheet.system sheet.rates sheet.tree.gates) gates) → AllByRecursion IsPlainBox (boxes_of sheet n gates)
plain-boxes sheet n [] short plain = tt
plain-boxes sheet n (gate ∷ gates) short plain = ((plain.0.0, plain.0.1, plain-arcs sheet n gate.inputs short.0 plain.0.2), plain-boxes sheet (n + 1) gates short.1 plain.1)

name-at : (system : System) (gates : List Gate) (n : ℕ) → name_at system gates n ≡ get_or (map (gate_name system) gates) n []
name-at system [] n = refl
name-at system (gate ∷ gates) zero = refl
name-at system (gate ∷ gates) (suc n) = name-at system gates n

box-names : (sheet : Sheet) (n : ℕ) (gates : List Gate) → map (λ box. box.name) (map read_box (boxes_of sheet n gates)) ≡ map (gate_name sheet.system) gates
box-names sheet n [] = refl
box-names sheet n (gate ∷ gates) = ap (λ names. gate_name sheet.system gate ∷ names) (box-names sheet (n + 1) gates)

module _ (a b : Sheet) (names : (n : ℕ) → name_at a.system a.tree.gates n ≡ name_at b.system b.tree.gates n) where
  abbrev told_a : Input → ToldInput
  told_a = told_input a.system a.rates a.tree.gates

  abbrev told_b : Input → ToldInput
  told_b = told_input b.system b.rates b.tree.gates

  -- a gate as it is drawn below another
  abbrev drawn : (name : List ℕ) (n : ℕ) → Bool → Arc
  drawn name n below = if below then BoxArc n else TransferArc n name

  gate-told : (m k : ℕ) (x y : Bool) (name other : List ℕ) → drawn name m x ≡ drawn other k y → m ≡ k
  gate-told m k true true name other e = cc
  gate-told m k true false name other e = cc
  gate-told m k false true name other e = cc
  gate-told m k false false name other e = cc

  event-or-gate : (event : List ℕ) (rate : Rate) (k : ℕ) (y : Bool) (other : List ℕ) → EventArc event rate ≡ drawn other k y → ⊥
  event-or-gate event rate k true other e = cc
  event-or-gate event rate k false other e = cc

  event-told : (m k : List ℕ) (x y : Rate) → EventArc m x ≡ EventArc k y → (m ≡ k) × (x ≡ y)
  event-told m k x y e = let first : m ≡ k = cc in let second : x ≡ y = cc in (first, second)

  arc-told : (n : ℕ) (x y : Input) → arc_of a n x ≡ arc_of b n y → told_a x ≡ told_b y
  arc-told n (inputs.Event m) (inputs.Event k) e = let both = event-told _ _ _ _ e in (λ i. record { name = both.0 i; rate = Some (both.1 i) })
  arc-told n (inputs.Event m) (inputs.Gate k) e = absurd (event-or-gate _ _ k (is_below (is_parted b.tree.gates) n (usage_at b.usages k)) _ e)
  arc-told n (inputs.Gate m) (inputs.Event k) e = absurd (event-or-gate _ _ m (is_below (is_parted a.tree.gates) n (usage_at a.usages m)) _ (sym e))
  arc-told n (inputs.Gate m) (inputs.Gate k) e =
      let same = gate-told m k (is_below (is_parted a.tree.gates) n (usage_at a.usages m)) (is_below (is_parted b.tree.gates) n (usage_at b.usages k)) _ _ e in
      let named = names m ∙ ap (name_at b.system b.tree.gates) same in
      (λ i. record { name = named i; rate = None })

  arcs-told : (n : ℕ) (xs ys : List Input) → map (arc_of a n) xs ≡ map (arc_of b n) ys → map told_a xs ≡ map told_b ys
  arcs-told n [] [] e = refl
  arcs-told n [] (y ∷ ys) e = cc
  arcs-told n (x ∷ xs) [] e = cc
  arcs-told n (x ∷ xs) (y ∷ ys) e =
      let here : arc_of a n x ≡ arc_of b n y = cc in
      let later : map (arc_of a n) xs ≡ map (arc_of b n) ys = cc in
      let first = arc-told n x y here in
      let rest = arcs-told n xs ys later in
      (λ i. first i ∷ rest i)

  boxes-told : (n : ℕ) (gs hs : List Gate) → map read_box (boxes_of a n gs) ≡ map read_box (boxes_of b n hs) → map (told_gate a.system a.rates a.tree.gates) gs ≡ map (told_gate b.system b.rates b.tree.gates) hs
  boxes-told n [] [] e = refl
  boxes-told n [] (h ∷ hs) e = cc
  boxes-told n (g ∷ gs) [] e = cc
  boxes-told n (g ∷ gs) (h ∷ hs) e =
      let here = first _ _ _ _ e in
      let later = last _ _ _ _ e in
      let ins = arcs-told n g.inputs h.inputs (ap (λ box. box.arcs) here) in
      let name = ap (λ box. box.name) here in
      let kind = ap (λ box. box.kind) here in
      let rest = boxes-told (n + 1) gs hs later in
      (λ i. record { name = name i; kind = kind i; inputs = ins i } ∷ rest i)
    where
      first : (x y : ReadBox) (xs ys : List ReadBox) → x ∷ xs ≡ y ∷ ys → x ≡ y
      first x y xs ys h = cc

      last : (x y : ReadBox) (xs ys : List ReadBox) → x ∷ xs ≡ y ∷ ys → xs ≡ ys
      last x y xs ys h = cc

pub one-tree : (one other : System) (first second : Tree) (rates more : List Rate) (title heading : Title)
    → IsTellable one first rates → IsTellable other second more → dot_text one first rates title ≡ dot_text other second more heading → tree_told one first rates ≡ tree_told other second more
one-tree one other first second rates more title heading f g e =
    let a = sheet_of one first rates title in
    let b = sheet_of other second more heading in
    let boxes = read-boxes 0 (boxes_of a 0 first.gates) (boxes_of b 0 second.gates) (plain-boxes a 0 first.gates f.short f.plain) (plain-boxes b 0 second.gates g.short g.plain) (read-text (is_parted first.gates) (is_parted second.gates) title.legend heading.legend _ _ e) in
    let named = sym (box-names a 0 first.gates) ∙ ap (map (λ box. box.name)) boxes ∙ box-names b 0 second.gates in
    boxes-told a b (λ n. name-at one first.gates n ∙ ap (λ all. get_or all n []) named ∙ sym (name-at other second.gates n)) 0 first.gates second.gates boxes
