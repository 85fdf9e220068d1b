-- A text is true exactly where its tree, as a text, is.
use Rattle.std.proofs.Common.{ℕ, Bool, ◌≡◌, ◌↔◌, true, List, [], ◌∷◌, ◌++◌, map, flat_map, option_to_list, Some, None, Result, Ok, Err, IfOk, MatchResult, ap, ◌∙◌, sym, subst}
use Rattle.std.specs.List.{AllByRecursion}
use Rattle.round_gates.specs.declared.node.GateKind.{GateKind}
use Rattle.galileo_writer.specs.Galileo.{Line, GateLine}
use Rattle.galileo_writer.specs.Truth.{NameSet, Tells, line_true, name_of}
use Rattle.galileo_reader.specs.declared.statement.PlacedName.{PlacedName}
use Rattle.galileo_reader.specs.declared.statement.Statement.{Statement}
use Rattle.galileo_reader.specs.declared.statement.Statement.TheVariants.{Top, Gate, Event}
use Rattle.galileo_reader.specs.declared.tree.GalileoFault.{GalileoFault}
use Rattle.galileo_reader.specs.declared.tree.NamedTree.{NamedTree}
use Rattle.galileo_reader.specs.Nodes.{input_of, top_of, tree_of, unknown_name, unknown_node}
use Rattle.galileo_reader.specs.Statements.{AreLines}
use Rattle.galileo_reader.specs.Trees.{IsTreeOf}
use Rattle.galileo_reader.specs.inner.Trees.{HaveNoTree, IsNamedTree}
use Rattle.galileo_reader.specs.inner.Truth.{StaticTrue, event_line, galileo_of, gate_line, input_name, line_in, tree_galileo}
use Rattle.galileo_reader.proofs.Firsts.{none-has}
use Rattle.galileo_reader.proofs.TextLaws.{one-reading}
use Rattle.galileo_reader.proofs.TreeLaws.{AreKnown, all-known, gates_in, events_in, inputs-named, named-tree, top-named}

module _ (all : List Statement) (top : PlacedName) where
  abbrev said : List Statement → List Line
  said ls = flat_map (λ line. option_to_list (line_in line)) ls

  abbrev gate_lines : List Statement → List Line
  gate_lines ls = map (gate_line (tree_of all top)) (gates_in all ls)

  abbrev event_lines : List Statement → List Line
  event_lines ls = map event_line (events_in all ls)

  module _ (P : Line → Type 0) where
    same-gate : (own : PlacedName) (kind : GateKind) (ins : List PlacedName) → AllByRecursion (λ name. unknown_name all name ≡ None) ins
        → GateLine own.name kind (map (input_name (tree_of all top)) (map (input_of all) ins)) ≡ GateLine own.name kind (map (λ name. name.name) ins)
    same-gate own kind ins each = ap (GateLine own.name kind) (inputs-named all top ins each)

    to-gates : (ls : List Statement) → AllByRecursion (AreKnown all top) ls → AllByRecursion P (said ls) → AllByRecursion P (gate_lines ls)
    to-gates [] each h = tt
    to-gates (Top at name ∷ ls) each h = to-gates ls each.1 h
    to-gates (Gate own kind count ins ∷ ls) each h = (subst P (sym (same-gate own kind ins (none-has (unknown_name all) ins each.0))) h.0, to-gates ls each.1 h.1)
    to-gates (Event own rate ∷ ls) each h = to-gates ls each.1 h.1

    to-events : (ls : List Statement) → AllByRecursion P (said ls) → AllByRecursion P (event_lines ls)
    to-events [] h = tt
    to-events (Top at name ∷ ls) h = to-events ls h
    to-events (Gate own kind count ins ∷ ls) h = to-events ls h.1
    to-events (Event own rate ∷ ls) h = (h.0, to-events ls h.1)

    from-tree : (ls : List Statement) → AllByRecursion (AreKnown all top) ls → AllByRecursion P (gate_lines ls) → AllByRecursion P (event_lines ls) → AllByRecursion P (said ls)
    from-tree [] each g e = tt
    from-tree (Top at name ∷ ls) each g e = from-tree ls each.1 g e
    from-tree (Gate own kind count ins ∷ ls) each g e = (subst P (same-gate own kind ins (none-has (unknown_name all) ins each.0)) g.0, from-tree ls each.1 g.1 e)
    from-tree (Event own rate ∷ ls) each g e = (e.0, from-tree ls each.1 g e.1)

    all-append : (xs ys : List Line) → AllByRecursion P xs → AllByRecursion P ys → AllByRecursion P (xs ++ ys)
    all-append [] ys a b = b
    all-append (x ∷ xs) ys a b = (a.0, all-append xs ys a.1 b)

    all-front : (xs ys : List Line) → AllByRecursion P (xs ++ ys) → AllByRecursion P xs
    all-front [] ys h = tt
    all-front (x ∷ xs) ys h = (h.0, all-front xs ys h.1)

    all-back : (xs ys : List Line) → AllByRecursion P (xs ++ ys) → AllByRecursion P ys
    all-back [] ys h = h
    all-back (x ∷ xs) ys h = all-back xs ys h.1

  module _ (top_is : top_of all ≡ Some top) (known : unknown_node all ≡ None) (given : NameSet) where
    abbrev Says : NameSet → Line → Type 0
    Says set line = line_true given set line ≡ true → set (name_of line) ≡ true

    abbrev gates : List Line
    gates = gate_lines all

    abbrev events : List Line
    events = event_lines all

    tells-tree : Tells (galileo_of all top) given → Tells (tree_galileo (tree_of all top)) given
    tells-tree tells set closed =
        ap set (top-named all top top_is known)
        ∙ tells set (from-tree (Says set) all (all-known all top known) (all-front (Says set) (gate_lines all) (event_lines all) closed) (all-back (Says set) (gate_lines all) (event_lines all) closed))

    tree-tells : Tells (tree_galileo (tree_of all top)) given → Tells (galileo_of all top) given
    tree-tells tells set closed =
        ap set (sym (top-named all top top_is known))
        ∙ tells set (all-append (Says set) (gate_lines all) (event_lines all) (to-gates (Says set) all (all-known all top known) closed) (to-events (Says set) all closed))

same-name : (a b : PlacedName) → Some a ≡ Some b → a ≡ b
same-name a b e = cc

-- a text is true where its tree is
pub text-truth : (wide : Bool) (text : List ℕ) (lines : List Statement) (tree : NamedTree) → AreLines wide text 0 lines → IsTreeOf lines tree → (given : NameSet) → StaticTrue wide text given ↔ Tells (tree_galileo tree) given
text-truth wide text lines tree are is given = (
  (λ is_true.
      let same : is_true.lines ≡ lines = one-reading wide text 0 is_true.lines lines is_true.are_lines are in
      let top : is_true.top ≡ is.top = same-name is_true.top is.top (sym is_true.top_is ∙ ap top_of same ∙ is.top_is) in
      let tells : Tells (galileo_of lines is.top) given = subst (λ ls. Tells (galileo_of ls is.top) given) same (subst (λ t. Tells (galileo_of is_true.lines t) given) top is_true.tells) in
      subst (λ t. Tells (tree_galileo t) given) (sym is.tree_is) (tells-tree lines is.top is.top_is is.known given tells)),
  (λ tells. record {
    lines = lines;
    are_lines = are;
    top = is.top;
    top_is = is.top_is;
    tells = tree-tells lines is.top is.top_is is.known given (subst (λ t. Tells (tree_galileo t) given) is.tree_is tells);
  }),
)

-- a tree of lines is one
pub tree-named : (lines : List Statement) (tree : NamedTree) → IsTreeOf lines tree → IsNamedTree tree
tree-named lines tree is = subst IsNamedTree (sym is.tree_is) (named-tree lines is.top is.once is.top_is is.known)

-- ---- what the code answers

pub answer-named : (lines found : List Statement) (result : Result NamedTree GalileoFault) → found ≡ lines → MatchResult result (IsTreeOf found) (HaveNoTree found) → IfOk result IsNamedTree
answer-named lines found (Ok tree) same is = tree-named found tree is
answer-named lines found (Err fault) same h = tt

pub answer-truth : (wide : Bool) (text : List ℕ) (lines found : List Statement) (result : Result NamedTree GalileoFault) → AreLines wide text 0 lines → found ≡ lines → MatchResult result (IsTreeOf found) (HaveNoTree found)
    → IfOk result (λ tree. (given : NameSet) → StaticTrue wide text given ↔ Tells (tree_galileo tree) given)
answer-truth wide text lines found (Ok tree) are same is = text-truth wide text lines tree are (subst (λ ls. IsTreeOf ls tree) same is)
answer-truth wide text lines found (Err fault) are same h = tt
