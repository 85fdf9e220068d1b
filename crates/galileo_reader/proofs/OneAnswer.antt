-- A text has one answer.
use Rattle.std.proofs.Common.{ℕ, Bool, ◌≡◌, List, Option, Some, None, Result, Ok, Err, MatchResult, Bor, option_copied, inl, inr, ⊎_elim, ap, ◌∙◌, sym, subst, refl}
use Rattle.std.proofs.lemmas.Bool.{cases_order}
use Rattle.galileo_reader.specs.declared.statement.PlacedName.{PlacedName}
use Rattle.galileo_reader.specs.declared.statement.Statement.{Statement}
use Rattle.galileo_reader.specs.declared.tree.Flaw.{Flaw}
use Rattle.galileo_reader.specs.declared.tree.Flaw.TheVariants.{BadLine, DynamicGate, BadCount, DuplicateNode, NoTop, UnknownNode, Cyclic}
use Rattle.galileo_reader.specs.declared.tree.GalileoFault.{GalileoFault}
use Rattle.galileo_reader.specs.declared.tree.GalileoFault.TheVariants.{Refused, Memory}
use Rattle.galileo_reader.specs.declared.tree.NamedGate.{NamedGate}
use Rattle.galileo_reader.specs.declared.tree.NamedTree.{NamedTree}
use Rattle.galileo_reader.specs.Nodes.{bad_count, place_of_gate, second_line, top_of, tree_of, unknown_node}
use Rattle.galileo_reader.specs.Statements.{AreLines, IsBadAt}
use Rattle.galileo_reader.specs.Trees.{AreFlawed, HasCycleAt, IsFirstCyclic, IsFlawed, IsRead, IsTreeOf, line_flaw}
use Rattle.galileo_reader.specs.inner.Trees.{HasNoTree, HaveNoTree, IsCyclicIn}
use Rattle.galileo_reader.proofs.TextLaws.{bad-apart, one-bad, one-reading}

some-none : {X : Type 0} (o : Option X) (x : X) → o ≡ Some x → o ≡ None → ⊥
some-none None x e f = cc
some-none (Some y) x e f = cc

one-some : {X : Type 0} (o : Option X) (x y : X) → o ≡ Some x → o ≡ Some y → x ≡ y
one-some None x y e f = cc
one-some (Some z) x y e f = cc

one-first : (gates : List NamedGate) (m n : ℕ) → IsFirstCyclic gates m → IsFirstCyclic gates n → m ≡ n
one-first gates m n a b =
    ⊎_elim (λ same. same) (λ apart. ⊎_elim (λ less. absurd (b.first m less a.reaches)) (λ more. absurd (a.first n more b.reaches)) apart) (cases_order m n)

one-cycle : (lines : List Statement) (m n : ℕ) → HasCycleAt lines m → HasCycleAt lines n → m ≡ n
one-cycle lines m n a b =
    let top : b.top ≡ a.top = one-some (top_of lines) b.top a.top b.top_is a.top_is in
    let same : a.gate ≡ b.gate = one-first (tree_of lines a.top).gates a.gate b.gate a.cyclic (subst (λ t. IsFirstCyclic (tree_of lines t).gates b.gate) top b.cyclic) in
    a.at_is ∙ ap (place_of_gate lines) same ∙ sym b.at_is

-- ---- of lines

one-tree : (lines : List Statement) (a b : NamedTree) → IsTreeOf lines a → IsTreeOf lines b → a ≡ b
one-tree lines a b x y =
    x.tree_is ∙ ap (tree_of lines) (one-some (top_of lines) x.top y.top x.top_is y.top_is) ∙ sym y.tree_is

tree-apart : (lines : List Statement) (tree : NamedTree) (flaw : Flaw) → IsTreeOf lines tree → AreFlawed lines flaw → ⊥
tree-apart lines tree (BadLine at) is h = h
tree-apart lines tree (DynamicGate at) is h = h
tree-apart lines tree (BadCount at) is h = some-none (bad_count lines) at h is.counts
tree-apart lines tree (DuplicateNode at) is h = some-none (second_line lines) at h.1 is.once
tree-apart lines tree NoTop is h = some-none (top_of lines) is.top is.top_is h.2
tree-apart lines tree (UnknownNode at) is h = some-none (unknown_node lines) at h.3 is.known
tree-apart lines tree (Cyclic at) is h =
    let cycle = h.3 in
    let same : tree_of lines cycle.top ≡ tree = ap (tree_of lines) (one-some (top_of lines) cycle.top is.top cycle.top_is is.top_is) ∙ sym is.tree_is in
    is.acyclic cycle.gate (subst (λ (t : NamedTree). IsFirstCyclic t.gates cycle.gate) same cycle.cyclic).reaches

one-flaw : (lines : List Statement) (a b : Flaw) → AreFlawed lines a → AreFlawed lines b → a ≡ b
one-flaw lines (BadLine m) b x y = absurd x
one-flaw lines (DynamicGate m) b x y = absurd x
one-flaw lines (BadCount m) (BadLine n) x y = absurd y
one-flaw lines (BadCount m) (DynamicGate n) x y = absurd y
one-flaw lines (BadCount m) (BadCount n) x y = ap BadCount (one-some (bad_count lines) m n x y)
one-flaw lines (BadCount m) (DuplicateNode n) x y = absurd (some-none (bad_count lines) m x y.0)
one-flaw lines (BadCount m) NoTop x y = absurd (some-none (bad_count lines) m x y.0)
one-flaw lines (BadCount m) (UnknownNode n) x y = absurd (some-none (bad_count lines) m x y.0)
one-flaw lines (BadCount m) (Cyclic n) x y = absurd (some-none (bad_count lines) m x y.0)
one-flaw lines (DuplicateNode m) (BadLine n) x y = absurd y
one-flaw lines (DuplicateNode m) (DynamicGate n) x y = absurd y
one-flaw lines (DuplicateNode m) (BadCount n) x y = absurd (some-none (bad_count lines) n y x.0)
one-flaw lines (DuplicateNode m) (DuplicateNode n) x y = ap DuplicateNode (one-some (second_line lines) m n x.1 y.1)
one-flaw lines (DuplicateNode m) NoTop x y = absurd (some-none (second_line lines) m x.1 y.1)
one-flaw lines (DuplicateNode m) (UnknownNode n) x y = absurd (some-none (second_line lines) m x.1 y.1)
one-flaw lines (DuplicateNode m) (Cyclic n) x y = absurd (some-none (second_line lines) m x.1 y.1)
one-flaw lines NoTop (BadLine n) x y = absurd y
one-flaw lines NoTop (DynamicGate n) x y = absurd y
one-flaw lines NoTop (BadCount n) x y = absurd (some-none (bad_count lines) n y x.0)
one-flaw lines NoTop (DuplicateNode n) x y = absurd (some-none (second_line lines) n y.1 x.1)
one-flaw lines NoTop NoTop x y = refl
one-flaw lines NoTop (UnknownNode n) x y = absurd (some-none (top_of lines) y.2.0 y.2.1 x.2)
one-flaw lines NoTop (Cyclic n) x y = absurd (some-none (top_of lines) y.3.top y.3.top_is x.2)
one-flaw lines (UnknownNode m) (BadLine n) x y = absurd y
one-flaw lines (UnknownNode m) (DynamicGate n) x y = absurd y
one-flaw lines (UnknownNode m) (BadCount n) x y = absurd (some-none (bad_count lines) n y x.0)
one-flaw lines (UnknownNode m) (DuplicateNode n) x y = absurd (some-none (second_line lines) n y.1 x.1)
one-flaw lines (UnknownNode m) NoTop x y = absurd (some-none (top_of lines) x.2.0 x.2.1 y.2)
one-flaw lines (UnknownNode m) (UnknownNode n) x y = ap UnknownNode (one-some (unknown_node lines) m n x.3 y.3)
one-flaw lines (UnknownNode m) (Cyclic n) x y = absurd (some-none (unknown_node lines) m x.3 y.2)
one-flaw lines (Cyclic m) (BadLine n) x y = absurd y
one-flaw lines (Cyclic m) (DynamicGate n) x y = absurd y
one-flaw lines (Cyclic m) (BadCount n) x y = absurd (some-none (bad_count lines) n y x.0)
one-flaw lines (Cyclic m) (DuplicateNode n) x y = absurd (some-none (second_line lines) n y.1 x.1)
one-flaw lines (Cyclic m) NoTop x y = absurd (some-none (top_of lines) x.3.top x.3.top_is y.2)
one-flaw lines (Cyclic m) (UnknownNode n) x y = absurd (some-none (unknown_node lines) n y.3 x.2)
one-flaw lines (Cyclic m) (Cyclic n) x y = ap Cyclic (one-cycle lines m n x.3 y.3)

-- ---- of texts

same-lines : (wide : Bool) (text : List ℕ) (a b : List Statement) → AreLines wide text 0 a → AreLines wide text 0 b → a ≡ b
same-lines wide text a b = one-reading wide text 0 a b

pub one-read : (wide : Bool) (text : List ℕ) (a b : NamedTree) → IsRead wide text a → IsRead wide text b → a ≡ b
one-read wide text a b (ls, are, x) (ms, also, y) = one-tree ls a b x (subst (λ lines. IsTreeOf lines b) (same-lines wide text ms ls also are) y)

pub read-apart : (wide : Bool) (text : List ℕ) (tree : NamedTree) (flaw : Flaw) → IsRead wide text tree → IsFlawed wide text flaw → ⊥
read-apart wide text tree flaw (ls, are, is) wrong =
    ⊎_elim
    (λ (at, ms, bad, same). bad-apart wide text 0 ls ms at are bad)
    (λ (ms, also, h). tree-apart ls tree flaw is (subst (λ lines. AreFlawed lines flaw) (same-lines wide text ms ls also are) h)) wrong

pub one-wrong : (wide : Bool) (text : List ℕ) (a b : Flaw) → IsFlawed wide text a → IsFlawed wide text b → a ≡ b
one-wrong wide text a b x y =
    ⊎_elim
    (λ (m, ls, bad, is_m). ⊎_elim
    (λ (n, ms, also, is_n). is_m ∙ ap (line_flaw wide text) (one-bad wide text 0 ls ms m n bad also) ∙ sym is_n)
    (λ (ms, are, h). absurd (bad-apart wide text 0 ms ls m are bad)) y)
    (λ (ls, are, h). ⊎_elim
    (λ (n, ms, bad, is_n). absurd (bad-apart wide text 0 ls ms n are bad))
    (λ (ms, also, k). one-flaw ls a b h (subst (λ lines. AreFlawed lines b) (same-lines wide text ms ls also are) k)) y) x

-- ---- what the code answers

pub bad-line : (wide : Bool) (text : List ℕ) (at : ℕ) → ((lines : List Statement) × IsBadAt wide text 0 lines at) → HasNoTree wide text (Refused (line_flaw wide text at))
bad-line wide text at (lines, bad) = inl (at, lines, bad, refl)

-- what lines have no tree for, their text has none for
pub lines-none : (wide : Bool) (text : List ℕ) (lines : List Statement) (fault : GalileoFault) → AreLines wide text 0 lines → HaveNoTree lines fault → HasNoTree wide text fault
lines-none wide text lines (Refused flaw) are h = inr (lines, are, h)
lines-none wide text lines Memory are h = tt

pub lines-answer : (wide : Bool) (text : List ℕ) (lines : List Statement) (result : Result NamedTree GalileoFault) → AreLines wide text 0 lines → MatchResult result (IsTreeOf lines) (HaveNoTree lines) → MatchResult result (IsRead wide text) (HasNoTree wide text)
lines-answer wide text lines (Ok tree) are is = (lines, are, is)
lines-answer wide text lines (Err fault) are h = lines-none wide text lines fault are h

-- a cycle in the tree of lines
pub cycle-none : (lines : List Statement) (top : PlacedName) (tree : NamedTree) (fault : GalileoFault) → bad_count lines ≡ None → second_line lines ≡ None → top_of lines ≡ Some top → unknown_node lines ≡ None → tree ≡ tree_of lines top
    → IsCyclicIn lines tree fault → HaveNoTree lines fault
cycle-none lines top tree (Refused (Cyclic at)) counts once top_is known is (n, first, place) =
    (counts, once, known, record { gate = n; top = top; top_is = top_is; cyclic = subst (λ (t : NamedTree). IsFirstCyclic t.gates n) is first; at_is = place })
cycle-none lines top tree (Refused (BadLine at)) counts once top_is known is h = absurd h
cycle-none lines top tree (Refused (DynamicGate at)) counts once top_is known is h = absurd h
cycle-none lines top tree (Refused (BadCount at)) counts once top_is known is h = absurd h
cycle-none lines top tree (Refused (DuplicateNode at)) counts once top_is known is h = absurd h
cycle-none lines top tree (Refused NoTop) counts once top_is known is h = absurd h
cycle-none lines top tree (Refused (UnknownNode at)) counts once top_is known is h = absurd h
cycle-none lines top tree Memory counts once top_is known is h = tt

pub top-found : (nodes found : List Statement) (r : Option (Bor PlacedName)) (top : Bor PlacedName) → found ≡ nodes → option_copied r ≡ top_of found → r ≡ Some top → top_of nodes ≡ Some top.now
top-found nodes found r top same copied is = ap top_of (sym same) ∙ sym copied ∙ ap option_copied is

pub none-left : (o : Option ℕ) → ((at : ℕ) → o ≡ Some at → ⊥) → o ≡ None
none-left None none = refl
none-left (Some at) none = absurd (none at refl)
