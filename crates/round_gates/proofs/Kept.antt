-- Nodes kept once, one after another.
use Rattle.std.proofs.Common.{ℕ, suc, ◌+◌, ◌≡◌, ◌<◌, Bool, true, false, cond, not, List, [], ◌∷◌, ◌++◌, length, get_or, drop, append-nil, Result, Ok, Err, OnOk, refl, sym, ap, ◌∙◌, append_assoc, add-one, drop-cons}
use Rattle.std.specs.List.{list_any}
use Rattle.round_gates.specs.declared.node.Node.{Node}
use Rattle.round_gates.specs.declared.node.Node.TheVariants.{Always, Never, Basic, Gate}
use Rattle.round_gates.specs.contracts.node.NodePartialEq.TheImpl.{eq-value as node_eq}
use Rattle.round_gates.specs.declared.node.Line.{Line}
use Rattle.round_gates.specs.declared.node.Part.{Part}
use Rattle.round_gates.specs.declared.node.Stage.{Stage}
use Rattle.round_gates.specs.declared.node.GateKind.TheVariants.{Or}
use Rattle.round_gates.specs.Walks.{key_at, with_seen, input_of, repeat_of, wrapped, repeats}
use Rattle.round_gates.specs.Nodes.{same_node, has_node, without, new_ones}
use Rattle.round_gates.specs.inner.Nodes.{kept_key}

same-eq : (a b : Node) → node_eq.it a b ≡ same_node a b
same-eq Always Always = refl
same-eq Always Never = refl
same-eq Always (Basic n) = refl
same-eq Always (Gate k) = refl
same-eq Never Always = refl
same-eq Never Never = refl
same-eq Never (Basic n) = refl
same-eq Never (Gate k) = refl
same-eq (Basic m) Always = refl
same-eq (Basic m) Never = refl
same-eq (Basic m) (Basic n) = refl
same-eq (Basic m) (Gate k) = refl
same-eq (Gate k) Always = refl
same-eq (Gate k) Never = refl
same-eq (Gate k) (Basic n) = refl
same-eq (Gate k) (Gate l) = refl

-- the test of the code is that of the definitions
pub node_eq-is : node_eq.it ≡ same_node
node_eq-is i a b = same-eq a b i

seen_or_not : (h : Bool) (seen rest : List Node) (node : Node) → seen ++ cond h (new_ones seen rest) (node ∷ new_ones (seen ++ node ∷ []) rest) ≡ cond h seen (seen ++ node ∷ []) ++ new_ones (cond h seen (seen ++ node ∷ [])) rest
seen_or_not true seen rest node = refl
seen_or_not false seen rest node = sym (append_assoc seen (node ∷ []) _)

dropped_or_not : (b : Bool) (seen rest : List Node) (node : Node) → seen ++ new_ones seen (cond (not b) (node ∷ rest) rest) ≡ cond b seen (cond (has_node seen node) seen (seen ++ node ∷ [])) ++ new_ones (cond b seen (cond (has_node seen node) seen (seen ++ node ∷ []))) rest
dropped_or_not true seen rest node = refl
dropped_or_not false seen rest node = seen_or_not (has_node seen node) seen rest node

pub split_at : {X : Type 0} (x : X) (xs : List X) (i : ℕ) → i < length xs → x ≡ get_or xs i x → drop i xs ≡ x ∷ drop (i + 1) xs
split_at {X} x xs i fits is = drop-cons xs i x fits ∙ ap (λ (y : X). y ∷ drop (suc i) xs) (sym is) ∙ ap (λ k. x ∷ drop k xs) (sym (add-one i))

-- one node more
pub kept-next : (dropped node : Node) (seen new nodes all : List Node) (i : ℕ) → i < length nodes → node ≡ get_or nodes i node → new ≡ kept_key seen node dropped → seen ++ new_ones seen (without dropped (drop i nodes)) ≡ all → new ++ new_ones new (without dropped (drop (i + 1) nodes)) ≡ all
kept-next dropped node seen new nodes all i fits is made so_far =
    ap (λ ns. ns ++ new_ones ns (without dropped (drop (i + 1) nodes))) made
    ∙ sym (dropped_or_not (same_node dropped node) seen (without dropped (drop (i + 1) nodes)) node)
    ∙ ap (λ ns. seen ++ new_ones seen (without dropped ns)) (sym (split_at node nodes i fits is))
    ∙ so_far

not_dropped : (b : Bool) (a c d : List Node) → b ≡ false → d ≡ c → d ≡ cond b a c
not_dropped true a c d e f = cc
not_dropped false a c d e f = f

-- a set that takes a node that does not go
pub kept-insert : (seen new : List Node) (node dropped : Node) → same_node dropped node ≡ false → new ≡ cond (list_any (node_eq.it node) seen) seen (seen ++ node ∷ []) → new ≡ kept_key seen node dropped
kept-insert seen new node dropped other made =
    not_dropped (same_node dropped node) seen _ new other
    (made ∙ ap (λ (eq : Node → Node → Bool). cond (list_any (eq node) seen) seen (seen ++ node ∷ [])) node_eq-is)

-- a set that takes a node
pub seen-insert : (seen new : List Node) (node : Node) → new ≡ cond (list_any (node_eq.it node) seen) seen (seen ++ node ∷ []) → new ≡ with_seen seen node
seen-insert seen new node made = made ∙ ap (λ (eq : Node → Node → Bool). cond (list_any (eq node) seen) seen (seen ++ node ∷ [])) node_eq-is

is_not : (b c : Bool) → c ≡ not b → (d : Bool) → c ≡ d → b ≡ not d
is_not true true e d f = cc
is_not true false e d f = ap not f
is_not false true e d f = ap not f
is_not false false e d f = cc

-- whether a node was seen, by whether it was new
pub seen-tells : (seen : List Node) (node : Node) (new is : Bool) → new ≡ not (list_any (node_eq.it node) seen) → new ≡ is → has_node seen node ≡ not is
seen-tells seen node new is e f = sym (ap (λ (eq : Node → Node → Bool). list_any (eq node) seen) node_eq-is) ∙ is_not _ new e is f

-- one part more of a gate that counts its inputs
pub wrapped-next : (stage : Stage) (seen new : List Node) (inputs : List Node) (part : Part) (parts : List Part) (i : ℕ) (input : Node) (all : List Node) → i < length parts → part ≡ get_or parts i part → new ≡ with_seen seen part.node → input ≡ input_of stage seen part
    → inputs ++ wrapped stage seen (drop i parts) ≡ all → (inputs ++ input ∷ []) ++ wrapped stage new (drop (i + 1) parts) ≡ all
wrapped-next stage seen new inputs part parts i input all fits is seen_is input_is so_far =
    ap (λ ns. (inputs ++ input ∷ []) ++ wrapped stage ns (drop (i + 1) parts)) seen_is
    ∙ ap (λ (n : Node). (inputs ++ n ∷ []) ++ wrapped stage (with_seen seen part.node) (drop (i + 1) parts)) input_is
    ∙ append_assoc inputs (input_of stage seen part ∷ []) _
    ∙ ap (λ ps. inputs ++ wrapped stage seen ps) (sym (split_at part parts i fits is))
    ∙ so_far

pub repeats-next : (stage : Stage) (seen new : List Node) (lines after : List Line) (part : Part) (parts : List Part) (i : ℕ) (all : List Line) → i < length parts → part ≡ get_or parts i part → new ≡ with_seen seen part.node → after ≡ lines ++ repeat_of stage seen part
    → lines ++ repeats stage seen (drop i parts) ≡ all → after ++ repeats stage new (drop (i + 1) parts) ≡ all
repeats-next stage seen new lines after part parts i all fits is seen_is made so_far =
    ap (λ ls. ls ++ repeats stage new (drop (i + 1) parts)) made
    ∙ ap (λ ns. (lines ++ repeat_of stage seen part) ++ repeats stage ns (drop (i + 1) parts)) seen_is
    ∙ append_assoc lines (repeat_of stage seen part) _
    ∙ ap (λ ps. lines ++ repeats stage seen ps) (sym (split_at part parts i fits is))
    ∙ so_far

module _ (stage : Stage) (seen : List Node) (part : Part) where
  pub input-new : has_node seen part.node ≡ false → part.node ≡ input_of stage seen part
  input-new e = sym (ap (λ h. cond h (Gate (key_at stage part.place)) part.node) e)

  pub input-old : has_node seen part.node ≡ true → Gate (key_at stage part.place) ≡ input_of stage seen part
  input-old e = sym (ap (λ h. cond h (Gate (key_at stage part.place)) part.node) e)

  pub repeat-new : (lines : List Line) → has_node seen part.node ≡ false → lines ≡ lines ++ repeat_of stage seen part
  repeat-new lines e = sym (ap (λ h. lines ++ cond h (line ∷ []) []) e ∙ append-nil lines) where
    line : Line
    line = record { key = key_at stage part.place; kind = Or; inputs = part.node ∷ [] }

  pub repeat-old : has_node seen part.node ≡ true → record { key = key_at stage part.place; kind = Or; inputs = part.node ∷ [] } ∷ [] ≡ repeat_of stage seen part
  repeat-old e = sym (ap (λ h. cond h (record { key = key_at stage part.place; kind = Or; inputs = part.node ∷ [] } ∷ []) []) e)

pub on_ok : {X E : Type 0} (r : Result X E) (P : Type 0) → P → OnOk r P
on_ok (Ok x) P p = p
on_ok (Err e) P p = tt
