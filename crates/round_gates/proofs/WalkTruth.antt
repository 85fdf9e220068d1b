-- The walk of a formula keeps its truth: there is a truth of the gates of its places under which each gate is met and its
-- node is true exactly where the formula is.
use Rattle.std.proofs.Common.{ℕ, ◌+◌, ◌-◌, ◌≡◌, ◌<◌, ◌≤◌, Bool, true, false, cond, not, ◌||◌, ◌==◌, nat_le, nat_lt, List, [], ◌∷◌, ◌++◌, map, length, ap, ◌∙◌, sym, subst, refl, arith, rules, tests}
use Rattle.std.proofs.lemmas.Bool.{ne_eqb, eq-eqb}
use Rattle.std.specs.List.{list_all, list_any, AllByRecursion}
use Rattle.fault_system.specs.Truth.{NumberSet, count_true, truth, truth_step, occurs, occurs_step}
use Rattle.fault_system.specs.declared.formula.Formula.{Formula, map-Formula, roll-Formula, fold-roll-Formula, ind-Formula}
use Rattle.fault_system.specs.declared.formula.Formula.TheOpen.{Formula-F, True, Event, Fact, And, Or, AtLeast}
use Rattle.round_gates.specs.declared.node.GateKind.{GateKind}
use Rattle.round_gates.specs.declared.node.GateKind.TheVariants as kinds
use Rattle.round_gates.specs.declared.node.Join.{Join}
use Rattle.round_gates.specs.declared.node.Join.TheVariants.{Plain, Made}
use Rattle.round_gates.specs.declared.node.Line.{Line}
use Rattle.round_gates.specs.declared.node.Node.{Node}
use Rattle.round_gates.specs.declared.node.Node.TheVariants.{Always, Never, Basic, Gate}
use Rattle.round_gates.specs.declared.node.Part.{Part}
use Rattle.round_gates.specs.declared.node.Stage.{Stage}
use Rattle.round_gates.specs.Nodes.{same_node, has_node, without, gathered, each_once, varying, all_of, any_of, least_left, least_of, always_in}
use Rattle.round_gates.specs.Walks.{Walked, Parts, key_at, parts_of, nodes_of, varying_parts, node_at, line_at, with_seen, wrapped, repeats, counted_lines, walk, walk_step}
use Rattle.round_gates.specs.inner.Truths.{GateSet, node_true, join_true, IsMet}
use Rattle.round_gates.proofs.Rules.{all_of-keeps, any_of-keeps, least_of-keeps}
use Rattle.round_gates.proofs.Basics.{all-append, or_left, or_right, or_false}

-- what the rule of a count makes a gate of are the nodes that are not constant
module _ (k : ℕ) where
  gathered-kind : (kind : GateKind) (none : Node) (nodes inputs : List Node) (j : ℕ) → gathered kind none nodes ≡ Made (kinds.AtLeast j) inputs → kind ≡ kinds.AtLeast j
  gathered-kind kind none [] inputs j e = cc
  gathered-kind kind none (x ∷ []) inputs j e = cc
  gathered-kind kind none (x ∷ y ∷ nodes) inputs j e = cc

  not_all : (nodes inputs : List Node) (j : ℕ) → all_of nodes ≡ Made (kinds.AtLeast j) inputs → ⊥
  not_all nodes inputs j e = by (has_node nodes Never) e
    where
      by : (b : Bool) → cond b (Plain Never) (gathered kinds.And Always (each_once (without Always nodes))) ≡ Made (kinds.AtLeast j) inputs → ⊥
      by true e = cc
      by false e = let k : kinds.And ≡ kinds.AtLeast j = gathered-kind kinds.And Always (each_once (without Always nodes)) inputs j e in cc

  not_any : (nodes inputs : List Node) (j : ℕ) → any_of nodes ≡ Made (kinds.AtLeast j) inputs → ⊥
  not_any nodes inputs j e = by (has_node nodes Always) e
    where
      by : (b : Bool) → cond b (Plain Always) (gathered kinds.Or Never (each_once (without Never nodes))) ≡ Made (kinds.AtLeast j) inputs → ⊥
      by true e = cc
      by false e = let k : kinds.Or ≡ kinds.AtLeast j = gathered-kind kinds.Or Never (each_once (without Never nodes)) inputs j e in cc

  pub counted-inputs : (nodes inputs : List Node) (j : ℕ) → least_left k nodes ≡ Made (kinds.AtLeast j) inputs → inputs ≡ nodes
  counted-inputs nodes inputs j e = none (k == 0) e
    where
      every : (b : Bool) → cond b (all_of nodes) (Made (kinds.AtLeast k) nodes) ≡ Made (kinds.AtLeast j) inputs → inputs ≡ nodes
      every true e = absurd (not_all nodes inputs j e)
      every false e = cc

      one : (b : Bool) → cond b (any_of nodes) (cond (k == length nodes) (all_of nodes) (Made (kinds.AtLeast k) nodes)) ≡ Made (kinds.AtLeast j) inputs → inputs ≡ nodes
      one true e = absurd (not_any nodes inputs j e)
      one false e = every (k == length nodes) e

      few : (b : Bool) → cond b (Plain Never) (cond (k == 1) (any_of nodes) (cond (k == length nodes) (all_of nodes) (Made (kinds.AtLeast k) nodes))) ≡ Made (kinds.AtLeast j) inputs → inputs ≡ nodes
      few true e = cc
      few false e = one (k == 1) e

      none : (b : Bool) → cond b (Plain Always) (cond (nat_lt (length nodes) k) (Plain Never) (cond (k == 1) (any_of nodes) (cond (k == length nodes) (all_of nodes) (Made (kinds.AtLeast k) nodes)))) ≡ Made (kinds.AtLeast j) inputs → inputs ≡ nodes
      none true e = cc
      none false e = few (nat_lt (length nodes) k) e

-- the nodes of the parts that vary are the nodes that vary
pub nodes-varying : (parts : List Part) → nodes_of (varying_parts parts) ≡ varying (nodes_of parts)
nodes-varying [] = refl
nodes-varying (part ∷ parts) = by part.node (nodes-varying parts)
  where
    tail : Node → List Node
    tail node = nodes_of (cond (not (same_node Always node || same_node Never node)) (record { place = part.place; node = node } ∷ varying_parts parts) (varying_parts parts))

    by : (node : Node) → nodes_of (varying_parts parts) ≡ varying (nodes_of parts) → tail node ≡ varying (node ∷ nodes_of parts)
    by Always e = e
    by Never e = e
    by (Basic n) e = ap (λ ns. Basic n ∷ ns) e
    by (Gate k) e = ap (λ ns. Gate k ∷ ns) e

-- the gates of the places from low on and below high are as true as these values say
abbrev pub Agrees : Stage → GateSet → (ℕ → Bool) → ℕ → ℕ → Type 0
Agrees stage gates values low high = (place : ℕ) → low ≤ place → place < high → gates (key_at stage place) ≡ values place

-- the node for which a fact of a set stands is true exactly where the fact is
abbrev pub LooksRight : NumberSet → GateSet → (ℕ → Node) → NumberSet → NumberSet → Type 0
LooksRight events gates look facts occur = (n : ℕ) → occur n ≡ true → node_true events gates (look n) ≡ facts n

-- What a walk from a place on gives has a truth of its places under which each gate is met and the node is true exactly
-- where it should be.
pub record Kept (events : NumberSet) (stage : Stage) (look : ℕ → Node) (facts : NumberSet) (walked : Walked) (start : ℕ) (is : Bool) (occur : NumberSet) : Type 0 where
  pub next : start < walked.next
  pub values : ℕ → Bool
  pub first : values start ≡ is
  pub right : (gates : GateSet) → Agrees stage gates values start walked.next → LooksRight events gates look facts occur → (node_true events gates walked.node ≡ is) × AllByRecursion (IsMet events gates) walked.lines

-- at the place of a part stands a gate that is true where the part's node is
abbrev pub PlaceRight : NumberSet → Stage → GateSet → Part → Type 0
PlaceRight events stage gates part = gates (key_at stage part.place) ≡ node_true events gates part.node

-- the same of the parts of a formula
pub record PartsKept (events : NumberSet) (stage : Stage) (look : ℕ → Node) (facts : NumberSet) (all : Parts) (start : ℕ) (are : List Bool) (occur : NumberSet) : Type 0 where
  pub next : start ≤ all.next
  pub values : ℕ → Bool
  pub right : (gates : GateSet) → Agrees stage gates values start all.next → LooksRight events gates look facts occur
      → (map (node_true events gates) (nodes_of all.parts) ≡ are) × AllByRecursion (PlaceRight events stage gates) all.parts × AllByRecursion (IsMet events gates) all.lines

below : (a b : ℕ) → a < b → nat_lt a b ≡ true
below a b h = search (rules, tests)

not_below : (a b : ℕ) → b ≤ a → nat_lt a b ≡ false
not_below a b h = search (rules, tests)

module _ (events : NumberSet) (stage : Stage) where
  module _ (gates : GateSet) where
    abbrev val : Node → Bool
    val node = node_true events gates node

    varying-right : (parts : List Part) → AllByRecursion (PlaceRight events stage gates) parts → AllByRecursion (PlaceRight events stage gates) (varying_parts parts)
    varying-right [] h = tt
    varying-right (part ∷ parts) h = by (not (same_node Always part.node || same_node Never part.node)) (varying-right parts h.1)
      where
        by : (b : Bool) → AllByRecursion (PlaceRight events stage gates) (varying_parts parts) → AllByRecursion (PlaceRight events stage gates) (cond b (part ∷ varying_parts parts) (varying_parts parts))
        by true rest = (h.0, rest)
        by false rest = rest

    wrapped-right : (seen : List Node) (parts : List Part) → AllByRecursion (PlaceRight events stage gates) parts → map val (wrapped stage seen parts) ≡ map val (nodes_of parts)
    wrapped-right seen [] h = refl
    wrapped-right seen (part ∷ parts) h =
        ap (λ b. b ∷ map val (wrapped stage (with_seen seen part.node) parts)) (by (has_node seen part.node))
        ∙ ap (λ bs. val part.node ∷ bs) (wrapped-right (with_seen seen part.node) parts h.1)
      where
        by : (b : Bool) → val (cond b (Gate (key_at stage part.place)) part.node) ≡ val part.node
        by true = h.0
        by false = refl

    repeats-met : (seen : List Node) (parts : List Part) → AllByRecursion (PlaceRight events stage gates) parts → AllByRecursion (IsMet events gates) (repeats stage seen parts)
    repeats-met seen [] h = tt
    repeats-met seen (part ∷ parts) h = by (has_node seen part.node) (repeats-met (with_seen seen part.node) parts h.1)
      where
        by : (b : Bool) → AllByRecursion (IsMet events gates) (repeats stage (with_seen seen part.node) parts) → AllByRecursion (IsMet events gates) (cond b (record { key = key_at stage part.place; kind = kinds.Or; inputs = part.node ∷ [] } ∷ []) [] ++ repeats stage (with_seen seen part.node) parts)
        by true rest = (h.0 ∙ or_false (val part.node), rest)
        by false rest = rest

    -- a node or a gate at a place, where the gate of that place is as true as what the rule gives
    settled-node : (place : ℕ) (join : Join) (t : Bool) → gates (key_at stage place) ≡ t → join_true events gates join ≡ t → val (node_at stage place join) ≡ t
    settled-node place (Plain node) t here is = is
    settled-node place (Made kind inputs) t here is = here

    settled-met : (place : ℕ) (join : Join) (t : Bool) → gates (key_at stage place) ≡ t → join_true events gates join ≡ t → AllByRecursion (IsMet events gates) (line_at stage place join)
    settled-met place (Plain node) t here is = tt
    settled-met place (Made kind inputs) t here is = (here ∙ sym is, tt)

    counted-met : (k place : ℕ) (parts : List Part) (join : Join) (t : Bool) → gates (key_at stage place) ≡ t → join_true events gates join ≡ t → AllByRecursion (PlaceRight events stage gates) parts → least_of k (nodes_of parts) ≡ join → AllByRecursion (IsMet events gates) (counted_lines stage place parts join)
    counted-met k place parts (Plain node) t here is right e = tt
    counted-met k place parts (Made kinds.And inputs) t here is right e = (here ∙ sym is, tt)
    counted-met k place parts (Made kinds.Or inputs) t here is right e = (here ∙ sym is, tt)
    counted-met k place parts (Made (kinds.AtLeast j) inputs) t here is right e =
        all-append (IsMet events gates) (repeats stage [] (varying_parts parts)) _ (repeats-met [] (varying_parts parts) (varying-right parts right)) (
          here ∙ sym is ∙ ap (λ ns. nat_le j (count_true (map val ns))) (counted-inputs (k - always_in (nodes_of parts)) (varying (nodes_of parts)) inputs j e ∙ sym (nodes-varying parts))
              ∙ ap (λ bs. nat_le j (count_true bs)) (sym (wrapped-right [] (varying_parts parts) (varying-right parts right))),
          tt,
        )

  module _ (look : ℕ → Node) (facts : NumberSet) where
    -- a gate or a node at a place, behind its parts
    module _ (all : Parts) (start : ℕ) (are : List Bool) (occur : NumberSet) (parts : PartsKept events stage look facts all (start + 1) are occur) where
      settle-kept : (join : Join) (own : List Line) (is : Bool) → ((gates : GateSet) → map (node_true events gates) (nodes_of all.parts) ≡ are → join_true events gates join ≡ is)
          → ((gates : GateSet) → gates (key_at stage start) ≡ is → join_true events gates join ≡ is → AllByRecursion (PlaceRight events stage gates) all.parts → AllByRecursion (IsMet events gates) own)
          → Kept events stage look facts (record { node = node_at stage start join; next = all.next; lines = all.lines ++ own }) start is occur
      settle-kept join own is keeps met =
          record {
            next = omega (arith, parts.next);
            values = values;
            first = first;
            right = λ gates agrees looks.
                let r = parts.right gates (λ place low high. agrees place (omega arith) high ∙ ap (λ b. cond b is (parts.values place)) (ne_eqb place start (λ e. omega arith))) looks in
                let here : gates (key_at stage start) ≡ is = agrees start (omega arith) (omega (arith, parts.next)) ∙ first in
                let join_is : join_true events gates join ≡ is = keeps gates r.0 in
                (settled-node gates start join is here join_is, all-append (IsMet events gates) all.lines own r.2 (met gates here join_is r.1));
          } where
            values : ℕ → Bool
            values place = cond (place == start) is (parts.values place)

            first : cond (start == start) is (parts.values start) ≡ is
            first = ap (λ b. cond b is (parts.values start)) (eq-eqb start start refl)

    leaf-kept : (node : Node) (start : ℕ) (is : Bool) (occur : NumberSet) → ((gates : GateSet) → LooksRight events gates look facts occur → node_true events gates node ≡ is) → Kept events stage look facts (record { node = node; next = start + 1; lines = [] }) start is occur
    leaf-kept node start is occur right =
        record { next = omega arith; values = λ _. is; first = refl; right = λ gates agrees looks. (right gates looks, tt) }

    abbrev KeptFrom : (ℕ → Walked) → Bool → NumberSet → Type 0
    KeptFrom walked is occur = (start : ℕ) → Kept events stage look facts (walked start) start is occur

    abbrev KeptFormula : Formula → Type 0
    KeptFormula f = KeptFrom (walk stage look f) (truth events facts f) (λ n. occurs n f)

    abbrev FormulaPart : Type 0
    FormulaPart = (f : Formula) × KeptFormula f

    abbrev formulas : List FormulaPart → List Formula
    formulas ps = map (λ p. p.0) ps

    parts-kept : (ps : List FormulaPart) (start : ℕ) → PartsKept events stage look facts (parts_of (map (walk stage look) (formulas ps)) start) start (map (truth events facts) (formulas ps)) (λ n. list_any (λ b. b) (map (occurs n) (formulas ps)))
    parts-kept [] start = record { next = omega arith; values = λ _. false; right = λ gates agrees looks. (refl, tt, tt) }
    parts-kept (p ∷ ps) start = with (p.1 start) (parts-kept ps (walk stage look p.0 start).next)
      where
        with : Kept events stage look facts (walk stage look p.0 start) start (truth events facts p.0) (λ n. occurs n p.0)
            → PartsKept events stage look facts (parts_of (map (walk stage look) (formulas ps)) (walk stage look p.0 start).next) (walk stage look p.0 start).next (map (truth events facts) (formulas ps)) (λ n. list_any (λ b. b) (map (occurs n) (formulas ps)))
            → PartsKept events stage look facts (parts_of (map (walk stage look) (formulas (p ∷ ps))) start) start (map (truth events facts) (formulas (p ∷ ps))) (λ n. list_any (λ b. b) (map (occurs n) (formulas (p ∷ ps))))
        with one rest =
            record {
              next = omega (arith, one.next, rest.next);
              values = λ place. cond (nat_lt place (walk stage look p.0 start).next) (one.values place) (rest.values place);
              right = λ gates agrees looks.
                  let a = one.right gates (λ place low high. agrees place low (omega (arith, rest.next)) ∙ ap (λ b. cond b (one.values place) (rest.values place)) (below place (walk stage look p.0 start).next high)) (λ n o. looks n (or_left (occurs n p.0) _ o)) in
                  let b = rest.right gates (λ place low high. agrees place (omega (arith, one.next)) high ∙ ap (λ b. cond b (one.values place) (rest.values place)) (not_below place (walk stage look p.0 start).next low)) (λ n o. looks n (or_right (occurs n p.0) _ o)) in
                  let here : gates (key_at stage start) ≡ truth events facts p.0 = agrees start (omega arith) (omega (arith, one.next, rest.next)) ∙ ap (λ b. cond b (one.values start) (rest.values start)) (below start (walk stage look p.0 start).next one.next) ∙ one.first in
                  ((λ i. a.0 i ∷ b.0 i), (here ∙ sym a.0, b.1), all-append (IsMet events gates) (walk stage look p.0 start).lines _ a.1 b.2);
            }

    abbrev Layer : Formula-F Formula → Type 0
    Layer x = KeptFrom (walk_step stage look (map-Formula Formula (ℕ → Walked) (walk stage look) x)) (truth_step events facts (map-Formula Formula Bool (truth events facts) x)) (λ n. occurs_step n (map-Formula Formula Bool (occurs n) x))

    layer : (y : Formula-F FormulaPart) → Layer (map-Formula FormulaPart Formula (λ p. p.0) y)
    layer True start = leaf-kept Always start true (λ n. false) (λ gates looks. refl)
    layer (Event n) start = leaf-kept (Basic n) start (events n) (λ m. false) (λ gates looks. refl)
    layer (Fact n) start = leaf-kept (look n) start (facts n) (λ m. n == m) (λ gates looks. looks n (eq-eqb n n refl))
    layer (And ps) start =
        settle-kept _ start _ _ (parts-kept ps (start + 1)) (all_of (nodes_of (parts_of (map (walk stage look) (formulas ps)) (start + 1)).parts)) _ (list_all (λ b. b) (map (truth events facts) (formulas ps)))
        (λ gates are. all_of-keeps events gates (nodes_of (parts_of (map (walk stage look) (formulas ps)) (start + 1)).parts) ∙ ap (list_all (λ b. b)) are)
        (λ gates here is right. settled-met gates start _ _ here is)
    layer (Or ps) start =
        settle-kept _ start _ _ (parts-kept ps (start + 1)) (any_of (nodes_of (parts_of (map (walk stage look) (formulas ps)) (start + 1)).parts)) _ (list_any (λ b. b) (map (truth events facts) (formulas ps)))
        (λ gates are. any_of-keeps events gates (nodes_of (parts_of (map (walk stage look) (formulas ps)) (start + 1)).parts) ∙ ap (list_any (λ b. b)) are)
        (λ gates here is right. settled-met gates start _ _ here is)
    layer (AtLeast k ps) start =
        settle-kept _ start _ _ (parts-kept ps (start + 1)) (least_of k (nodes_of (parts_of (map (walk stage look) (formulas ps)) (start + 1)).parts)) _ (nat_le k (count_true (map (truth events facts) (formulas ps))))
        (λ gates are. least_of-keeps events gates k (nodes_of (parts_of (map (walk stage look) (formulas ps)) (start + 1)).parts) ∙ ap (λ bs. nat_le k (count_true bs)) are)
        (λ gates here is right. counted-met gates k start _ _ _ here is right refl)

    rolled : (x : Formula-F Formula) → Layer x → KeptFormula (roll-Formula x)
    rolled x kept =
        subst (λ (walked : ℕ → Walked). KeptFrom walked (truth events facts (roll-Formula x)) (λ n. occurs n (roll-Formula x))) (sym (fold-roll-Formula (ℕ → Walked) (walk_step stage look) x))
        (subst (λ (is : Bool). KeptFrom (walk_step stage look (map-Formula Formula (ℕ → Walked) (walk stage look) x)) is (λ n. occurs n (roll-Formula x))) (sym (fold-roll-Formula Bool (truth_step events facts) x))
        (subst (λ (occur : NumberSet). KeptFrom (walk_step stage look (map-Formula Formula (ℕ → Walked) (walk stage look) x)) (truth_step events facts (map-Formula Formula Bool (truth events facts) x)) occur) (λ i n. sym (fold-roll-Formula Bool (occurs_step n) x) i) kept))

    -- the walk of a formula keeps its truth
    pub walk-kept : (f : Formula) (start : ℕ) → Kept events stage look facts (walk stage look f start) start (truth events facts f) (λ n. occurs n f)
    walk-kept = ind-Formula KeptFormula (λ x y is. rolled x (subst Layer is (layer y)))
