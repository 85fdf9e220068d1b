-- No gate has an input twice.
use Rattle.std.proofs.Common.{ℕ, ◌+◌, ◌-◌, ◌≡◌, ◌≢◌, ◌<◌, ◌≤◌, Bool, true, false, cond, not, ◌||◌, ◌==◌, nat_lt, List, [], ◌∷◌, ◌++◌, map, length, ap, ◌∙◌, sym, subst, refl, arith}
use Rattle.std.proofs.lemmas.Bool.{false≢true}
use Rattle.std.specs.List.{AllByRecursion}
use Rattle.fault_system.specs.declared.formula.Formula.{Formula, map-Formula, roll-Formula, fold-roll-Formula, ind-Formula}
use Rattle.fault_system.specs.declared.formula.Formula.TheOpen.{Formula-F, True, Event, Fact, And, Or, AtLeast}
use Rattle.round_gates.specs.declared.node.GateKey.{GateKey}
use Rattle.round_gates.specs.declared.node.GateKind.{GateKind}
use Rattle.round_gates.specs.declared.node.GateKind.TheVariants as kinds
use Rattle.round_gates.specs.declared.node.Join.{Join}
use Rattle.round_gates.specs.declared.node.Join.TheVariants.{Plain, Made}
use Rattle.round_gates.specs.declared.node.Line.{Line}
use Rattle.round_gates.specs.declared.node.Node.{Node}
use Rattle.round_gates.specs.declared.node.Node.TheVariants.{Always, Never, Basic, Gate}
use Rattle.round_gates.specs.declared.node.Part.{Part}
use Rattle.round_gates.specs.declared.node.Stage.{Stage}
use Rattle.round_gates.specs.Nodes.{same_node, has_node, without, new_ones, each_once, gathered, all_of, any_of, always_in, varying, least_left, least_of}
use Rattle.round_gates.specs.Walks.{Walked, Parts, key_at, parts_of, nodes_of, varying_parts, node_at, line_at, with_seen, wrapped, repeats, counted_lines, walk, walk_step}
use Rattle.round_gates.proofs.Basics.{all-append, all-map, node_same, or_left}

-- the nodes of a list differ
abbrev pub NodesOnce : List Node → Type 0
NodesOnce [] = Unit {0}
NodesOnce (x ∷ xs) = AllByRecursion (λ y. x ≢ y) xs × NodesOnce xs

abbrev pub LineOnce : Line → Type 0
LineOnce line = NodesOnce line.inputs

-- a node that is not seen differs from all that are
not-seen : (seen : List Node) (node : Node) → has_node seen node ≡ false → AllByRecursion (λ s. s ≢ node) seen
not-seen [] node e = tt
not-seen (s ∷ seen) node e = (
  (λ same. false≢true (sym e ∙ or_left (same_node node s) _ (ap (same_node node) same ∙ node_same node))),
  not-seen seen node (tail (same_node node s) (has_node seen node) e),
)
  where
    tail : (b c : Bool) → b || c ≡ false → c ≡ false
    tail true c h = absurd (false≢true (sym h))
    tail false c h = h

all-front : {X : Type 0} (P : X → Type 0) (xs ys : List X) → AllByRecursion P (xs ++ ys) → AllByRecursion P xs
all-front P [] ys h = tt
all-front P (x ∷ xs) ys h = (h.0, all-front P xs ys h.1)

all-last : {X : Type 0} (P : X → Type 0) (xs : List X) (y : X) → AllByRecursion P (xs ++ y ∷ []) → P y
all-last P [] y h = h.0
all-last P (x ∷ xs) y h = all-last P xs y h.1

-- none of the seen nodes is this one
abbrev Fresh : List Node → Node → Type 0
Fresh seen y = AllByRecursion (λ s. s ≢ y) seen

new-once : (seen nodes : List Node) → NodesOnce (new_ones seen nodes) × AllByRecursion (Fresh seen) (new_ones seen nodes)
new-once seen [] = (tt, tt)
new-once seen (node ∷ nodes) = by (has_node seen node) refl (new-once seen nodes) (new-once (seen ++ node ∷ []) nodes)
  where
    by : (b : Bool) → has_node seen node ≡ b → NodesOnce (new_ones seen nodes) × AllByRecursion (Fresh seen) (new_ones seen nodes)
        → NodesOnce (new_ones (seen ++ node ∷ []) nodes) × AllByRecursion (Fresh (seen ++ node ∷ [])) (new_ones (seen ++ node ∷ []) nodes)
        → NodesOnce (cond b (new_ones seen nodes) (node ∷ new_ones (seen ++ node ∷ []) nodes)) × AllByRecursion (Fresh seen) (cond b (new_ones seen nodes) (node ∷ new_ones (seen ++ node ∷ []) nodes))
    by true is same more = same
    by false is same more = (
      (all-map (Fresh (seen ++ node ∷ [])) (λ y. node ≢ y) (λ y f. all-last (λ s. s ≢ y) seen node f) _ more.1, more.0),
      (not-seen seen node is, all-map (Fresh (seen ++ node ∷ [])) (Fresh seen) (λ y f. all-front (λ s. s ≢ y) seen (node ∷ []) f) _ more.1),
    )

-- no rule but that of a count makes a gate that counts
gathered_no : (kind : GateKind) (none : Node) (nodes : List Node) (k : ℕ) (inputs : List Node) → (kind ≡ kinds.AtLeast k → ⊥) → gathered kind none nodes ≡ Made (kinds.AtLeast k) inputs → ⊥
gathered_no kind none [] k inputs other e = cc
gathered_no kind none (x ∷ []) k inputs other e = cc
gathered_no kind none (x ∷ y ∷ nodes) k inputs other e = other (kind_of kind k (x ∷ y ∷ nodes) inputs e)
  where
    kind_of : (a : GateKind) (j : ℕ) (ns ms : List Node) → Made a ns ≡ Made (kinds.AtLeast j) ms → a ≡ kinds.AtLeast j
    kind_of a j ns ms h = cc

all_no : (nodes : List Node) (k : ℕ) (inputs : List Node) → all_of nodes ≡ Made (kinds.AtLeast k) inputs → ⊥
all_no nodes k inputs = by (has_node nodes Never)
  where
    by : (b : Bool) → cond b (Plain Never) (gathered kinds.And Always (each_once (without Always nodes))) ≡ Made (kinds.AtLeast k) inputs → ⊥
    by true e = cc
    by false e = gathered_no kinds.And Always (each_once (without Always nodes)) k inputs (λ h. cc) e

any_no : (nodes : List Node) (k : ℕ) (inputs : List Node) → any_of nodes ≡ Made (kinds.AtLeast k) inputs → ⊥
any_no nodes k inputs = by (has_node nodes Always)
  where
    by : (b : Bool) → cond b (Plain Always) (gathered kinds.Or Never (each_once (without Never nodes))) ≡ Made (kinds.AtLeast k) inputs → ⊥
    by true e = cc
    by false e = gathered_no kinds.Or Never (each_once (without Never nodes)) k inputs (λ h. cc) e

-- what a rule makes a gate of differs, but for a count
abbrev JoinOnce : Join → Type 0
JoinOnce (Plain node) = Unit {0}
JoinOnce (Made kinds.And inputs) = NodesOnce inputs
JoinOnce (Made kinds.Or inputs) = NodesOnce inputs
JoinOnce (Made (kinds.AtLeast k) inputs) = Unit {0}

and-once : (nodes : List Node) → NodesOnce nodes → JoinOnce (gathered kinds.And Always nodes)
and-once [] h = tt
and-once (x ∷ []) h = tt
and-once (x ∷ y ∷ nodes) h = h

or-once : (nodes : List Node) → NodesOnce nodes → JoinOnce (gathered kinds.Or Never nodes)
or-once [] h = tt
or-once (x ∷ []) h = tt
or-once (x ∷ y ∷ nodes) h = h

all_of-once : (nodes : List Node) → JoinOnce (all_of nodes)
all_of-once nodes = by (has_node nodes Never)
  where
    by : (b : Bool) → JoinOnce (cond b (Plain Never) (gathered kinds.And Always (each_once (without Always nodes))))
    by true = tt
    by false = and-once (each_once (without Always nodes)) (new-once [] (without Always nodes)).0

any_of-once : (nodes : List Node) → JoinOnce (any_of nodes)
any_of-once nodes = by (has_node nodes Always)
  where
    by : (b : Bool) → JoinOnce (cond b (Plain Always) (gathered kinds.Or Never (each_once (without Never nodes))))
    by true = tt
    by false = or-once (each_once (without Never nodes)) (new-once [] (without Never nodes)).0

least_left-once : (k : ℕ) (nodes : List Node) → JoinOnce (least_left k nodes)
least_left-once k nodes = none (k == 0)
  where
    every : (b : Bool) → JoinOnce (cond b (all_of nodes) (Made (kinds.AtLeast k) nodes))
    every true = all_of-once nodes
    every false = tt

    one : (b : Bool) → JoinOnce (cond b (any_of nodes) (cond (k == length nodes) (all_of nodes) (Made (kinds.AtLeast k) nodes)))
    one true = any_of-once nodes
    one false = every (k == length nodes)

    few : (b : Bool) → JoinOnce (cond b (Plain Never) (cond (k == 1) (any_of nodes) (cond (k == length nodes) (all_of nodes) (Made (kinds.AtLeast k) nodes))))
    few true = tt
    few false = one (k == 1)

    none : (b : Bool) → JoinOnce (cond b (Plain Always) (cond (nat_lt (length nodes) k) (Plain Never) (cond (k == 1) (any_of nodes) (cond (k == length nodes) (all_of nodes) (Made (kinds.AtLeast k) nodes)))))
    none true = tt
    none false = few (nat_lt (length nodes) k)

-- what holds of constants and of the nodes of the parts holds of the node that a rule gives
abbrev pub NodeHas : (Node → Type 0) → Join → Type 0
NodeHas P (Plain node) = P node
NodeHas P (Made kind inputs) = Unit {0}

module _ (P : Node → Type 0) (always : P Always) (never : P Never) where
  abbrev pub JoinHas : Join → Type 0
  JoinHas = NodeHas P

  without-has : (c : Node) (nodes : List Node) → AllByRecursion P nodes → AllByRecursion P (without c nodes)
  without-has c [] h = tt
  without-has c (n ∷ nodes) h = by (not (same_node c n)) (without-has c nodes h.1)
    where
      by : (b : Bool) → AllByRecursion P (without c nodes) → AllByRecursion P (cond b (n ∷ without c nodes) (without c nodes))
      by true rest = (h.0, rest)
      by false rest = rest

  new-has : (seen nodes : List Node) → AllByRecursion P nodes → AllByRecursion P (new_ones seen nodes)
  new-has seen [] h = tt
  new-has seen (n ∷ nodes) h = by (has_node seen n) (new-has seen nodes h.1) (new-has (seen ++ n ∷ []) nodes h.1)
    where
      by : (b : Bool) → AllByRecursion P (new_ones seen nodes) → AllByRecursion P (new_ones (seen ++ n ∷ []) nodes) → AllByRecursion P (cond b (new_ones seen nodes) (n ∷ new_ones (seen ++ n ∷ []) nodes))
      by true a b = a
      by false a b = (h.0, b)

  gathered-has : (kind : GateKind) (none : Node) (nodes : List Node) → P none → AllByRecursion P nodes → JoinHas (gathered kind none nodes)
  gathered-has kind none [] n h = n
  gathered-has kind none (x ∷ []) n h = h.0
  gathered-has kind none (x ∷ y ∷ nodes) n h = tt

  pub all_of-has : (nodes : List Node) → AllByRecursion P nodes → JoinHas (all_of nodes)
  all_of-has nodes h = by (has_node nodes Never)
    where
      by : (b : Bool) → JoinHas (cond b (Plain Never) (gathered kinds.And Always (each_once (without Always nodes))))
      by true = never
      by false = gathered-has kinds.And Always _ always (new-has [] _ (without-has Always nodes h))

  pub any_of-has : (nodes : List Node) → AllByRecursion P nodes → JoinHas (any_of nodes)
  any_of-has nodes h = by (has_node nodes Always)
    where
      by : (b : Bool) → JoinHas (cond b (Plain Always) (gathered kinds.Or Never (each_once (without Never nodes))))
      by true = always
      by false = gathered-has kinds.Or Never _ never (new-has [] _ (without-has Never nodes h))

  least_left-has : (k : ℕ) (nodes : List Node) → AllByRecursion P nodes → JoinHas (least_left k nodes)
  least_left-has k nodes h = none (k == 0)
    where
      every : (b : Bool) → JoinHas (cond b (all_of nodes) (Made (kinds.AtLeast k) nodes))
      every true = all_of-has nodes h
      every false = tt

      one : (b : Bool) → JoinHas (cond b (any_of nodes) (cond (k == length nodes) (all_of nodes) (Made (kinds.AtLeast k) nodes)))
      one true = any_of-has nodes h
      one false = every (k == length nodes)

      few : (b : Bool) → JoinHas (cond b (Plain Never) (cond (k == 1) (any_of nodes) (cond (k == length nodes) (all_of nodes) (Made (kinds.AtLeast k) nodes))))
      few true = never
      few false = one (k == 1)

      none : (b : Bool) → JoinHas (cond b (Plain Always) (cond (nat_lt (length nodes) k) (Plain Never) (cond (k == 1) (any_of nodes) (cond (k == length nodes) (all_of nodes) (Made (kinds.AtLeast k) nodes)))))
      none true = always
      none false = few (nat_lt (length nodes) k)

  pub least_of-has : (k : ℕ) (nodes : List Node) → AllByRecursion P nodes → JoinHas (least_of k nodes)
  least_of-has k nodes h = least_left-has (k - always_in nodes) (varying nodes) (without-has Never _ (without-has Always nodes h))

module _ (stage : Stage) where
  -- where the node is a gate of this stage, its place is in a range
  abbrev pub From : ℕ → ℕ → Node → Type 0
  From low high node = (p : ℕ) → node ≡ Gate (key_at stage p) → (low ≤ p) × (p < high)

  pub from-wider : (low high low' high' : ℕ) (node : Node) → low' ≤ low → high ≤ high' → From low high node → From low' high' node
  from-wider low high low' high' node l h from p e = let r = from p e in (omega (arith, r.0), omega (arith, r.1))

  pub place-same : (p q : ℕ) → Gate (key_at stage p) ≡ Gate (key_at stage q) → p ≡ q
  place-same p q e = ap (λ (k : GateKey). k.place) (inner (key_at stage p) (key_at stage q) e)
    where
      inner : (a b : GateKey) → Gate a ≡ Gate b → a ≡ b
      inner a b h = cc

  -- parts one after another, each node from its own range
  abbrev pub PartsFrom : ℕ → ℕ → List Part → Type 0
  PartsFrom low high [] = low ≤ high
  PartsFrom low high (part ∷ parts) = (low ≤ part.place) × ((mid : ℕ) × ((part.place < mid) × From part.place mid part.node × PartsFrom mid high parts))

  pub parts-lower : (low low' high : ℕ) (parts : List Part) → low' ≤ low → PartsFrom low high parts → PartsFrom low' high parts
  parts-lower low low' high [] l h = omega (arith, h)
  parts-lower low low' high (part ∷ parts) l h = (omega (arith, h.0), h.1)

  pub parts-below : (low high : ℕ) (parts : List Part) → PartsFrom low high parts → low ≤ high
  parts-below low high [] h = h
  parts-below low high (part ∷ parts) h = let rest = parts-below h.1.0 high parts h.1.1.2 in omega (arith, h.0, h.1.1.0)

  pub parts-nodes : (low high : ℕ) (parts : List Part) → PartsFrom low high parts → AllByRecursion (From low high) (nodes_of parts)
  parts-nodes low high [] h = tt
  parts-nodes low high (part ∷ parts) h =
      let mid = h.1.0 in
      let rest = parts-below mid high parts h.1.1.2 in (
        from-wider part.place mid low high part.node h.0 rest h.1.1.1,
        all-map (From mid high) (From low high) (λ node f. from-wider mid high low high node (omega (arith, h.0, h.1.1.0)) (omega arith) f) (nodes_of parts) (parts-nodes mid high parts h.1.1.2),
      )

  pub varying-from : (low high : ℕ) (parts : List Part) → PartsFrom low high parts → PartsFrom low high (varying_parts parts)
  varying-from low high [] h = h
  varying-from low high (part ∷ parts) h = by (not (same_node Always part.node || same_node Never part.node)) (varying-from h.1.0 high parts h.1.1.2)
    where
      by : (b : Bool) → PartsFrom h.1.0 high (varying_parts parts) → PartsFrom low high (cond b (part ∷ varying_parts parts) (varying_parts parts))
      by true rest = (h.0, (h.1.0, (h.1.1.0, h.1.1.1, rest)))
      by false rest = parts-lower h.1.0 low high (varying_parts parts) (omega (arith, h.0, h.1.1.0)) rest

  -- no gate of this stage from a place on; none below it
  abbrev pub Before : ℕ → Node → Type 0
  Before low node = (p : ℕ) → low ≤ p → node ≡ Gate (key_at stage p) → ⊥

  abbrev After : ℕ → Node → Type 0
  After low node = (p : ℕ) → p < low → node ≡ Gate (key_at stage p) → ⊥

  wrapped-once : (low high : ℕ) (seen : List Node) (parts : List Part) → AllByRecursion (Before low) seen → PartsFrom low high parts
      → NodesOnce (wrapped stage seen parts) × AllByRecursion (Fresh seen) (wrapped stage seen parts) × AllByRecursion (After low) (wrapped stage seen parts)
  wrapped-once low high seen [] before from = (tt, tt, tt)
  wrapped-once low high seen (part ∷ parts) before from =
      by (has_node seen part.node) refl
      (wrapped-once mid high seen parts (all-map (Before low) (Before mid) (λ s f p l. f p (omega (arith, from.0, from.1.1.0))) seen before) from.1.1.2)
      (wrapped-once mid high (seen ++ part.node ∷ []) parts
      (all-append (Before mid) seen (part.node ∷ []) (all-map (Before low) (Before mid) (λ s f p l. f p (omega (arith, from.0, from.1.1.0))) seen before)
      ((λ p l e. let r = from.1.1.1 p e in omega (arith, r.1)), tt))
      from.1.1.2)
    where
      mid : ℕ
      mid = from.1.0

      by : (b : Bool) → has_node seen part.node ≡ b
          → NodesOnce (wrapped stage seen parts) × AllByRecursion (Fresh seen) (wrapped stage seen parts) × AllByRecursion (After from.1.0) (wrapped stage seen parts)
          → NodesOnce (wrapped stage (seen ++ part.node ∷ []) parts) × AllByRecursion (Fresh (seen ++ part.node ∷ [])) (wrapped stage (seen ++ part.node ∷ []) parts) × AllByRecursion (After from.1.0) (wrapped stage (seen ++ part.node ∷ []) parts)
          → NodesOnce (cond b (Gate (key_at stage part.place)) part.node ∷ wrapped stage (cond b seen (seen ++ part.node ∷ [])) parts)
          × AllByRecursion (Fresh seen) (cond b (Gate (key_at stage part.place)) part.node ∷ wrapped stage (cond b seen (seen ++ part.node ∷ [])) parts)
          × AllByRecursion (After low) (cond b (Gate (key_at stage part.place)) part.node ∷ wrapped stage (cond b seen (seen ++ part.node ∷ [])) parts)
      by true is same more = (
        (all-map (After from.1.0) (λ y. Gate (key_at stage part.place) ≢ y) (λ y f e. f part.place from.1.1.0 (sym e)) _ same.2, same.0),
        (all-map (Before low) (λ s. s ≢ Gate (key_at stage part.place)) (λ s f e. f part.place from.0 e) seen before, same.1),
        (
          (λ p l e. let q = place-same part.place p e in omega (arith, from.0)),
          all-map (After from.1.0) (After low) (λ y f p l. f p (omega (arith, from.0, from.1.1.0))) _ same.2,
        ),
      )
      by false is same more = (
        (all-map (Fresh (seen ++ part.node ∷ [])) (λ y. part.node ≢ y) (λ y f. all-last (λ s. s ≢ y) seen part.node f) _ more.1, more.0),
        (not-seen seen part.node is, all-map (Fresh (seen ++ part.node ∷ [])) (Fresh seen) (λ y f. all-front (λ s. s ≢ y) seen (part.node ∷ []) f) _ more.1),
        (
          (λ p l e. let r = from.1.1.1 p e in omega (arith, r.0, from.0)),
          all-map (After from.1.0) (After low) (λ y f p l. f p (omega (arith, from.0, from.1.1.0))) _ more.2,
        ),
      )

  repeats-once : (seen : List Node) (parts : List Part) → AllByRecursion LineOnce (repeats stage seen parts)
  repeats-once seen [] = tt
  repeats-once seen (part ∷ parts) = by (has_node seen part.node) (repeats-once (with_seen seen part.node) parts)
    where
      by : (b : Bool) → AllByRecursion LineOnce (repeats stage (with_seen seen part.node) parts) → AllByRecursion LineOnce (cond b (record { key = key_at stage part.place; kind = kinds.Or; inputs = part.node ∷ [] } ∷ []) [] ++ repeats stage (with_seen seen part.node) parts)
      by true rest = ((tt, tt), rest)
      by false rest = rest

  line-once : (place : ℕ) (join : Join) → ((k : ℕ) (inputs : List Node) → join ≡ Made (kinds.AtLeast k) inputs → ⊥) → JoinOnce join → AllByRecursion LineOnce (line_at stage place join)
  line-once place (Plain node) other h = tt
  line-once place (Made kinds.And inputs) other h = (h, tt)
  line-once place (Made kinds.Or inputs) other h = (h, tt)
  line-once place (Made (kinds.AtLeast k) inputs) other h = absurd (other k inputs refl)

  counted-once : (place low high : ℕ) (parts : List Part) (join : Join) → PartsFrom low high parts → JoinOnce join → AllByRecursion LineOnce (counted_lines stage place parts join)
  counted-once place low high parts (Plain node) from h = tt
  counted-once place low high parts (Made kinds.And inputs) from h = (h, tt)
  counted-once place low high parts (Made kinds.Or inputs) from h = (h, tt)
  counted-once place low high parts (Made (kinds.AtLeast k) inputs) from h =
      all-append LineOnce (repeats stage [] (varying_parts parts)) _ (repeats-once [] (varying_parts parts))
      ((wrapped-once low high [] (varying_parts parts) tt (varying-from low high parts from)).0, tt)

  -- what a walk from a place on gives: its gates have no input twice, and its node is no gate of this stage from elsewhere
  record OnceFrom (walked : Walked) (start : ℕ) : Type 0 where
    next : start < walked.next
    node : From start walked.next walked.node
    lines : AllByRecursion LineOnce walked.lines

  record PartsOnce (all : Parts) (start : ℕ) : Type 0 where
    parts : PartsFrom start all.next all.parts
    lines : AllByRecursion LineOnce all.lines

  module _ (look : ℕ → Node) (foreign : (n p : ℕ) → look n ≡ Gate (key_at stage p) → ⊥) where
    abbrev OnceFormula : Formula → Type 0
    OnceFormula f = (start : ℕ) → OnceFrom (walk stage look f start) start

    abbrev OncePart : Type 0
    OncePart = (f : Formula) × OnceFormula f

    abbrev formulas : List OncePart → List Formula
    formulas ps = map (λ p. p.0) ps

    abbrev all_parts : List OncePart → ℕ → Parts
    all_parts ps start = parts_of (map (walk stage look) (formulas ps)) start

    parts-once : (ps : List OncePart) (start : ℕ) → PartsOnce (all_parts ps start) start
    parts-once [] start = record { parts = omega arith; lines = tt }
    parts-once (p ∷ ps) start =
        let one = p.1 start in
        let rest = parts-once ps (walk stage look p.0 start).next in
        record {
          parts = (omega arith, ((walk stage look p.0 start).next, (one.next, one.node, rest.parts)));
          lines = all-append LineOnce (walk stage look p.0 start).lines _ one.lines rest.lines;
        }

    -- a gate or a node at a place, behind its parts
    settled : (all : Parts) (start : ℕ) (join : Join) (own : List Line) → PartsOnce all (start + 1) → NodeHas (From (start + 1) all.next) join → AllByRecursion LineOnce own
        → OnceFrom (record { node = node_at stage start join; next = all.next; lines = all.lines ++ own }) start
    settled all start join own parts has once =
        let far = parts-below (start + 1) all.next all.parts parts.parts in
        record {
          next = omega (arith, far);
          node = node join has far;
          lines = all-append LineOnce all.lines own parts.lines once;
        } where
          node : (j : Join) → NodeHas (From (start + 1) all.next) j → start + 1 ≤ all.next → From start all.next (node_at stage start j)
          node (Plain n) h far = from-wider (start + 1) all.next start all.next n (omega arith) (omega arith) h
          node (Made kind inputs) h far = λ p e. let same = place-same start p e in (omega arith, omega (arith, far))

    leaf : (n : Node) (start : ℕ) → ((p : ℕ) → n ≡ Gate (key_at stage p) → ⊥) → OnceFrom (record { node = n; next = start + 1; lines = [] }) start
    leaf n start none = record { next = omega arith; node = λ p e. absurd (none p e); lines = tt }

    abbrev Layer : Formula-F Formula → Type 0
    Layer x = (start : ℕ) → OnceFrom (walk_step stage look (map-Formula Formula (ℕ → Walked) (walk stage look) x) start) start

    layer : (y : Formula-F OncePart) → Layer (map-Formula OncePart Formula (λ p. p.0) y)
    layer True start = leaf Always start (λ p e. cc)
    layer (Event n) start = leaf (Basic n) start (λ p e. cc)
    layer (Fact n) start = leaf (look n) start (foreign n)
    layer (And ps) start =
        let parts = parts-once ps (start + 1) in
        let all = all_parts ps (start + 1) in
        let join = all_of (nodes_of all.parts) in
        settled all start join (line_at stage start join) parts
        (all_of-has (From (start + 1) all.next) (λ p e. cc) (λ p e. cc) (nodes_of all.parts) (parts-nodes (start + 1) all.next all.parts parts.parts))
        (line-once start join (all_no (nodes_of all.parts)) (all_of-once (nodes_of all.parts)))
    layer (Or ps) start =
        let parts = parts-once ps (start + 1) in
        let all = all_parts ps (start + 1) in
        let join = any_of (nodes_of all.parts) in
        settled all start join (line_at stage start join) parts
        (any_of-has (From (start + 1) all.next) (λ p e. cc) (λ p e. cc) (nodes_of all.parts) (parts-nodes (start + 1) all.next all.parts parts.parts))
        (line-once start join (any_no (nodes_of all.parts)) (any_of-once (nodes_of all.parts)))
    layer (AtLeast k ps) start =
        let parts = parts-once ps (start + 1) in
        let all = all_parts ps (start + 1) in
        let join = least_of k (nodes_of all.parts) in
        settled all start join (counted_lines stage start all.parts join) parts
        (least_of-has (From (start + 1) all.next) (λ p e. cc) (λ p e. cc) k (nodes_of all.parts) (parts-nodes (start + 1) all.next all.parts parts.parts))
        (counted-once start (start + 1) all.next all.parts join parts.parts (least_left-once (k - always_in (nodes_of all.parts)) (varying (nodes_of all.parts))))

    rolled : (x : Formula-F Formula) → Layer x → OnceFormula (roll-Formula x)
    rolled x once start = subst (λ (walked : ℕ → Walked). OnceFrom (walked start) start) (sym (fold-roll-Formula (ℕ → Walked) (walk_step stage look) x)) (once start)

    -- the gates of a formula have no input twice, where no fact stands for a gate of this stage
    pub walk-once : (f : Formula) (start : ℕ) → AllByRecursion LineOnce (walk stage look f start).lines
    walk-once f start = (all f start).lines
      where
        all : (g : Formula) → OnceFormula g
        all = ind-Formula OnceFormula (λ x y is. rolled x (subst Layer is (layer y)))
