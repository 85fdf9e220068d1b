-- The gates of a walk stand in order, each behind those that it names.
use Rattle.std.proofs.Common.{ℕ, ◌+◌, ◌-◌, ◌≡◌, Bool, true, false, cond, not, ◌||◌, ◌==◌, nat_lt, List, [], ◌∷◌, ◌++◌, map, length, sym, subst, refl, append_assoc, append-nil}
use Rattle.std.proofs.lemmas.Bool.{false≢true, ltb-true, and_parts}
use Rattle.std.specs.List.{list_all, AllByRecursion}
use Rattle.fault_system.specs.Truth.{in_range, in_range_step}
use Rattle.fault_system.specs.declared.formula.Formula.{Formula, map-Formula, roll-Formula, fold-roll-Formula, ind-Formula}
use Rattle.fault_system.specs.declared.formula.Formula.TheOpen.{Formula-F, True, Event, Fact, And, Or, AtLeast}
use Rattle.round_gates.specs.declared.node.GateKey.{GateKey}
use Rattle.round_gates.specs.declared.node.GateKind.{GateKind}
use Rattle.round_gates.specs.declared.node.GateKind.TheVariants as kinds
use Rattle.round_gates.specs.declared.node.Join.{Join}
use Rattle.round_gates.specs.declared.node.Join.TheVariants.{Plain, Made}
use Rattle.round_gates.specs.declared.node.Line.{Line}
use Rattle.round_gates.specs.declared.node.Node.{Node}
use Rattle.round_gates.specs.declared.node.Node.TheVariants.{Always, Never, Basic, Gate}
use Rattle.round_gates.specs.declared.node.Part.{Part}
use Rattle.round_gates.specs.declared.node.Stage.{Stage}
use Rattle.round_gates.specs.Nodes.{same_node, has_node, without, new_ones, each_once, gathered, all_of, any_of, always_in, varying, least_left, least_of}
use Rattle.round_gates.specs.Walks.{Walked, Parts, key_at, parts_of, nodes_of, varying_parts, node_at, line_at, with_seen, repeat_of, wrapped, repeats, counted_lines, walk, walk_step}
use Rattle.round_gates.specs.inner.Lines.{is_named, has_line, IsKnown, IsInput, InOrder}
use Rattle.round_gates.proofs.Basics.{or_left, or_right, key_same}

-- what a list of gates has, a longer one has
pub has_front : (lines more : List Line) (key : GateKey) → has_line lines key ≡ true → has_line (lines ++ more) key ≡ true
has_front [] more key e = absurd (false≢true e)
has_front (line ∷ lines) more key e = by (is_named key line) e (has_front lines more key)
  where
    by : (b : Bool) → b || has_line lines key ≡ true → (has_line lines key ≡ true → has_line (lines ++ more) key ≡ true) → b || has_line (lines ++ more) key ≡ true
    by true h rest = refl
    by false h rest = rest h

pub has_back : (lines more : List Line) (key : GateKey) → has_line more key ≡ true → has_line (lines ++ more) key ≡ true
has_back [] more key e = e
has_back (line ∷ lines) more key e = or_right (is_named key line) _ (has_back lines more key e)

module _ (events : ℕ) where
  pub known-more : (lines more : List Line) (node : Node) → IsKnown events lines node → IsKnown events (lines ++ more) node
  known-more lines more Always h = tt
  known-more lines more Never h = tt
  known-more lines more (Basic n) h = h
  known-more lines more (Gate key) h = has_front lines more key h

  pub input-more : (lines more : List Line) (node : Node) → IsInput events lines node → IsInput events (lines ++ more) node
  input-more lines more Always h = h
  input-more lines more Never h = h
  input-more lines more (Basic n) h = h
  input-more lines more (Gate key) h = has_front lines more key h

  pub all-known-more : (lines more : List Line) (nodes : List Node) → AllByRecursion (IsKnown events lines) nodes → AllByRecursion (IsKnown events (lines ++ more)) nodes
  all-known-more lines more [] h = tt
  all-known-more lines more (node ∷ nodes) h = (known-more lines more node h.0, all-known-more lines more nodes h.1)

  pub order-append : (before xs ys : List Line) → InOrder events before xs → InOrder events (before ++ xs) ys → InOrder events before (xs ++ ys)
  order-append before [] ys a b = subst (λ (front : List Line). InOrder events front ys) (append-nil before) b
  order-append before (x ∷ xs) ys a b =
      (a.0, order-append (before ++ x ∷ []) xs ys a.1 (subst (λ (front : List Line). InOrder events front ys) (sym (append_assoc before (x ∷ []) xs)) b))

  module _ (lines : List Line) where
    abbrev Known : Node → Type 0
    Known node = IsKnown events lines node

    abbrev Input : Node → Type 0
    Input node = IsInput events lines node

    -- a node that a rule gives is known, or a gate that it makes has proper inputs
    abbrev JoinKnown : Join → Type 0
    JoinKnown (Plain node) = Known node
    JoinKnown (Made kind inputs) = AllByRecursion Input inputs

    all-new : (P : Node → Type 0) (seen nodes : List Node) → AllByRecursion P nodes → AllByRecursion P (new_ones seen nodes)
    all-new P seen [] h = tt
    all-new P seen (node ∷ nodes) h = by (has_node seen node) (all-new P seen nodes h.1) (all-new P (seen ++ node ∷ []) nodes h.1)
      where
        by : (b : Bool) → AllByRecursion P (new_ones seen nodes) → AllByRecursion P (new_ones (seen ++ node ∷ []) nodes) → AllByRecursion P (cond b (new_ones seen nodes) (node ∷ new_ones (seen ++ node ∷ []) nodes))
        by true a b = a
        by false a b = (h.0, b)

    -- without true nodes, where none is false, all are proper inputs
    input-and : (nodes : List Node) → AllByRecursion Known nodes → has_node nodes Never ≡ false → AllByRecursion Input (without Always nodes)
    input-and [] h none = tt
    input-and (Always ∷ nodes) h none = input-and nodes h.1 none
    input-and (Never ∷ nodes) h none = absurd (false≢true (sym none))
    input-and (Basic n ∷ nodes) h none = (h.0, input-and nodes h.1 none)
    input-and (Gate key ∷ nodes) h none = (h.0, input-and nodes h.1 none)

    input-or : (nodes : List Node) → AllByRecursion Known nodes → has_node nodes Always ≡ false → AllByRecursion Input (without Never nodes)
    input-or [] h none = tt
    input-or (Always ∷ nodes) h none = absurd (false≢true (sym none))
    input-or (Never ∷ nodes) h none = input-or nodes h.1 none
    input-or (Basic n ∷ nodes) h none = (h.0, input-or nodes h.1 none)
    input-or (Gate key ∷ nodes) h none = (h.0, input-or nodes h.1 none)

    input-varying : (nodes : List Node) → AllByRecursion Known nodes → AllByRecursion Input (varying nodes)
    input-varying [] h = tt
    input-varying (Always ∷ nodes) h = input-varying nodes h.1
    input-varying (Never ∷ nodes) h = input-varying nodes h.1
    input-varying (Basic n ∷ nodes) h = (h.0, input-varying nodes h.1)
    input-varying (Gate key ∷ nodes) h = (h.0, input-varying nodes h.1)

    input-known : (node : Node) → Input node → Known node
    input-known Always h = tt
    input-known Never h = tt
    input-known (Basic n) h = h
    input-known (Gate key) h = h

    all-input-known : (nodes : List Node) → AllByRecursion Input nodes → AllByRecursion Known nodes
    all-input-known [] h = tt
    all-input-known (node ∷ nodes) h = (input-known node h.0, all-input-known nodes h.1)

    gathered-known : (kind : GateKind) (none : Node) (nodes : List Node) → Known none → AllByRecursion Input nodes → JoinKnown (gathered kind none nodes)
    gathered-known kind none [] n h = n
    gathered-known kind none (x ∷ []) n h = input-known x h.0
    gathered-known kind none (x ∷ y ∷ nodes) n h = h

    all_of-known : (nodes : List Node) → AllByRecursion Known nodes → JoinKnown (all_of nodes)
    all_of-known nodes h = by (has_node nodes Never) refl
      where
        by : (b : Bool) → has_node nodes Never ≡ b → JoinKnown (cond b (Plain Never) (gathered kinds.And Always (each_once (without Always nodes))))
        by true e = tt
        by false e = gathered-known kinds.And Always _ tt (all-new Input [] (without Always nodes) (input-and nodes h e))

    any_of-known : (nodes : List Node) → AllByRecursion Known nodes → JoinKnown (any_of nodes)
    any_of-known nodes h = by (has_node nodes Always) refl
      where
        by : (b : Bool) → has_node nodes Always ≡ b → JoinKnown (cond b (Plain Always) (gathered kinds.Or Never (each_once (without Never nodes))))
        by true e = tt
        by false e = gathered-known kinds.Or Never _ tt (all-new Input [] (without Never nodes) (input-or nodes h e))

    least_left-known : (k : ℕ) (nodes : List Node) → AllByRecursion Input nodes → JoinKnown (least_left k nodes)
    least_left-known k nodes h = none (k == 0)
      where
        every : (b : Bool) → JoinKnown (cond b (all_of nodes) (Made (kinds.AtLeast k) nodes))
        every true = all_of-known nodes (all-input-known nodes h)
        every false = h

        one : (b : Bool) → JoinKnown (cond b (any_of nodes) (cond (k == length nodes) (all_of nodes) (Made (kinds.AtLeast k) nodes)))
        one true = any_of-known nodes (all-input-known nodes h)
        one false = every (k == length nodes)

        few : (b : Bool) → JoinKnown (cond b (Plain Never) (cond (k == 1) (any_of nodes) (cond (k == length nodes) (all_of nodes) (Made (kinds.AtLeast k) nodes))))
        few true = tt
        few false = one (k == 1)

        none : (b : Bool) → JoinKnown (cond b (Plain Always) (cond (nat_lt (length nodes) k) (Plain Never) (cond (k == 1) (any_of nodes) (cond (k == length nodes) (all_of nodes) (Made (kinds.AtLeast k) nodes)))))
        none true = tt
        none false = few (nat_lt (length nodes) k)

    least_of-known : (k : ℕ) (nodes : List Node) → AllByRecursion Known nodes → JoinKnown (least_of k nodes)
    least_of-known k nodes h = least_left-known (k - always_in nodes) (varying nodes) (input-varying nodes h)

    -- the nodes of the parts that vary are proper inputs
    input-parts : (parts : List Part) → AllByRecursion Known (nodes_of parts) → AllByRecursion (λ part. Input part.node) (varying_parts parts)
    input-parts [] h = tt
    input-parts (part ∷ parts) h = by part.node h.0 (input-parts parts h.1)
      where
        by : (node : Node) → Known node → AllByRecursion (λ part. Input part.node) (varying_parts parts)
            → AllByRecursion (λ part. Input part.node) (cond (not (same_node Always node || same_node Never node)) (record { place = part.place; node = node } ∷ varying_parts parts) (varying_parts parts))
        by Always k rest = rest
        by Never k rest = rest
        by (Basic n) k rest = (k, rest)
        by (Gate key) k rest = (k, rest)

  input-parts-more : (lines more : List Line) (parts : List Part) → AllByRecursion (λ part. IsInput events lines part.node) parts → AllByRecursion (λ part. IsInput events (lines ++ more) part.node) parts
  input-parts-more lines more [] h = tt
  input-parts-more lines more (part ∷ parts) h = (input-more lines more part.node h.0, input-parts-more lines more parts h.1)

  module _ (stage : Stage) where
    repeats-ordered : (before : List Line) (seen : List Node) (parts : List Part) → AllByRecursion (λ part. IsInput events before part.node) parts → InOrder events before (repeats stage seen parts)
    repeats-ordered before seen [] h = tt
    repeats-ordered before seen (part ∷ parts) h =
        order-append before (repeat_of stage seen part) _ (first (has_node seen part.node))
        (repeats-ordered (before ++ repeat_of stage seen part) (with_seen seen part.node) parts (input-parts-more before (repeat_of stage seen part) parts h.1))
      where
        first : (b : Bool) → InOrder events before (cond b (record { key = key_at stage part.place; kind = kinds.Or; inputs = part.node ∷ [] } ∷ []) [])
        first true = ((h.0, tt), tt)
        first false = tt

    wrapped-inputs : (before : List Line) (seen : List Node) (parts : List Part) → AllByRecursion (λ part. IsInput events before part.node) parts → AllByRecursion (IsInput events (before ++ repeats stage seen parts)) (wrapped stage seen parts)
    wrapped-inputs before seen [] h = tt
    wrapped-inputs before seen (part ∷ parts) h = (
      first (has_node seen part.node),
      subst (λ (lines : List Line). AllByRecursion (IsInput events lines) (wrapped stage (with_seen seen part.node) parts)) (append_assoc before (repeat_of stage seen part) _)
          (wrapped-inputs (before ++ repeat_of stage seen part) (with_seen seen part.node) parts (input-parts-more before (repeat_of stage seen part) parts h.1)),
    )
      where
        first : (b : Bool) → IsInput events (before ++ (cond b (record { key = key_at stage part.place; kind = kinds.Or; inputs = part.node ∷ [] } ∷ []) [] ++ repeats stage (with_seen seen part.node) parts)) (cond b (Gate (key_at stage part.place)) part.node)
        first true = has_back before _ (key_at stage part.place) (or_left _ _ (key_same (key_at stage part.place)))
        first false = input-more before _ part.node h.0

    own-line : (before : List Line) (key : GateKey) (kind : GateKind) (inputs : List Node) → has_line (before ++ record { key = key; kind = kind; inputs = inputs } ∷ []) key ≡ true
    own-line before key kind inputs = has_back before _ key (or_left _ _ (key_same key))

    line-ordered : (before : List Line) (place : ℕ) (join : Join) → JoinKnown before join → InOrder events before (line_at stage place join)
    line-ordered before place (Plain node) h = tt
    line-ordered before place (Made kind inputs) h = (h, tt)

    node-known : (before : List Line) (place : ℕ) (join : Join) → JoinKnown before join → IsKnown events (before ++ line_at stage place join) (node_at stage place join)
    node-known before place (Plain node) h = known-more before [] node h
    node-known before place (Made kind inputs) h = own-line before (key_at stage place) kind inputs

    counted-ordered : (before : List Line) (place : ℕ) (parts : List Part) (join : Join) → AllByRecursion (IsKnown events before) (nodes_of parts) → JoinKnown before join → InOrder events before (counted_lines stage place parts join)
    counted-ordered before place parts (Plain node) h j = tt
    counted-ordered before place parts (Made kinds.And inputs) h j = (j, tt)
    counted-ordered before place parts (Made kinds.Or inputs) h j = (j, tt)
    counted-ordered before place parts (Made (kinds.AtLeast k) inputs) h j =
        order-append before (repeats stage [] (varying_parts parts)) _ (repeats-ordered before [] (varying_parts parts) (input-parts before parts h))
        (wrapped-inputs before [] (varying_parts parts) (input-parts before parts h), tt)

    counted-known : (before : List Line) (place : ℕ) (parts : List Part) (join : Join) → JoinKnown before join → IsKnown events (before ++ counted_lines stage place parts join) (node_at stage place join)
    counted-known before place parts (Plain node) j = known-more before [] node j
    counted-known before place parts (Made kinds.And inputs) j = own-line before (key_at stage place) kinds.And inputs
    counted-known before place parts (Made kinds.Or inputs) j = own-line before (key_at stage place) kinds.Or inputs
    counted-known before place parts (Made (kinds.AtLeast k) inputs) j =
        has_back before _ (key_at stage place) (own-line (repeats stage [] (varying_parts parts)) (key_at stage place) (kinds.AtLeast k) (wrapped stage [] (varying_parts parts)))

    module _ (look : ℕ → Node) (facts : ℕ) where
      -- what a walk gives behind lines that have all that facts stand for
      abbrev Ordered : List Line → Walked → Type 0
      Ordered before walked = InOrder events before walked.lines × IsKnown events (before ++ walked.lines) walked.node

      abbrev OrderedFrom : (ℕ → Walked) → Bool → Type 0
      OrderedFrom walked ranged = ranged ≡ true → (before : List Line) → ((n : ℕ) → IsKnown events before (look n)) → (start : ℕ) → Ordered before (walked start)

      abbrev OrderedFormula : Formula → Type 0
      OrderedFormula f = OrderedFrom (walk stage look f) (in_range facts events f)

      abbrev FormulaPart : Type 0
      FormulaPart = (f : Formula) × OrderedFormula f

      abbrev formulas : List FormulaPart → List Formula
      formulas ps = map (λ p. p.0) ps

      abbrev all_parts : List FormulaPart → ℕ → Parts
      all_parts ps start = parts_of (map (walk stage look) (formulas ps)) start

      parts-ordered : (ps : List FormulaPart) → list_all (λ b. b) (map (in_range facts events) (formulas ps)) ≡ true → (before : List Line) → ((n : ℕ) → IsKnown events before (look n)) → (start : ℕ)
          → InOrder events before (all_parts ps start).lines × AllByRecursion (IsKnown events (before ++ (all_parts ps start).lines)) (nodes_of (all_parts ps start).parts)
      parts-ordered [] ranged before looks start = (tt, tt)
      parts-ordered (p ∷ ps) ranged before looks start =
          let both = and_parts (in_range facts events p.0) _ ranged in
          let first = (walk stage look p.0 start).lines in
          let next = (walk stage look p.0 start).next in
          let one = p.1 both.0 before looks start in
          let rest = parts-ordered ps both.1 (before ++ first) (λ n. known-more before first (look n) (looks n)) next in
          let same : (before ++ first) ++ (all_parts ps next).lines ≡ before ++ (first ++ (all_parts ps next).lines) = append_assoc before first (all_parts ps next).lines in (
            order-append before first _ one.0 rest.0,
            (
              subst (λ (lines : List Line). IsKnown events lines (walk stage look p.0 start).node) same (known-more (before ++ first) (all_parts ps next).lines (walk stage look p.0 start).node one.1),
              subst (λ (lines : List Line). AllByRecursion (IsKnown events lines) (nodes_of (all_parts ps next).parts)) same rest.1,
            ),
          )

      abbrev Layer : Formula-F Formula → Type 0
      Layer x = OrderedFrom (walk_step stage look (map-Formula Formula (ℕ → Walked) (walk stage look) x)) (in_range_step facts events (map-Formula Formula Bool (in_range facts events) x))

      -- own lines behind those of the parts
      settled : (before lines own : List Line) (node : Node) → InOrder events before lines → InOrder events (before ++ lines) own → IsKnown events ((before ++ lines) ++ own) node → InOrder events before (lines ++ own) × IsKnown events (before ++ (lines ++ own)) node
      settled before lines own node a b c = (order-append before lines own a b, subst (λ (ls : List Line). IsKnown events ls node) (append_assoc before lines own) c)

      layer : (y : Formula-F FormulaPart) → Layer (map-Formula FormulaPart Formula (λ p. p.0) y)
      layer True ranged before looks start = (tt, tt)
      layer (Event n) ranged before looks start = (tt, ltb-true _ _ ranged)
      layer (Fact n) ranged before looks start = (tt, known-more before [] (look n) (looks n))
      layer (And ps) ranged before looks start =
          let parts = parts-ordered ps ranged before looks (start + 1) in
          let all = all_parts ps (start + 1) in
          let join = all_of (nodes_of all.parts) in
          let is = all_of-known (before ++ all.lines) (nodes_of all.parts) parts.1 in
          settled before all.lines (line_at stage start join) (node_at stage start join) parts.0 (line-ordered (before ++ all.lines) start join is) (node-known (before ++ all.lines) start join is)
      layer (Or ps) ranged before looks start =
          let parts = parts-ordered ps ranged before looks (start + 1) in
          let all = all_parts ps (start + 1) in
          let join = any_of (nodes_of all.parts) in
          let is = any_of-known (before ++ all.lines) (nodes_of all.parts) parts.1 in
          settled before all.lines (line_at stage start join) (node_at stage start join) parts.0 (line-ordered (before ++ all.lines) start join is) (node-known (before ++ all.lines) start join is)
      layer (AtLeast k ps) ranged before looks start =
          let parts = parts-ordered ps ranged before looks (start + 1) in
          let all = all_parts ps (start + 1) in
          let join = least_of k (nodes_of all.parts) in
          let is = least_of-known (before ++ all.lines) k (nodes_of all.parts) parts.1 in
          settled before all.lines (counted_lines stage start all.parts join) (node_at stage start join) parts.0 (counted-ordered (before ++ all.lines) start all.parts join parts.1 is) (counted-known (before ++ all.lines) start all.parts join is)

      rolled : (x : Formula-F Formula) → Layer x → OrderedFormula (roll-Formula x)
      rolled x ordered =
          subst (λ (walked : ℕ → Walked). OrderedFrom walked (in_range facts events (roll-Formula x))) (sym (fold-roll-Formula (ℕ → Walked) (walk_step stage look) x))
          (subst (λ (ranged : Bool). OrderedFrom (walk_step stage look (map-Formula Formula (ℕ → Walked) (walk stage look) x)) ranged) (sym (fold-roll-Formula Bool (in_range_step facts events) x)) ordered)

      -- the gates of a walk stand in order, behind those for which facts stand, and its node is one of these
      pub walk-ordered : (f : Formula) → in_range facts events f ≡ true → (before : List Line) → ((n : ℕ) → IsKnown events before (look n)) → (start : ℕ) → InOrder events before (walk stage look f start).lines × IsKnown events (before ++ (walk stage look f start).lines) (walk stage look f start).node
      walk-ordered = ind-Formula OrderedFormula (λ x y is. rolled x (subst Layer is (layer y)))
