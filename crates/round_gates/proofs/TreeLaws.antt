-- The gates that are reached, in order, are a tree of their top.
use Rattle.std.proofs.Common.{ℕ, ◌+◌, ◌≡◌, ◌<◌, ◌≤◌, ◌⊎◌, Bool, true, false, cond, ◌||◌, ◌&&◌, nat_le, List, [], ◌∷◌, ◌++◌, length, map, get_or, slice_get, Option, Some, None, unwrap_or, inl, inr, ⊎_elim, ap, ◌∙◌, sym, subst, refl, arith, le-leb, leb-true}
use Rattle.std.proofs.lemmas.Bool.{false≢true, eqb-true, eq-eqb, and_parts, and_from}
use Rattle.std.proofs.lemmas.List.{get_or-map}
use Rattle.std.proofs.lemmas.Option.{slice_get-get_or, slice_get_within, get_or_from_slice_get}
use Rattle.std.specs.List.{IsDistinct, AllByRecursion}
use lib.ListN.{length-map}
use Rattle.fault_system.specs.Systems.{System}
use Rattle.dependency_blocks.specs.Blocks.{BlockNumbers}
use Rattle.round_gates.specs.declared.node.GateKey.{GateKey}
use Rattle.round_gates.specs.declared.node.GateKind.{GateKind}
use Rattle.round_gates.specs.declared.node.Line.{Line}
use Rattle.round_gates.specs.declared.node.Node.{Node}
use Rattle.round_gates.specs.declared.node.Node.TheVariants as nodes
use Rattle.round_gates.specs.declared.tree.Gate.{Gate}
use Rattle.round_gates.specs.Nodes.{same_key, same_node, has_node}
use Rattle.round_gates.specs.inner.Lines.{is_named, has_line, IsInput, InOrder}
use Rattle.round_gates.specs.inner.Reached.{has_key, place_from, first_line, HasInputs, AreReached}
use Rattle.round_gates.specs.Stages.{IsAmong, IsGateOf}
use Rattle.round_gates.specs.Trees.{NamesRise, key_of, key_in, node_of, line_of, is_gate, has_gate, events_in, LeadsTo, IsGateTree}
use Rattle.round_gates.specs.inner.Trees.{place_of, input_for, gate_with, gate_for, tree_of}
use Rattle.round_gates.proofs.Names.{place-in, place-at, has-at}
use Rattle.round_gates.proofs.OnceStages.{gate-once, inputs-once}
use Rattle.round_gates.proofs.Reaches.{found-place, behind-of}
use Rattle.round_gates.proofs.Rules.{key_exact, node_exact}
use Rattle.round_gates.proofs.StageTruth.{among-all}
use Rattle.round_gates.proofs.Basics.{some_inner, or_left, or_right, node_same}

abbrev make_line : GateKey → GateKind → List Node → Line
make_line key kind ns = record { key = key; kind = kind; inputs = ns }

abbrev no_key : GateKey
no_key = record { fact = 0; stage = 0; place = 0 }

-- the gate of a name is among the gates
first-among : (lines : List Line) (key : GateKey) (line : Line) → first_line lines key ≡ Some line → IsAmong line lines × (line.key ≡ key)
first-among [] key line e = cc
first-among (x ∷ lines) key line e = by (is_named key x) refl e (first-among lines key line)
  where
    by : (b : Bool) → is_named key x ≡ b → cond b (Some x) (first_line lines key) ≡ Some line → (first_line lines key ≡ Some line → IsAmong line lines × (line.key ≡ key)) → ((line ≡ x) ⊎ IsAmong line lines) × (line.key ≡ key)
    by true is found rest = let same : x ≡ line = some_inner x line found in (inl (sym same), ap (λ (l : Line). l.key) (sym same) ∙ key_exact x.key key is)
    by false is found rest = let r = rest found in (inr r.0, r.1)

-- the first gate of a name in a list that has one
line-found : (lines : List Line) (key : GateKey) → has_line lines key ≡ true → (line : Line) × (first_line lines key ≡ Some line)
line-found [] key e = absurd (false≢true e)
line-found (x ∷ lines) key e = by (is_named key x) e (line-found lines key)
  where
    by : (b : Bool) → b || has_line lines key ≡ true → (has_line lines key ≡ true → (line : Line) × (first_line lines key ≡ Some line)) → (line : Line) × (cond b (Some x) (first_line lines key) ≡ Some line)
    by true found rest = (x, refl)
    by false found rest = rest found

found-has : (lines : List Line) (key : GateKey) (from place : ℕ) → place_from from lines key ≡ Some place → has_line lines key ≡ true
found-has [] key from place e = cc
found-has (x ∷ lines) key from place e = by (is_named key x) e (found-has lines key (from + 1) place)
  where
    by : (b : Bool) → cond b (Some from) (place_from (from + 1) lines key) ≡ Some place → (place_from (from + 1) lines key ≡ Some place → has_line lines key ≡ true) → b || has_line lines key ≡ true
    by true found rest = refl
    by false found rest = rest found

-- the inputs of a gate in order are no constants
order-inputs : (events : ℕ) (before lines : List Line) → InOrder events before lines → (line : Line) → IsAmong line lines → (node : Node) → has_node line.inputs node ≡ true → (node ≡ nodes.Always → ⊥) × (node ≡ nodes.Never → ⊥)
order-inputs events before [] order line is node e = absurd is
order-inputs events before (x ∷ lines) order line is node e =
    ⊎_elim (λ same. proper x.inputs order.0 node (ap (λ (l : Line). has_node l.inputs node) (sym same) ∙ e)) (λ there. order-inputs events (before ++ x ∷ []) lines order.1 line there node e) is
  where
    constant : (node : Node) → IsInput events before node → (node ≡ nodes.Always → ⊥) × (node ≡ nodes.Never → ⊥)
    constant nodes.Always h = absurd h
    constant nodes.Never h = absurd h
    constant (nodes.Basic n) h = ((λ e. cc), (λ e. cc))
    constant (nodes.Gate k) h = ((λ e. cc), (λ e. cc))

    proper : (ns : List Node) → AllByRecursion (IsInput events before) ns → (node : Node) → has_node ns node ≡ true → (node ≡ nodes.Always → ⊥) × (node ≡ nodes.Never → ⊥)
    proper [] all node e = absurd (false≢true e)
    proper (n ∷ ns) all node e = by (same_node node n) refl e (proper ns all.1 node)
      where
        by : (b : Bool) → same_node node n ≡ b → b || has_node ns node ≡ true → (has_node ns node ≡ true → (node ≡ nodes.Always → ⊥) × (node ≡ nodes.Never → ⊥)) → (node ≡ nodes.Always → ⊥) × (node ≡ nodes.Never → ⊥)
        by true is found rest = constant node (subst (IsInput events before) (sym (node_exact node n is)) all.0)
        by false is found rest = rest found

module _ (events : ℕ) (lines : List Line) (top : GateKey) (keys : List GateKey) (ordered : InOrder events [] lines) (is : AreReached lines top keys) (top_line : has_line lines top ≡ true) (distinct : IsDistinct same_key keys) where
  abbrev gates : List Gate
  gates = map (gate_for lines keys) keys

  -- each reached name has a gate
  has-lines : (key : GateKey) → has_key keys key ≡ true → has_line lines key ≡ true
  has-lines key has = is.right key has (has_line lines)
      (λ k next line in_set first input. let p = found-place lines k 0 line first in let b = behind-of events lines ordered k next p.0 line p.1 first input in found-has lines next 0 b.0 b.1)
      top_line

  -- the inputs of a reached gate are reached
  has-inputs : (key next : GateKey) (line : Line) → has_key keys key ≡ true → first_line lines key ≡ Some line → has_node line.inputs (nodes.Gate next) ≡ true → has_key keys next ≡ true
  has-inputs key next line has first input = is.all next (λ set closed in_top. closed key next line (is.right key has set closed in_top) first input)

  abbrev key_at : ℕ → GateKey
  key_at n = get_or keys n no_key

  -- a name of the gates is the name itself
  keys-of : (ks : List GateKey) → map key_of (map (gate_for lines keys) ks) ≡ ks
  keys-of [] = refl
  keys-of (k ∷ ks) = λ i. name (first_line lines k) i ∷ keys-of ks i
    where
      name : (found : Option Line) → key_of (gate_with keys k found) ≡ k
      name None = refl
      name (Some line) = refl

  key-in : (n : ℕ) → key_in gates n ≡ key_at n
  key-in n = ap (λ (ks : List GateKey). get_or ks n no_key) (keys-of keys)

  -- an input stands for its node
  node-back : (node : Node) → (node ≡ nodes.Always → ⊥) → (node ≡ nodes.Never → ⊥) → ((key : GateKey) → node ≡ nodes.Gate key → has_key keys key ≡ true) → node_of gates (input_for keys node) ≡ node
  node-back nodes.Always a n has = absurd (a refl)
  node-back nodes.Never a n has = absurd (n refl)
  node-back (nodes.Basic m) a n has = refl
  node-back (nodes.Gate key) a n has = ap nodes.Gate (key-in (place_of keys key) ∙ (place-in keys key no_key (has key refl)).1)

  nodes-back : (ns : List Node) → ((node : Node) → has_node ns node ≡ true → node_of gates (input_for keys node) ≡ node) → map (node_of gates) (map (input_for keys) ns) ≡ ns
  nodes-back [] each = refl
  nodes-back (n ∷ ns) each = λ i. each n (or_left (same_node n n) (has_node ns n) (node_same n)) i ∷ nodes-back ns (λ node e. each node (or_right (same_node node n) (has_node ns node) e)) i

  -- a gate with its inputs as nodes is the first gate of its name
  line-back : (key : GateKey) (line : Line) → has_key keys key ≡ true → first_line lines key ≡ Some line → line_of gates (gate_for lines keys key) ≡ line
  line-back key line has first =
      ap (λ found. line_of gates (gate_with keys key found)) first
      ∙ whole key line.kind (map (node_of gates) (map (input_for keys) line.inputs)) line.key line.inputs (sym among.1)
      (nodes-back line.inputs (λ node e.
      let proper = order-inputs events [] lines ordered line among.0 node e in
      node-back node proper.0 proper.1 (λ next same. has-inputs key next line has first (ap (has_node line.inputs) (sym same) ∙ e))))
    where
      among : IsAmong line lines × (line.key ≡ key)
      among = first-among lines key line first

      whole : (k : GateKey) (kind : GateKind) (ns : List Node) (l : GateKey) (ms : List Node) → k ≡ l → ns ≡ ms → make_line k kind ns ≡ make_line l kind ms
      whole k kind ns l ms e f i = make_line (e i) kind (f i)

  -- a gate at a position is that of the name there
  record_at : (n : ℕ) (gate : Gate) → slice_get gates n ≡ Some gate → (n < length keys) × (gate ≡ gate_for lines keys (key_at n))
  record_at n gate at =
      let inside : n < length keys = subst (λ (k : ℕ). n < k) (length-map keys (gate_for lines keys)) (slice_get_within gates n gate at) in
      (inside, sym (get_or_from_slice_get gates n gate gate at) ∙ get_or-map (gate_for lines keys) keys n no_key gate inside)

  gate_at : (n : ℕ) → n < length keys → slice_get gates n ≡ Some (gate_for lines keys (key_at n))
  gate_at n inside =
      let long : n < length gates = subst (λ (k : ℕ). n < k) (sym (length-map keys (gate_for lines keys))) inside in
      slice_get-get_or gates n (gate_for lines keys (key_at n)) long ∙ ap Some (get_or-map (gate_for lines keys) keys n no_key (gate_for lines keys (key_at n)) inside)

  abbrev own_line : GateKey → Type 0
  own_line key = (line : Line) × (first_line lines key ≡ Some line)

  line-at-position : (n : ℕ) → n < length keys → own_line (key_at n)
  line-at-position n inside = line-found lines (key_at n) (has-lines (key_at n) (has-at keys n no_key inside))

  -- an input that is a gate is that of a name among the inputs
  gate-input : (ns : List Node) (m : ℕ) → has_gate (map (input_for keys) ns) m ≡ true → (node : Node) × (has_node ns node ≡ true) × (is_gate m (input_for keys node) ≡ true)
  gate-input [] m e = absurd (false≢true e)
  gate-input (n ∷ ns) m e = by (is_gate m (input_for keys n)) refl e (gate-input ns m)
    where
      by : (b : Bool) → is_gate m (input_for keys n) ≡ b → b || has_gate (map (input_for keys) ns) m ≡ true
          → (has_gate (map (input_for keys) ns) m ≡ true → (node : Node) × (has_node ns node ≡ true) × (is_gate m (input_for keys node) ≡ true))
          → (node : Node) × (same_node node n || has_node ns node ≡ true) × (is_gate m (input_for keys node) ≡ true)
      by true is found rest = (n, or_left (same_node n n) (has_node ns n) (node_same n), is)
      by false is found rest = let r = rest found in (r.0, or_right (same_node r.0 n) (has_node ns r.0) r.1, r.2)

  -- the name of an input that is the gate at a position
  input-name : (n m : ℕ) (gate : Gate) → slice_get gates n ≡ Some gate → has_gate gate.inputs m ≡ true
      → (line : Line) × (next : GateKey) × (first_line lines (key_at n) ≡ Some line) × (has_node line.inputs (nodes.Gate next) ≡ true) × (m ≡ place_of keys next) × (has_key keys next ≡ true) × (n < length keys)
  input-name n m gate at input =
      let found = record_at n gate at in
      let own = line-at-position n found.0 in
      let has = has-at keys n no_key found.0 in
      let of_line : has_gate (map (input_for keys) own.0.inputs) m ≡ true = ap (λ (g : Gate). has_gate g.inputs m) (sym (found.1 ∙ ap (gate_with keys (key_at n)) own.1)) ∙ input in
      let r = gate-input own.0.inputs m of_line in
      name own.0 r.0 own.1 r.1 r.2 has found.0
    where
      name : (line : Line) (node : Node) → first_line lines (key_at n) ≡ Some line → has_node line.inputs node ≡ true → is_gate m (input_for keys node) ≡ true → has_key keys (key_at n) ≡ true → n < length keys
          → (line : Line) × (next : GateKey) × (first_line lines (key_at n) ≡ Some line) × (has_node line.inputs (nodes.Gate next) ≡ true) × (m ≡ place_of keys next) × (has_key keys next ≡ true) × (n < length keys)
      name line nodes.Always first input is has inside = absurd (false≢true is)
      name line nodes.Never first input is has inside = absurd (false≢true is)
      name line (nodes.Basic k) first input is has inside = absurd (false≢true is)
      name line (nodes.Gate next) first input is has inside = (line, next, first, input, sym (eqb-true _ _ is), has-inputs (key_at n) next line has first input, inside)

  -- the place of a gate among all gates: those of its inputs are lower
  abbrev rank : ℕ → ℕ
  rank n = unwrap_or (place_from 0 lines (key_at n)) 0

  pub rank-falls : (n m : ℕ) (gate : Gate) → slice_get gates n ≡ Some gate → has_gate gate.inputs m ≡ true → rank m < rank n
  rank-falls n m gate at input =
      let r = input-name n m gate at input in
      let p = found-place lines (key_at n) 0 r.0 r.2 in
      let b = behind-of events lines ordered (key_at n) r.1 p.0 r.0 p.1 r.2 r.3 in
      let name : key_at m ≡ r.1 = ap key_at r.4 ∙ (place-in keys r.1 no_key r.5).1 in
      let rank_n : rank n ≡ p.0 = ap (λ found. unwrap_or found 0) p.1 in
      let rank_m : rank m ≡ b.0 = ap (λ (k : GateKey). unwrap_or (place_from 0 lines k) 0) name ∙ ap (λ found. unwrap_or found 0) b.1 in
      omega (arith, b.2)

  not-back : (n m : ℕ) (gate : Gate) → slice_get gates n ≡ Some gate → has_gate gate.inputs m ≡ true → LeadsTo gates m n → ⊥
  not-back n m gate at input leads =
      let less = rank-falls n m gate at input in
      let low : rank n ≤ rank m = leb-true _ _ (leads (λ k. nat_le (rank k) (rank m))
      (λ k j g in_set at_k in_k. let h : rank k ≤ rank m = leb-true _ _ in_set in let f = rank-falls k j g at_k in_k in le-leb _ _ (omega arith))
      (le-leb _ _ (omega arith))) in
      omega arith

  gate-of-node : (ns : List Node) (next : GateKey) → has_node ns (nodes.Gate next) ≡ true → has_gate (map (input_for keys) ns) (place_of keys next) ≡ true
  gate-of-node [] next e = absurd (false≢true e)
  gate-of-node (n ∷ ns) next e = by (same_node (nodes.Gate next) n) refl e (gate-of-node ns next)
    where
      by : (b : Bool) → same_node (nodes.Gate next) n ≡ b → b || has_node ns (nodes.Gate next) ≡ true → (has_node ns (nodes.Gate next) ≡ true → has_gate (map (input_for keys) ns) (place_of keys next) ≡ true)
          → is_gate (place_of keys next) (input_for keys n) || has_gate (map (input_for keys) ns) (place_of keys next) ≡ true
      by true is found rest =
          or_left _ _ (ap (λ (node : Node). is_gate (place_of keys next) (input_for keys node)) (sym (node_exact (nodes.Gate next) n is)) ∙ eq-eqb (place_of keys next) (place_of keys next) refl)
      by false is found rest = or_right (is_gate (place_of keys next) (input_for keys n)) _ (rest found)

  top-has : has_key keys top ≡ true
  top-has = is.all top (λ set closed h. h)

  all-reached : (n : ℕ) → n < length keys → LeadsTo gates (place_of keys top) n
  all-reached n inside set closed at_top =
      let r = is.right (key_at n) (has-at keys n no_key inside) reach step (and_from _ _ top-has at_top) in
      ap set (sym (place-at keys distinct n no_key inside)) ∙ (and_parts (has_key keys (key_at n)) _ r).1
    where
      reach : GateKey → Bool
      reach key = has_key keys key && set (place_of keys key)

      step : HasInputs lines reach
      step key next line in_reach first input =
          let parts = and_parts (has_key keys key) (set (place_of keys key)) in_reach in
          let p = place-in keys key no_key parts.0 in
          let gate : slice_get gates (place_of keys key) ≡ Some (gate_with keys key (Some line)) =
          gate_at (place_of keys key) p.0 ∙ ap (λ (k : GateKey). Some (gate_for lines keys k)) p.1 ∙ ap (λ found. Some (gate_with keys key found)) first in
          and_from _ _ (has-inputs key next line parts.0 first input)
          (closed (place_of keys key) (place_of keys next) (gate_with keys key (Some line)) parts.1 gate (gate-of-node line.inputs next input))

  module _ (system : System) (numbers : BlockNumbers) (are : AllByRecursion (IsGateOf system numbers) lines) (many : events ≡ length system.events) where
    pub gate-is : (n : ℕ) (gate : Gate) → slice_get gates n ≡ Some gate → IsGateOf system numbers (line_of gates gate)
    gate-is n gate at =
        let found = record_at n gate at in
        let own = line-at-position n found.0 in
        let back : line_of gates gate ≡ own.0 = ap (line_of gates) found.1 ∙ line-back (key_at n) own.0 (has-at keys n no_key found.0) own.1 in
        subst (IsGateOf system numbers) (sym back) (among-all (IsGateOf system numbers) lines own.0 are (first-among lines (key_at n) own.0 own.1).0)

    -- the tree of these gates is that of the top
    pub gate-tree : NamesRise keys → IsGateTree system numbers top (tree_of events lines keys top)
    gate-tree rise =
        let p = place-in keys top no_key top-has in
        let long : length gates ≡ length keys = length-map keys (gate_for lines keys) in
        record {
          top_in = omega (arith, p.0);
          top_is = key-in (place_of keys top) ∙ p.1;
          gates_are = gate-is;
          inputs_once = λ n gate at. inputs-once (node_of gates) gate.inputs (gate-once system numbers (line_of gates gate) (gate-is n gate at));
          inputs_in = λ n m gate at input.
              let r = input-name n m gate at input in
              let q = place-in keys r.1 no_key r.5 in
              let same : m ≡ place_of keys r.1 = r.4 in
              omega (arith, q.0);
          rise = subst NamesRise (sym (keys-of keys)) rise;
          reached = λ n inside. all-reached n (omega arith);
          acyclic = not-back;
          events = ap (λ (k : ℕ). events_in k gates) many;
        }
