-- The text of a tree reads as the tree, under the names that are written.
use Rattle.std.proofs.Common.{ℕ, zero, suc, ◌+◌, ◌≡◌, ◌<◌, ◌≤◌, Bool, true, false, cond, not, ◌||◌, ◌==◌, List, [], ◌∷◌, ◌++◌, length, map, flat_map, slice_get, option_to_list, Option, Some, None, is_some, unwrap_or, ◌⊎◌, inl, inr, ⊎_elim, ap, ◌∙◌, sym, subst, refl, arith}
use Rattle.std.specs.List.{AllByRecursion, list_any}
use Rattle.std.specs.Option.{option_map, option_or}
use lib.ListN.{length-map}
use Rattle.std.proofs.lemmas.Bool.{eq-eqb, eqb-true, false≢true}
use Rattle.std.proofs.lemmas.List.{length-append}
use Rattle.std.proofs.lemmas.List.Concat.{flat_map-append}
use Rattle.std.proofs.lemmas.List.Elements.{All-get_or, recursion_from_All}
use Rattle.std.proofs.lemmas.Option.{slice_get-map}
use Rattle.std.proofs.lemmas.Slice.Eq.{bytes_eq-Decides}
use Rattle.fault_system.specs.Systems.{NamesDiffer, System}
use Rattle.fault_system.proofs.Elements.{In, In-contains}
use Rattle.galileo_writer.specs.Galileo.{EventLine, GateLine, IsPlainName, Line, inputs_text, kind_text, line_text, quoted, top_text}
use Rattle.galileo_writer.specs.Sound.{HasInputLines, HasLine, IsSound}
use Rattle.galileo_writer.specs.TreeText.{event_line, gate_line, gate_name, input_name, name_at, tree_galileo, tree_text}
use Rattle.galileo_writer.specs.inner.TreeText.{AreRates, HasTextNames}
use Rattle.galileo_writer.specs.Truth.{name_of}
use Rattle.galileo_writer.proofs.Names.{event-plain, gate-plain, item-there}
use Rattle.plain_values.specs.Name.{is_same_text}
use Rattle.aadl_syntax.specs.Form.{IsNumber}
use Rattle.property_reader.specs.Rates.{conservative_rate}
use Rattle.property_reader.specs.declared.rate.Rate.{Rate}
use Rattle.round_gates.specs.declared.node.GateKind.{GateKind}
use Rattle.round_gates.specs.declared.node.GateKind.TheVariants as kinds
use Rattle.round_gates.specs.declared.tree.Gate.{Gate as TreeGate}
use Rattle.round_gates.specs.declared.tree.Input.{Input}
use Rattle.round_gates.specs.declared.tree.Input.TheVariants as inputs
use Rattle.round_gates.specs.declared.tree.Tree.{Tree}
use Rattle.round_gates.specs.inner.Targets.{IsWellMade, IsWellMadeGate, IsWithin, MayHave}
use Rattle.round_gates.specs.Trees.{has_gate, is_event}
use Rattle.galileo_reader.specs.declared.statement.Statement.{Statement}
use Rattle.galileo_reader.specs.declared.statement.Statement.TheVariants.{Top, Gate, Event}
use Rattle.galileo_reader.specs.declared.tree.NamedEvent.{NamedEvent}
use Rattle.galileo_reader.specs.declared.tree.NamedGate.{NamedGate}
use Rattle.galileo_reader.specs.Nodes.{asked, bad_count, event_in, first_some, gate_in, input_of, is_second, node_from, node_of, second_after, second_line, tree_of, unknown_name, unknown_node, wrong_count}
use Rattle.galileo_reader.specs.Trees.{IsAcyclic, IsRead}
use Rattle.galileo_reader.specs.inner.Written.{event_place, named_event, named_gate, named_input, named_tree}
use Rattle.galileo_reader.proofs.TreeLaws.{own-event, own-gate}
use Rattle.galileo_reader.proofs.WrittenLines.{IsReadable, IsShort, line_pieces, pieces_text, placed_at, said_at, said_from, text-again, top_pieces, written_statements}

-- ---- counts

placed-long : (at : ℕ) (names : List (List ℕ)) → length (placed_at at names) ≡ length names
placed-long at [] = refl
placed-long at (name ∷ names) = omega (arith, placed-long (at + 1 + (1 + length (name ++ 34 ∷ []))) names)

right-count : (at : ℕ) (line : Line) → wrong_count (said_at at line) ≡ None
right-count at (GateLine name kinds.And ins) = refl
right-count at (GateLine name kinds.Or ins) = refl
right-count at (GateLine name (kinds.AtLeast k) ins) =
    ap (λ b. cond b None (Some (at + 1))) (eq-eqb (length ins) (length (placed_at _ ins)) (sym (placed-long _ ins)))
right-count at (EventLine name rate) = refl

right-counts : (at : ℕ) (lines : List Line) → bad_count (said_from at lines) ≡ None
right-counts at [] = refl
right-counts at (line ∷ lines) = ap (λ o. option_or o (bad_count (said_from (at + length (pieces_text (line_pieces line)) + 1) lines))) (right-count at line) ∙ right-counts (at + length (pieces_text (line_pieces line)) + 1) lines

-- ---- each name has one line

-- the names that statements name
abbrev names_in : List Statement → List (List ℕ)
names_in [] = []
names_in (Top at top ∷ ls) = names_in ls
names_in (Gate own kind count ins ∷ ls) = own.name ∷ names_in ls
names_in (Event own rate ∷ ls) = own.name ∷ names_in ls

other-text : (a b : List ℕ) → (a ≡ b → ⊥) → is_same_text a b ≡ false
other-text a b differ = by (is_same_text a b) refl
  where
    by : (c : Bool) → is_same_text a b ≡ c → c ≡ false
    by true e = absurd (differ ((bytes_eq-Decides a b).0 e))
    by false e = refl

-- a name that no statement names has no node
not-named : (ls : List Statement) (g e : ℕ) (name : List ℕ) → AllByRecursion (λ other. other ≡ name → ⊥) (names_in ls) → node_from g e ls name ≡ None
not-named [] g e name none = refl
not-named (Top at top ∷ ls) g e name none = not-named ls g e name none
not-named (Gate own kind count ins ∷ ls) g e name none = ap (λ b. cond b (Some (inputs.Gate g)) (node_from (g + 1) e ls name)) (other-text own.name name none.0) ∙ not-named ls (g + 1) e name none.1
not-named (Event own rate ∷ ls) g e name none = ap (λ b. cond b (Some (inputs.Event e)) (node_from g (e + 1) ls name)) (other-text own.name name none.0) ∙ not-named ls g (e + 1) name none.1

-- names of which none is another
abbrev Distinct : List (List ℕ) → Type 0
Distinct [] = Unit {0}
Distinct (name ∷ names) = AllByRecursion (λ other. name ≡ other → ⊥) names × Distinct names

distinct : (names : List (List ℕ)) → NamesDiffer names → Distinct names
distinct [] differ = tt
distinct (name ∷ names) differ = (
  recursion_from_All (λ other. name ≡ other → ⊥) names (λ k d h. differ 0 (suc k) d (omega arith) (omega (arith, h))),
  distinct names (λ i j d less fits. differ (suc i) (suc j) d (omega (arith, less)) (omega (arith, fits))),
)

-- none of some statements names a name
abbrev Fresh : List Statement → List ℕ → Type 0
Fresh earlier name = AllByRecursion (λ other. other ≡ name → ⊥) (names_in earlier)

all-more : (P : List ℕ → Type 0) (xs : List (List ℕ)) (x : List ℕ) → AllByRecursion P xs → P x → AllByRecursion P (xs ++ x ∷ [])
all-more P [] x all last = (last, tt)
all-more P (y ∷ xs) x all last = (all.0, all-more P xs x all.1 last)

names-more : (earlier : List Statement) (at : ℕ) (line : Line) → names_in (earlier ++ said_at at line ∷ []) ≡ names_in earlier ++ name_of line ∷ []
names-more [] at (GateLine name kind ins) = refl
names-more [] at (EventLine name rate) = refl
names-more (Top place top ∷ ls) at line = names-more ls at line
names-more (Gate own kind count ins ∷ ls) at line = ap (λ names. own.name ∷ names) (names-more ls at line)
names-more (Event own rate ∷ ls) at line = ap (λ names. own.name ∷ names) (names-more ls at line)

fresh-more : (earlier : List Statement) (at : ℕ) (line : Line) (names : List (List ℕ)) → AllByRecursion (Fresh earlier) names → AllByRecursion (λ other. name_of line ≡ other → ⊥) names → AllByRecursion (Fresh (earlier ++ said_at at line ∷ [])) names
fresh-more earlier at line [] fresh apart = tt
fresh-more earlier at line (name ∷ names) fresh apart = (
  subst (AllByRecursion (λ other. other ≡ name → ⊥)) (sym (names-more earlier at line)) (all-more (λ other. other ≡ name → ⊥) (names_in earlier) (name_of line) fresh.0 apart.0),
  fresh-more earlier at line names fresh.1 apart.1,
)

not-second : (earlier : List Statement) (at : ℕ) (line : Line) → Fresh earlier (name_of line) → is_second earlier (said_at at line) ≡ false
not-second earlier at (GateLine name kind ins) fresh = ap is_some (not-named earlier 0 0 name fresh)
not-second earlier at (EventLine name rate) fresh = ap is_some (not-named earlier 0 0 name fresh)

no-second : (earlier : List Statement) (at : ℕ) (lines : List Line) → Distinct (map name_of lines) → AllByRecursion (Fresh earlier) (map name_of lines) → second_after earlier (said_from at lines) ≡ None
no-second earlier at [] differ fresh = refl
no-second earlier at (line ∷ lines) differ fresh =
    passed (is_second earlier (said_at at line)) _ _ (not-second earlier at line fresh.0)
    ∙ no-second (earlier ++ said_at at line ∷ []) (at + length (pieces_text (line_pieces line)) + 1) lines differ.1 (fresh-more earlier at line (map name_of lines) fresh.1 differ.0)
  where
    passed : (b : Bool) (place : ℕ) (rest : Option ℕ) → b ≡ false → cond b (Some place) rest ≡ rest
    passed true place rest e = absurd (false≢true (sym e))
    passed false place rest e = refl

all-fresh : (earlier : List Statement) (names : List (List ℕ)) → names_in earlier ≡ [] → AllByRecursion (Fresh earlier) names
all-fresh earlier [] none = tt
all-fresh earlier (name ∷ names) none = (subst (AllByRecursion (λ other. other ≡ name → ⊥)) (sym none) tt, all-fresh earlier names none)

-- ---- each name that is asked for has a line

met : (b : Bool) (own : Input) (rest : Option Input) → (b ≡ false → is_some rest ≡ true) → is_some (cond b (Some own) rest) ≡ true
met true own rest later = refl
met false own rest later = later refl

same-text : (a b : List ℕ) → a ≡ b → is_same_text a b ≡ true
same-text a b e = (bytes_eq-Decides a b).1 e

later-in : (own name : List ℕ) (names : List (List ℕ)) → is_same_text own name ≡ false → (own ≡ name) ⊎ In name names → In name names
later-in own name names other i = ⊎_elim (λ e. absurd (false≢true (sym other ∙ same-text own name e))) (λ later. later) i

has-node : (g e at : ℕ) (lines : List Line) (name : List ℕ) → In name (map name_of lines) → is_some (node_from g e (said_from at lines) name) ≡ true
has-node g e at [] name i = absurd i
has-node g e at (GateLine own kind ins ∷ lines) name i =
    met (is_same_text own name) (inputs.Gate g) _ (λ other. has-node (g + 1) e (at + length (pieces_text (line_pieces (GateLine own kind ins))) + 1) lines name (later-in own name (map name_of lines) other i))
has-node g e at (EventLine own rate ∷ lines) name i =
    met (is_same_text own name) (inputs.Event e) _ (λ other. has-node g (e + 1) (at + length (pieces_text (line_pieces (EventLine own rate))) + 1) lines name (later-in own name (map name_of lines) other i))

module _ (all : List Statement) (lines : List Line) (has : (name : List ℕ) → In name (map name_of lines) → is_some (node_of all name) ≡ true) where
  known-name : (at : ℕ) (name : List ℕ) → HasLine lines name → unknown_name all (record { at = at; name = name }) ≡ None
  known-name at name line = ap (λ b. cond b None (Some at)) (has name (In-contains name (map name_of lines) line))

  known-inputs : (at : ℕ) (names : List (List ℕ)) → AllByRecursion (HasLine lines) names → first_some (unknown_name all) (placed_at at names) ≡ None
  known-inputs at [] each = refl
  known-inputs at (name ∷ names) each =
      ap (λ o. option_or o (first_some (unknown_name all) (placed_at (at + 1 + (1 + length (name ++ 34 ∷ []))) names))) (known-name (at + 1) name each.0)
      ∙ known-inputs (at + 1 + (1 + length (name ++ 34 ∷ []))) names each.1

  known-lines : (at : ℕ) (some : List Line) → AllByRecursion (HasInputLines lines) some → first_some (λ line. first_some (unknown_name all) (asked line)) (said_from at some) ≡ None
  known-lines at [] each = refl
  known-lines at (GateLine name kind ins ∷ some) each =
      ap (λ o. option_or o (first_some (λ line. first_some (unknown_name all) (asked line)) (said_from (at + length (pieces_text (line_pieces (GateLine name kind ins))) + 1) some))) (known-inputs _ ins each.0.0)
      ∙ known-lines (at + length (pieces_text (line_pieces (GateLine name kind ins))) + 1) some each.1
  known-lines at (EventLine name rate ∷ some) each = known-lines (at + length (pieces_text (line_pieces (EventLine name rate))) + 1) some each.1

-- ---- the tree

-- the place of an event
pub event-placed : (events : List ℕ) (n : ℕ) → In n events → slice_get events (event_place events n) ≡ Some n
event-placed [] n i = absurd i
event-placed (x ∷ events) n i = by (x == n) refl i (event-placed events n)
  where
    by : (b : Bool) → (x == n) ≡ b → (x ≡ n) ⊎ In n events → (In n events → slice_get events (event_place events n) ≡ Some n) → slice_get (x ∷ events) (cond (not b) (1 + event_place events n) 0) ≡ Some n
    by true e i rest = ap Some (eqb-true x n e)
    by false e i rest =
        let next : 1 + event_place events n ≡ suc (event_place events n) = omega arith in
        ap (slice_get (x ∷ events)) next ∙ rest (⊎_elim (λ same. absurd (false≢true (sym e ∙ eq-eqb x n same))) (λ later. later) i)

module _ (system : System) (tree : Tree) (rates : List Rate) where
  abbrev gates_lines : List TreeGate → List Line
  gates_lines gates = map (gate_line system tree.gates) gates

  abbrev events_lines : List ℕ → List Line
  events_lines events = map (event_line system rates) events

  module _ (all : List Statement) where
    abbrev gates_in : List Statement → List NamedGate
    gates_in ls = flat_map (λ line. option_to_list (gate_in all line)) ls

    abbrev events_in : List Statement → List NamedEvent
    events_in ls = flat_map (λ line. option_to_list (event_in line)) ls

    -- the gates of the lines have the names of the tree's
    gate-there : (at : ℕ) (gates : List TreeGate) (events : List ℕ) (k : ℕ) (gate : TreeGate) → slice_get gates k ≡ Some gate → (g : NamedGate) × (slice_get (gates_in (said_from at (gates_lines gates ++ events_lines events))) k ≡ Some g) × (g.name ≡ gate_name system gate)
    gate-there at [] events k gate is = cc
    gate-there at (own ∷ gates) events zero gate is =
        let same : own ≡ gate = cc in
        (_, refl, ap (gate_name system) same)
    gate-there at (own ∷ gates) events (suc k) gate is = gate-there (at + length (pieces_text (line_pieces (gate_line system tree.gates own))) + 1) gates events k gate is

    -- the events of the lines are those of the tree
    no-gates : (at : ℕ) (events : List ℕ) → gates_in (said_from at (events_lines events)) ≡ []
    no-gates at [] = refl
    no-gates at (event ∷ events) = no-gates (at + length (pieces_text (line_pieces (event_line system rates event))) + 1) events

    only-events : (at : ℕ) (events : List ℕ) → events_in (said_from at (events_lines events)) ≡ map (named_event system rates) events
    only-events at [] = refl
    only-events at (event ∷ events) = ap (λ more. named_event system rates event ∷ more) (only-events (at + length (pieces_text (line_pieces (event_line system rates event))) + 1) events)

    events-said : (at : ℕ) (gates : List TreeGate) (events : List ℕ) → events_in (said_from at (gates_lines gates ++ events_lines events)) ≡ map (named_event system rates) events
    events-said at [] events = only-events at events
    events-said at (gate ∷ gates) events = events-said (at + length (pieces_text (line_pieces (gate_line system tree.gates gate))) + 1) gates events

    module _ (Good : Input → Type 0) (node : (input : Input) → Good input → node_of all (input_name system tree.gates input) ≡ Some (named_input tree input)) where
      inputs-said : (at : ℕ) (ins : List Input) → AllByRecursion Good ins → map (input_of all) (placed_at at (map (input_name system tree.gates) ins)) ≡ map (named_input tree) ins
      inputs-said at [] good = refl
      inputs-said at (input ∷ ins) good =
          let first : unwrap_or (node_of all (input_name system tree.gates input)) (inputs.Event 0) ≡ named_input tree input = ap (λ o. unwrap_or o (inputs.Event 0)) (node input good.0) in
          λ i. first i ∷ inputs-said (at + 1 + (1 + length (input_name system tree.gates input ++ 34 ∷ []))) ins good.1 i

      gates-said : (at : ℕ) (gates : List TreeGate) (events : List ℕ) → AllByRecursion (λ gate. AllByRecursion Good gate.inputs) gates → gates_in (said_from at (gates_lines gates ++ events_lines events)) ≡ map (named_gate system tree) gates
      gates-said at [] events good = no-gates at events
      gates-said at (gate ∷ gates) events good =
          let first = inputs-said _ gate.inputs good.0 in
          let rest = gates-said (at + length (pieces_text (line_pieces (gate_line system tree.gates gate))) + 1) gates events good.1 in
          λ i. record { name = gate_name system gate; kind = gate.kind; inputs = first i } ∷ rest i

-- ---- lines that are written can be read

inputs-short : (names : List (List ℕ)) → length names ≤ length (inputs_text names)
inputs-short [] = omega arith
inputs-short (name ∷ names) =
    let whole : length ((name ++ 34 ∷ []) ++ inputs_text names) ≡ length (name ++ 34 ∷ []) + length (inputs_text names) = length-append (name ++ 34 ∷ []) (inputs_text names) in
    omega (arith, whole, inputs-short names)

gate-short : (name : List ℕ) (kind : GateKind) (ins : List (List ℕ)) → length ins ≤ length (line_text (GateLine name kind ins))
gate-short name kind ins =
    let whole = length-append (quoted name) (32 ∷ (kind_text kind (length ins) ++ (inputs_text ins ++ 59 ∷ 10 ∷ []))) in
    let rest = length-append (kind_text kind (length ins)) (inputs_text ins ++ 59 ∷ 10 ∷ []) in
    let last = length-append (inputs_text ins) (59 ∷ 10 ∷ []) in
    omega (arith, whole, rest, last, inputs-short ins)

or-right : (a b : Bool) → b ≡ true → a || b ≡ true
or-right true b e = refl
or-right false b e = e

or-true : (a b : Bool) → a ≡ true → a || b ≡ true
or-true true b e = refl
or-true false b e = absurd (false≢true e)

-- what is known of a well-made tree and of its text
pub record Known (system : System) (tree : Tree) (rates : List Rate) : Type 0 where
  pub good : (n : ℕ) (gate : TreeGate) → slice_get tree.gates n ≡ Some gate → IsWellMadeGate system (length tree.gates) gate
  pub gate_at_name : (n : ℕ) (gate : TreeGate) → slice_get tree.gates n ≡ Some gate → name_at system tree.gates n ≡ gate_name system gate
  pub in_tree : (event : ℕ) → event < length system.events → (n : ℕ) (gate : TreeGate) → slice_get tree.gates n ≡ Some gate → list_any (is_event event) gate.inputs ≡ true → In event tree.events
  pub event_within : (event : ℕ) → In event tree.events → event < length system.events
  pub sound : IsSound (tree_galileo system tree rates)

module _ (system : System) (names : HasTextNames system) (tree : Tree) (made : IsWellMade system tree) (rates : List Rate) (are_rates : AreRates system rates) (of_tree : Known system tree rates) where
  abbrev GateLines : List TreeGate → List Line
  GateLines gates = gates_lines system tree rates gates

  abbrev EventLines : List ℕ → List Line
  EventLines events = events_lines system tree rates events

  few-inputs : (gates : List TreeGate) → length (flat_map line_text (GateLines gates)) ≤ 4194304 → AllByRecursion (λ gate. length gate.inputs < 1000000000) gates
  few-inputs [] few = tt
  few-inputs (gate ∷ gates) few =
      let whole = length-append (line_text (gate_line system tree.gates gate)) (flat_map line_text (GateLines gates)) in
      let short = gate-short (gate_name system gate) gate.kind (map (input_name system tree.gates) gate.inputs) in
      let long : length (map (input_name system tree.gates) gate.inputs) ≡ length gate.inputs = length-map gate.inputs (input_name system tree.gates) in
      (omega (arith, whole, short, long, few), few-inputs gates (omega (arith, whole, few)))

  plain-at : (n : ℕ) → n < length tree.gates → IsPlainName (name_at system tree.gates n)
  plain-at n fits =
      let gate = item-there tree.gates n fits in
      subst IsPlainName (sym (of_tree.gate_at_name n gate.0 gate.1)) (gate-plain system names gate.0 (of_tree.good n gate.0 gate.1).fact_in)

  plain-inputs : (ins : List Input) → AllByRecursion (IsWithin (length system.events) (length tree.gates)) ins → AllByRecursion IsPlainName (map (input_name system tree.gates) ins)
  plain-inputs [] inside = tt
  plain-inputs (inputs.Event n ∷ ins) inside = (event-plain system names n inside.0, plain-inputs ins inside.1)
  plain-inputs (inputs.Gate n ∷ ins) inside = (plain-at n inside.0, plain-inputs ins inside.1)

  short-kind : (kind : GateKind) (count : ℕ) → count < 1000000000 → MayHave kind count → IsShort kind count
  short-kind kinds.And count few may = tt
  short-kind kinds.Or count few may = tt
  short-kind (kinds.AtLeast k) count few may = (omega (arith, may.1, few), few)

  some-input : (kind : GateKind) (ins : List Input) → MayHave kind (length ins) → map (input_name system tree.gates) ins ≡ [] → ⊥
  some-input kinds.And [] may e = omega (arith, may)
  some-input kinds.Or [] may e = omega (arith, may)
  some-input (kinds.AtLeast k) [] may e = omega (arith, may.1)
  some-input kind (input ∷ ins) may e = cc

  readable-gate : (n : ℕ) (gate : TreeGate) → slice_get tree.gates n ≡ Some gate → length gate.inputs < 1000000000 → IsReadable (gate_line system tree.gates gate)
  readable-gate n gate at few =
      let is = of_tree.good n gate at in (
        gate-plain system names gate is.fact_in,
        subst (IsShort gate.kind) (sym (length-map gate.inputs (input_name system tree.gates))) (short-kind gate.kind (length gate.inputs) few is.count),
        plain-inputs gate.inputs is.inputs_in,
        some-input gate.kind gate.inputs is.count,
      )

  readable-gates : (gates : List TreeGate) → ((n : ℕ) (gate : TreeGate) → slice_get gates n ≡ Some gate → length gate.inputs < 1000000000 → IsReadable (gate_line system tree.gates gate)) → AllByRecursion (λ gate. length gate.inputs < 1000000000) gates → AllByRecursion IsReadable (GateLines gates)
  readable-gates [] each few = tt
  readable-gates (gate ∷ gates) each few = (each 0 gate refl few.0, readable-gates gates (λ n g at. each (suc n) g at) few.1)

  readable-events : (events : List ℕ) → ((event : ℕ) → In event events → IsReadable (event_line system rates event)) → AllByRecursion IsReadable (EventLines events)
  readable-events [] each = tt
  readable-events (event ∷ events) each = (each event (inl refl), readable-events events (λ k i. each k (inr i)))

  readable-event : (event : ℕ) → In event tree.events → IsReadable (event_line system rates event)
  readable-event event i =
      let fits = of_tree.event_within event i in
      (event-plain system names event fits, All-get_or (λ (rate : Rate). IsNumber rate.text) rates event conservative_rate (omega (arith, are_rates.each, fits)) are_rates.numbers)

  all-append : (P : Line → Type 0) (xs ys : List Line) → AllByRecursion P xs → AllByRecursion P ys → AllByRecursion P (xs ++ ys)
  all-append P [] ys a b = b
  all-append P (x ∷ xs) ys a b = (a.0, all-append P xs ys a.1 b)

  abbrev top_name : List ℕ
  top_name = name_at system tree.gates tree.top

  abbrev written : List Line
  written = GateLines tree.gates ++ EventLines tree.events

  abbrev start : ℕ
  start = length (pieces_text (top_pieces (name_at system tree.gates tree.top))) + 1

  abbrev all : List Statement
  all = written_statements (name_at system tree.gates tree.top) (gates_lines system tree rates tree.gates ++ events_lines system tree rates tree.events)

  once : second_line all ≡ None
  once = no-second (Top 0 (record { at = 9; name = top_name }) ∷ []) start written (distinct (map name_of written) of_tree.sound.one_line) (all-fresh (Top 0 (record { at = 9; name = top_name }) ∷ []) (map name_of written) refl)

  has : (name : List ℕ) → In name (map name_of written) → is_some (node_of all name) ≡ true
  has name i = has-node 0 0 start written name i

  known : unknown_node all ≡ None
  known =
      ap (λ o. option_or (option_or o None) (first_some (λ line. first_some (unknown_name all) (asked line)) (said_from start written))) (known-name all written has 9 top_name of_tree.sound.top)
      ∙ known-lines all written has start written of_tree.sound.inputs

  -- an input of a gate of the tree
  abbrev Good : Input → Type 0
  Good (inputs.Event n) = In n tree.events
  Good (inputs.Gate n) = n < length tree.gates

  plus : (n : ℕ) → 0 + n ≡ n
  plus n = omega arith

  node : (input : Input) → Good input → node_of all (input_name system tree.gates input) ≡ Some (named_input tree input)
  node (inputs.Gate k) fits =
      let (gate, at) = item-there tree.gates k fits in
      let (g, there, same) = gate-there system tree rates all start tree.gates tree.events k gate at in
      ap (node_of all) (of_tree.gate_at_name k gate at ∙ sym same) ∙ (own-gate all [] all 0 0 k g once there).0 ∙ ap (λ n. Some (inputs.Gate n)) (plus k)
  node (inputs.Event n) i =
      let there : slice_get (events_in system tree rates all (said_from start written)) (event_place tree.events n) ≡ Some (named_event system rates n)
      = ap (λ events. slice_get events (event_place tree.events n)) (events-said system tree rates all start tree.gates tree.events) ∙ slice_get-map (named_event system rates) tree.events (event_place tree.events n)
      ∙ ap (option_map (named_event system rates)) (event-placed tree.events n i) in
      (own-event all [] all 0 0 (event_place tree.events n) (named_event system rates n) once there).0 ∙ ap (λ k. Some (inputs.Event k)) (plus (event_place tree.events n))

  good-inputs : (n : ℕ) (gate : TreeGate) → slice_get tree.gates n ≡ Some gate → (ins : List Input) → AllByRecursion (IsWithin (length system.events) (length tree.gates)) ins
      → ((k : ℕ) → list_any (is_event k) ins ≡ true → list_any (is_event k) gate.inputs ≡ true) → AllByRecursion Good ins
  good-inputs n gate at [] inside part = tt
  good-inputs n gate at (inputs.Event k ∷ ins) inside part = (
    of_tree.in_tree k inside.0 n gate at (part k (or-true (k == k) (list_any (is_event k) ins) (eq-eqb k k refl))),
    good-inputs n gate at ins inside.1 (λ j e. part j (or-right (k == j) (list_any (is_event j) ins) e)),
  )
  good-inputs n gate at (inputs.Gate k ∷ ins) inside part = (inside.0, good-inputs n gate at ins inside.1 part)

  good-gates : (gates : List TreeGate) → ((n : ℕ) (gate : TreeGate) → slice_get gates n ≡ Some gate → AllByRecursion Good gate.inputs) → AllByRecursion (λ gate. AllByRecursion Good gate.inputs) gates
  good-gates [] each = tt
  good-gates (gate ∷ gates) each = (each 0 gate refl, good-gates gates (λ n g at. each (suc n) g at))

  all-good : AllByRecursion (λ gate. AllByRecursion Good gate.inputs) tree.gates
  all-good = good-gates tree.gates (λ n gate at. good-inputs n gate at gate.inputs (of_tree.good n gate at).inputs_in (λ k h. h))

  top-node : input_of all (record { at = 9; name = top_name }) ≡ inputs.Gate tree.top
  top-node = ap (λ o. unwrap_or o (inputs.Event 0)) (node (inputs.Gate tree.top) made.top_in)

  tree-is : named_tree system tree rates ≡ tree_of all (record { at = 9; name = top_name })
  tree-is =
      let gates = gates-said system tree rates all Good node start tree.gates tree.events all-good in
      let events = events-said system tree rates all start tree.gates tree.events in
      λ i. record { top = sym top-node i; gates = sym gates i; events = sym events i }

  -- ---- no gate reaches itself

  made-from : (gates : List TreeGate) (n : ℕ) (g : NamedGate) → slice_get (map (named_gate system tree) gates) n ≡ Some g → (gate : TreeGate) × (slice_get gates n ≡ Some gate) × (named_gate system tree gate ≡ g)
  made-from [] n g at = cc
  made-from (gate ∷ gates) zero g at = (gate, refl, cc)
  made-from (gate ∷ gates) (suc n) g at = made-from gates n g at

  same-gates : (ins : List Input) (m : ℕ) → has_gate (map (named_input tree) ins) m ≡ has_gate ins m
  same-gates [] m = refl
  same-gates (inputs.Event n ∷ ins) m = same-gates ins m
  same-gates (inputs.Gate n ∷ ins) m = ap (λ b. (n == m) || b) (same-gates ins m)

  acyclic : IsAcyclic (map (named_gate system tree) tree.gates)
  acyclic n is =
      let (gate, at, same) = made-from tree.gates n is.gate is.at in
      made.acyclic n is.input gate at (sym (same-gates gate.inputs is.input) ∙ ap (λ (g : NamedGate). has_gate g.inputs is.input) same ∙ is.is_input)
      (λ set closed own. is.back set (λ a b g in_set here has_b.
      let (other, there, alike) = made-from tree.gates a g here in
      closed a b other in_set there (sym (same-gates other.inputs b) ∙ ap (λ (g : NamedGate). has_gate g.inputs b) alike ∙ has_b)) own)

  pub round-trip : length (tree_text system tree rates) ≤ 4194304 → IsRead false (tree_text system tree rates) (named_tree system tree rates)
  round-trip few =
      let whole = length-append (top_text top_name) (flat_map line_text (GateLines tree.gates ++ EventLines tree.events)) in
      let parts = length-append (flat_map line_text (GateLines tree.gates)) (flat_map line_text (EventLines tree.events)) in
      let joined : length (flat_map line_text (GateLines tree.gates ++ EventLines tree.events)) ≡ length (flat_map line_text (GateLines tree.gates) ++ flat_map line_text (EventLines tree.events)) = ap length (flat_map-append line_text (GateLines tree.gates) (EventLines tree.events)) in
      let inputs_few = few-inputs tree.gates (omega (arith, whole, parts, joined, few)) in
      let readable = all-append IsReadable (GateLines tree.gates) (EventLines tree.events) (readable-gates tree.gates readable-gate inputs_few) (readable-events tree.events readable-event) in (
        all,
        text-again top_name written (plain-at tree.top made.top_in) readable,
        record { counts = right-counts start written; once = once; top = record { at = 9; name = top_name }; top_is = refl; known = known; tree_is = tree-is; acyclic = acyclic },
      )
