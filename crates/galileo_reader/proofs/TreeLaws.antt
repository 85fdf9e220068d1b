-- The tree of lines of which each tells of something new, and asks for names that have lines: its inputs are among its nodes, no
-- two nodes have one name, and each input has the name by which it is asked for.
use Rattle.std.proofs.Common.{ℕ, zero, suc, ◌+◌, ◌-◌, ◌≡◌, ◌<◌, ◌≤◌, Bool, true, false, cond, List, [], ◌∷◌, ◌++◌, length, map, flat_map, get_or, slice_get, option_to_list, Option, Some, None, is_some, unwrap_or, ⊎_elim, ap, ◌∙◌, sym, subst, refl, arith}
use Rattle.std.specs.List.{AllByRecursion}
use Rattle.std.specs.Option.{option_map}
use lib.ListN.{length-map}
use Rattle.std.proofs.lemmas.Bool.{false≢true, cases_lt}
use Rattle.std.proofs.lemmas.List.{get_or_append_left, get_or-append_right, get_or_default, length-append}
use Rattle.std.proofs.lemmas.Option.{slice_get_within}
use Rattle.std.proofs.lemmas.Slice.Eq.{bytes_eq-Decides}
use Rattle.fault_system.specs.Systems.{NamesDiffer}
use Rattle.galileo_writer.proofs.Names.{item-there, named-here}
use Rattle.plain_values.specs.Name.{is_same_text}
use Rattle.round_gates.specs.declared.tree.Input.{Input}
use Rattle.round_gates.specs.declared.tree.Input.TheVariants as inputs
use Rattle.round_gates.specs.inner.Targets.{IsWithin}
use Rattle.galileo_reader.specs.declared.statement.PlacedName.{PlacedName}
use Rattle.galileo_reader.specs.declared.statement.Statement.{Statement}
use Rattle.galileo_reader.specs.declared.statement.Statement.TheVariants.{Top, Gate, Event}
use Rattle.galileo_reader.specs.declared.tree.NamedEvent.{NamedEvent}
use Rattle.galileo_reader.specs.declared.tree.NamedGate.{NamedGate}
use Rattle.galileo_reader.specs.declared.tree.NamedTree.{NamedTree}
use Rattle.galileo_reader.specs.Nodes.{asked, event_in, events_of, first_some, gate_in, gates_of, input_of, node_from, node_of, second_after, second_line, top_in, top_of, tree_of, unknown_name, unknown_node}
use Rattle.galileo_reader.specs.inner.Tables.{event_count, gate_count}
use Rattle.galileo_reader.specs.inner.Trees.{HasInputs, IsNamedTree}
use Rattle.galileo_reader.specs.inner.Truth.{input_name}
use Rattle.galileo_reader.proofs.Firsts.{none-has, or-none-left, or-none-right}
use Rattle.galileo_reader.proofs.NodeLaws.{node-more}

same-text : (a b : List ℕ) → a ≡ b → is_same_text a b ≡ true
same-text a b e = (bytes_eq-Decides a b).1 e

-- a line that tells of something new, and those behind it
passed : (b : Bool) (at : ℕ) (rest : Option ℕ) → cond b (Some at) rest ≡ None → (b ≡ false) × (rest ≡ None)
passed true at rest e = cc
passed false at rest e = (refl, e)

absent : (o : Option Input) → is_some o ≡ false → o ≡ None
absent None e = refl
absent (Some node) e = absurd (false≢true (sym e))

-- the node of a name that is not the line's own
passed-by : (b : Bool) (own any : Input) (rest : Option Input) → cond b (Some any) None ≡ None → cond b (Some own) rest ≡ rest
passed-by true own any rest e = cc
passed-by false own any rest e = refl

met : (b : Bool) (own : Input) (rest : Option Input) → b ≡ true → cond b (Some own) rest ≡ Some own
met true own rest e = refl
met false own rest e = absurd (false≢true e)

before-none : (earlier : List Statement) (s : Statement) (name : List ℕ) → node_of (earlier ++ s ∷ []) name ≡ None → (node_of earlier name ≡ None) × (node_from (0 + gate_count earlier) (0 + event_count earlier) (s ∷ []) name ≡ None)
before-none earlier s name e =
    let whole = sym (node-more 0 0 earlier s name) ∙ e in
    (or-none-left (node_of earlier name) _ whole, or-none-right (node_of earlier name) _ whole)

named-in : {X : Type 0} (named : X → List ℕ) (items : List X) (n : ℕ) (x : X) → slice_get items n ≡ Some x → unwrap_or (option_map named (slice_get items n)) [] ≡ named x
named-in named items n x at = ap (λ o. unwrap_or (option_map named o) []) at

same-gate : (m n : ℕ) → Some (inputs.Gate m) ≡ Some (inputs.Gate n) → m ≡ n
same-gate m n e = cc

same-event : (m n : ℕ) → Some (inputs.Event m) ≡ Some (inputs.Event n) → m ≡ n
same-event m n e = cc

no-event : (m n : ℕ) → Some (inputs.Gate m) ≡ Some (inputs.Event n) → ⊥
no-event m n e = cc

module _ (all : List Statement) where
  abbrev pub gates_in : List Statement → List NamedGate
  gates_in ls = flat_map (λ line. option_to_list (gate_in all line)) ls

  abbrev pub events_in : List Statement → List NamedEvent
  events_in ls = flat_map (λ line. option_to_list (event_in line)) ls

  -- ---- each node has its own number, and no earlier line has its name

  pub own-gate : (earlier ls : List Statement) (g e n : ℕ) (gate : NamedGate) → second_after earlier ls ≡ None → slice_get (gates_in ls) n ≡ Some gate → (node_from g e ls gate.name ≡ Some (inputs.Gate (g + n))) × (node_of earlier gate.name ≡ None)
  own-gate earlier [] g e n gate new at = cc
  own-gate earlier (Top place top ∷ ls) g e n gate new at =
      let rest = own-gate (earlier ++ Top place top ∷ []) ls g e n gate (passed _ place _ new).1 at in
      (rest.0, (before-none earlier (Top place top) gate.name rest.1).0)
  own-gate earlier (Gate own kind count ins ∷ ls) g e zero gate new at =
      let named : own.name ≡ gate.name = cc in
      let first = passed (is_some (node_of earlier own.name)) own.at _ new in
      let number : g ≡ g + 0 = omega arith in (
        met (is_same_text own.name gate.name) (inputs.Gate g) _ (same-text own.name gate.name named) ∙ ap (λ k. Some (inputs.Gate k)) number,
        ap (node_of earlier) (sym named) ∙ absent (node_of earlier own.name) first.0,
      )
  own-gate earlier (Gate own kind count ins ∷ ls) g e (suc n) gate new at =
      let rest = own-gate (earlier ++ Gate own kind count ins ∷ []) ls (g + 1) e n gate (passed (is_some (node_of earlier own.name)) own.at _ new).1 at in
      let none = before-none earlier (Gate own kind count ins) gate.name rest.1 in
      let number : g + 1 + n ≡ g + suc n = omega arith in (
        passed-by (is_same_text own.name gate.name) (inputs.Gate g) _ _ none.1 ∙ rest.0 ∙ ap (λ k. Some (inputs.Gate k)) number,
        none.0,
      )
  own-gate earlier (Event own rate ∷ ls) g e n gate new at =
      let rest = own-gate (earlier ++ Event own rate ∷ []) ls g (e + 1) n gate (passed (is_some (node_of earlier own.name)) own.at _ new).1 at in
      let none = before-none earlier (Event own rate) gate.name rest.1 in (
        passed-by (is_same_text own.name gate.name) (inputs.Event e) _ _ none.1 ∙ rest.0,
        none.0,
      )

  pub own-event : (earlier ls : List Statement) (g e n : ℕ) (event : NamedEvent) → second_after earlier ls ≡ None → slice_get (events_in ls) n ≡ Some event → (node_from g e ls event.name ≡ Some (inputs.Event (e + n))) × (node_of earlier event.name ≡ None)
  own-event earlier [] g e n event new at = cc
  own-event earlier (Top place top ∷ ls) g e n event new at =
      let rest = own-event (earlier ++ Top place top ∷ []) ls g e n event (passed _ place _ new).1 at in
      (rest.0, (before-none earlier (Top place top) event.name rest.1).0)
  own-event earlier (Event own rate ∷ ls) g e zero event new at =
      let named : own.name ≡ event.name = cc in
      let first = passed (is_some (node_of earlier own.name)) own.at _ new in
      let number : e ≡ e + 0 = omega arith in (
        met (is_same_text own.name event.name) (inputs.Event e) _ (same-text own.name event.name named) ∙ ap (λ k. Some (inputs.Event k)) number,
        ap (node_of earlier) (sym named) ∙ absent (node_of earlier own.name) first.0,
      )
  own-event earlier (Event own rate ∷ ls) g e (suc n) event new at =
      let rest = own-event (earlier ++ Event own rate ∷ []) ls g (e + 1) n event (passed (is_some (node_of earlier own.name)) own.at _ new).1 at in
      let none = before-none earlier (Event own rate) event.name rest.1 in
      let number : e + 1 + n ≡ e + suc n = omega arith in (
        passed-by (is_same_text own.name event.name) (inputs.Event e) _ _ none.1 ∙ rest.0 ∙ ap (λ k. Some (inputs.Event k)) number,
        none.0,
      )
  own-event earlier (Gate own kind count ins ∷ ls) g e n event new at =
      let rest = own-event (earlier ++ Gate own kind count ins ∷ []) ls (g + 1) e n event (passed (is_some (node_of earlier own.name)) own.at _ new).1 at in
      let none = before-none earlier (Gate own kind count ins) event.name rest.1 in (
        passed-by (is_same_text own.name event.name) (inputs.Gate g) _ _ none.1 ∙ rest.0,
        none.0,
      )

  -- ---- a name that names a node is the node's

  record GateOf (gates : List NamedGate) (g k : ℕ) (name : List ℕ) : Type 0 where
    place : ℕ
    number : k ≡ g + place
    gate : NamedGate
    at : slice_get gates place ≡ Some gate
    named : gate.name ≡ name

  record EventOf (events : List NamedEvent) (e k : ℕ) (name : List ℕ) : Type 0 where
    place : ℕ
    number : k ≡ e + place
    event : NamedEvent
    at : slice_get events place ≡ Some event
    named : event.name ≡ name

  gate-named : (ls : List Statement) (g e k : ℕ) (name : List ℕ) → node_from g e ls name ≡ Some (inputs.Gate k) → GateOf (gates_in ls) g k name
  gate-named [] g e k name is = cc
  gate-named (Top place top ∷ ls) g e k name is = gate-named ls g e k name is
  gate-named (Gate own kind count ins ∷ ls) g e k name is = by (is_same_text own.name name) refl is (λ h. gate-named ls (g + 1) e k name h)
    where
      by : (b : Bool) → is_same_text own.name name ≡ b → cond b (Some (inputs.Gate g)) (node_from (g + 1) e ls name) ≡ Some (inputs.Gate k) → (node_from (g + 1) e ls name ≡ Some (inputs.Gate k) → GateOf (gates_in ls) (g + 1) k name) → GateOf (gates_in (Gate own kind count ins ∷ ls)) g k name
      by true same h later =
          let number : g ≡ k = same-gate g k h in
          record { place = 0; number = omega (arith, number); gate = record { name = own.name; kind = kind; inputs = map (input_of all) ins }; at = refl; named = (bytes_eq-Decides own.name name).0 same }
      by false other h later =
          let rest = later h in
          record { place = suc rest.place; number = omega (arith, rest.number); gate = rest.gate; at = rest.at; named = rest.named }
  gate-named (Event own rate ∷ ls) g e k name is = by (is_same_text own.name name) is (λ h. gate-named ls g (e + 1) k name h)
    where
      by : (b : Bool) → cond b (Some (inputs.Event e)) (node_from g (e + 1) ls name) ≡ Some (inputs.Gate k) → (node_from g (e + 1) ls name ≡ Some (inputs.Gate k) → GateOf (gates_in ls) g k name) → GateOf (gates_in (Event own rate ∷ ls)) g k name
      by true h later = absurd (no-event k e (sym h))
      by false h later = later h

  event-named : (ls : List Statement) (g e k : ℕ) (name : List ℕ) → node_from g e ls name ≡ Some (inputs.Event k) → EventOf (events_in ls) e k name
  event-named [] g e k name is = cc
  event-named (Top place top ∷ ls) g e k name is = event-named ls g e k name is
  event-named (Event own rate ∷ ls) g e k name is = by (is_same_text own.name name) refl is (λ h. event-named ls g (e + 1) k name h)
    where
      by : (b : Bool) → is_same_text own.name name ≡ b → cond b (Some (inputs.Event e)) (node_from g (e + 1) ls name) ≡ Some (inputs.Event k) → (node_from g (e + 1) ls name ≡ Some (inputs.Event k) → EventOf (events_in ls) (e + 1) k name) → EventOf (events_in (Event own rate ∷ ls)) e k name
      by true same h later =
          let number : e ≡ k = same-event e k h in
          record { place = 0; number = omega (arith, number); event = record { name = own.name; rate = rate }; at = refl; named = (bytes_eq-Decides own.name name).0 same }
      by false other h later =
          let rest = later h in
          record { place = suc rest.place; number = omega (arith, rest.number); event = rest.event; at = rest.at; named = rest.named }
  event-named (Gate own kind count ins ∷ ls) g e k name is = by (is_same_text own.name name) is (λ h. event-named ls (g + 1) e k name h)
    where
      by : (b : Bool) → cond b (Some (inputs.Gate g)) (node_from (g + 1) e ls name) ≡ Some (inputs.Event k) → (node_from (g + 1) e ls name ≡ Some (inputs.Event k) → EventOf (events_in ls) e k name) → EventOf (events_in (Gate own kind count ins ∷ ls)) e k name
      by true h later = absurd (no-event g k h)
      by false h later = later h

  -- ---- the tree, whatever its top

  module _ (top : PlacedName) where
    abbrev tree : NamedTree
    tree = tree_of all top

    abbrev Within : Input → Type 0
    Within = IsWithin (length (events_of all)) (length (gates_of all))

    node-good : (name : List ℕ) (node : Input) → node_of all name ≡ Some node → Within node × (input_name (tree_of all top) node ≡ name)
    node-good name (inputs.Gate k) is =
        let found = gate-named all 0 0 k name is in
        let at : slice_get (gates_of all) k ≡ Some found.gate = subst (λ n. slice_get (gates_of all) n ≡ Some found.gate) (omega (arith, found.number)) found.at in
        (slice_get_within (gates_of all) k found.gate at, named-in (λ (gate : NamedGate). gate.name) (gates_of all) k found.gate at ∙ found.named)
    node-good name (inputs.Event k) is =
        let found = event-named all 0 0 k name is in
        let at : slice_get (events_of all) k ≡ Some found.event = subst (λ n. slice_get (events_of all) n ≡ Some found.event) (omega (arith, found.number)) found.at in
        (slice_get_within (events_of all) k found.event at, named-in (λ (event : NamedEvent). event.name) (events_of all) k found.event at ∙ found.named)

    known : (o : Option Input) (at : ℕ) → cond (is_some o) None (Some at) ≡ None → (node : Input) × (o ≡ Some node)
    known None at e = cc
    known (Some node) at e = (node, refl)

    -- a name that has a line is that of its node
    pub input-good : (name : PlacedName) → unknown_name all name ≡ None → Within (input_of all name) × (input_name (tree_of all top) (input_of all name) ≡ name.name)
    input-good name e =
        let (node, is) = known (node_of all name.name) name.at e in
        let same : node ≡ input_of all name = ap (λ o. unwrap_or o (inputs.Event 0)) (sym is) in
        let good = node-good name.name node is in
        (subst Within same good.0, ap (input_name (tree_of all top)) (sym same) ∙ good.1)

    pub inputs-within : (names : List PlacedName) → AllByRecursion (λ name. unknown_name all name ≡ None) names → AllByRecursion Within (map (input_of all) names)
    inputs-within [] each = tt
    inputs-within (name ∷ names) each = ((input-good name each.0).0, inputs-within names each.1)

    pub inputs-named : (names : List PlacedName) → AllByRecursion (λ name. unknown_name all name ≡ None) names → map (input_name (tree_of all top)) (map (input_of all) names) ≡ map (λ name. name.name) names
    inputs-named [] each = refl
    inputs-named (name ∷ names) each = λ i. (input-good name each.0).1 i ∷ inputs-named names each.1 i

    -- each name that a line asks for has a line
    abbrev pub AreKnown : Statement → Type 0
    AreKnown line = first_some (unknown_name all) (asked line) ≡ None

    gates-within : (ls : List Statement) → AllByRecursion AreKnown ls → AllByRecursion (HasInputs (length (events_of all)) (length (gates_of all))) (gates_in ls)
    gates-within [] each = tt
    gates-within (Top place name ∷ ls) each = gates-within ls each.1
    gates-within (Gate own kind count ins ∷ ls) each = (inputs-within ins (none-has (unknown_name all) ins each.0), gates-within ls each.1)
    gates-within (Event own rate ∷ ls) each = gates-within ls each.1

    top-known : (ls : List Statement) → first_some top_in ls ≡ Some top → AllByRecursion AreKnown ls → unknown_name all top ≡ None
    top-known [] is each = cc
    top-known (Top place name ∷ ls) is each =
        let same : name ≡ top = cc in
        ap (unknown_name all) (sym same) ∙ or-none-left (unknown_name all name) None each.0
    top-known (Gate own kind count ins ∷ ls) is each = top-known ls is each.1
    top-known (Event own rate ∷ ls) is each = top-known ls is each.1

    abbrev gate_names : List (List ℕ)
    gate_names = map (λ gate. gate.name) (gates_of all)

    abbrev event_names : List (List ℕ)
    event_names = map (λ event. event.name) (events_of all)

    -- ---- no two nodes have one name

    module _ (once : second_line all ≡ None) where
      gate-own : (n : ℕ) (d : List ℕ) → n < length gate_names → node_of all (get_or (gate_names ++ event_names) n d) ≡ Some (inputs.Gate n)
      gate-own n d fits =
          let inside : n < length (gates_of all) = omega (arith, fits, length-map (gates_of all) (λ (gate : NamedGate). gate.name)) in
          let (gate, at) = item-there (gates_of all) n inside in
          ap (node_of all) (get_or_append_left gate_names event_names d n fits ∙ get_or_default gate_names n d [] fits ∙ named-here (λ (gate : NamedGate). gate.name) (gates_of all) n gate at)
          ∙ (own-gate [] all 0 0 n gate once at).0 ∙ ap (λ k. Some (inputs.Gate k)) (plus n)
        where
          plus : (n : ℕ) → 0 + n ≡ n
          plus n = omega arith

      event-own : (n : ℕ) (d : List ℕ) → length gate_names ≤ n → n < length (gate_names ++ event_names) → node_of all (get_or (gate_names ++ event_names) n d) ≡ Some (inputs.Event (n - length gate_names))
      event-own n d over fits =
          let k : ℕ = n - length gate_names in
          let below : n - length gate_names < length event_names = omega (arith, over, fits, length-append gate_names event_names) in
          let inside : n - length gate_names < length (events_of all) = omega (arith, below, length-map (events_of all) (λ (event : NamedEvent). event.name)) in
          let (event, at) = item-there (events_of all) (n - length gate_names) inside in
          ap (node_of all)
          (get_or-append_right gate_names event_names (length gate_names) n d refl over ∙ get_or_default event_names (n - length gate_names) d [] below
          ∙ named-here (λ (event : NamedEvent). event.name) (events_of all) (n - length gate_names) event at)
          ∙ (own-event [] all 0 0 (n - length gate_names) event once at).0 ∙ ap (λ k. Some (inputs.Event k)) (plus (n - length gate_names))
        where
          plus : (n : ℕ) → 0 + n ≡ n
          plus n = omega arith

      pub nodes-differ : NamesDiffer (gate_names ++ event_names)
      nodes-differ i j d less fits same =
          ⊎_elim
          (λ gate_j.
          let gate_i : i < length gate_names = omega (arith, less, gate_j) in
          let number : i ≡ j = same-gate i j (sym (gate-own i d gate_i) ∙ ap (node_of all) same ∙ gate-own j d gate_j) in omega (arith, number, less))
          (λ event_j. ⊎_elim
          (λ gate_i. no-event i (j - length gate_names) (sym (gate-own i d gate_i) ∙ ap (node_of all) same ∙ event-own j d event_j fits))
          (λ event_i.
          let number : i - length gate_names ≡ j - length gate_names = same-event _ _ (sym (event-own i d event_i (omega (arith, less, fits))) ∙ ap (node_of all) same ∙ event-own j d event_j fits) in omega (arith, number, less, event_i))
          (cases_lt i (length gate_names)))
          (cases_lt j (length gate_names))

      pub named-tree : top_of all ≡ Some top → unknown_node all ≡ None → IsNamedTree (tree_of all top)
      named-tree top_is none =
          let each = none-has (λ line. first_some (unknown_name all) (asked line)) all none in
          record {
            top_in = (input-good top (top-known all top_is each)).0;
            inputs_in = gates-within all each;
            names_differ = nodes-differ;
          }

    pub top-named : top_of all ≡ Some top → unknown_node all ≡ None → input_name (tree_of all top) (input_of all top) ≡ top.name
    top-named top_is none = (input-good top (top-known all top_is (none-has (λ line. first_some (unknown_name all) (asked line)) all none))).1

    pub all-known : unknown_node all ≡ None → AllByRecursion AreKnown all
    all-known none = none-has (λ line. first_some (unknown_name all) (asked line)) all none
