-- Which node a name names, with one line more; and that the table of names knows it.
use Rattle.std.proofs.Common.{ℕ, ◌+◌, ◌≡◌, ◌<◌, ◌≤◌, Bool, true, false, Bor, cond, not, ◌||◌, List, [], ◌∷◌, ◌++◌, length, take, drop, get_or, Option, Some, None, is_some, ap, ◌∙◌, sym, subst, refl, arith}
use Rattle.std.specs.List.{list_any}
use Rattle.std.specs.Option.{option_or}
use Rattle.std.proofs.lemmas.Bool.{false≢true}
use Rattle.std.proofs.lemmas.List.{at_drop_all, at_drop_more, length-take-le, take_more}
use Rattle.std.proofs.lemmas.Slice.Eq.{bytes_eq-Decides}
use Rattle.indexmap.specs.IndexMap.{get}
use Rattle.plain_values.specs.Name.{is_same_text}
use Rattle.property_reader.specs.declared.rate.Rate.{Rate}
use Rattle.round_gates.specs.declared.node.GateKind.{GateKind}
use Rattle.round_gates.specs.declared.tree.Input.{Input}
use Rattle.round_gates.specs.declared.tree.Input.TheVariants as inputs
use Rattle.galileo_reader.specs.declared.nodes.Naming.{Naming}
use Rattle.galileo_reader.specs.declared.statement.PlacedName.{PlacedName}
use Rattle.galileo_reader.specs.declared.statement.Statement.{Statement}
use Rattle.galileo_reader.specs.declared.statement.Statement.TheVariants.{Top, Gate, Event}
use Rattle.galileo_reader.specs.Nodes.{is_second, is_top, node_from, node_of, place_of, second_after, second_line}
use Rattle.galileo_reader.specs.inner.Tables.{AddsLine, Knows, event_count, gate_count, same_key}

-- ---- one line more

or-cond : (b : Bool) (first : Input) (whole rest after : Option Input) → whole ≡ option_or rest after → cond b (Some first) whole ≡ option_or (cond b (Some first) rest) after
or-cond true first whole rest after e = refl
or-cond false first whole rest after e = e

pub node-more : (g e : ℕ) (xs : List Statement) (s : Statement) (name : List ℕ) → node_from g e (xs ++ s ∷ []) name ≡ option_or (node_from g e xs name) (node_from (g + gate_count xs) (e + event_count xs) (s ∷ []) name)
node-more g e [] s name =
    let no_gates : g ≡ g + 0 = omega arith in
    let no_events : e ≡ e + 0 = omega arith in
    λ i. node_from (no_gates i) (no_events i) (s ∷ []) name
node-more g e (Top at top ∷ xs) s name = node-more g e xs s name
node-more g e (Gate own kind count ins ∷ xs) s name =
    let gates : g + 1 + gate_count xs ≡ g + (gate_count xs + 1) = omega arith in
    or-cond (is_same_text own.name name) (inputs.Gate g) _ (node_from (g + 1) e xs name) _
    (node-more (g + 1) e xs s name ∙ ap (λ n. option_or (node_from (g + 1) e xs name) (node_from n (e + event_count xs) (s ∷ []) name)) gates)
node-more g e (Event own rate ∷ xs) s name =
    let events : e + 1 + event_count xs ≡ e + (event_count xs + 1) = omega arith in
    or-cond (is_same_text own.name name) (inputs.Event e) _ (node_from g (e + 1) xs name) _
    (node-more g (e + 1) xs s name ∙ ap (λ n. option_or (node_from g (e + 1) xs name) (node_from (g + gate_count xs) n (s ∷ []) name)) events)

gates-more : (xs : List Statement) (s : Statement) → gate_count (xs ++ s ∷ []) ≡ gate_count xs + gate_count (s ∷ [])
gates-more [] s = let same : gate_count (s ∷ []) ≡ 0 + gate_count (s ∷ []) = omega arith in same
gates-more (Top at top ∷ xs) s = gates-more xs s
gates-more (Gate own kind count ins ∷ xs) s = omega (arith, gates-more xs s)
gates-more (Event own rate ∷ xs) s = gates-more xs s

events-more : (xs : List Statement) (s : Statement) → event_count (xs ++ s ∷ []) ≡ event_count xs + event_count (s ∷ [])
events-more [] s = let same : event_count (s ∷ []) ≡ 0 + event_count (s ∷ []) = omega arith in same
events-more (Top at top ∷ xs) s = events-more xs s
events-more (Gate own kind count ins ∷ xs) s = events-more xs s
events-more (Event own rate ∷ xs) s = omega (arith, events-more xs s)

or-false : (b : Bool) → b || false ≡ b
or-false true = refl
or-false false = refl

or-true : (b : Bool) → b || true ≡ true
or-true true = refl
or-true false = refl

or-assoc : (a b c : Bool) → (a || b) || c ≡ a || (b || c)
or-assoc true b c = refl
or-assoc false b c = refl

any-more : (xs : List Statement) (s : Statement) → list_any is_top (xs ++ s ∷ []) ≡ list_any is_top xs || is_top s
any-more [] s = or-false (is_top s)
any-more (x ∷ xs) s = ap (λ b. is_top x || b) (any-more xs s) ∙ sym (or-assoc (is_top x) (list_any is_top xs) (is_top s))

pub few-gates : (lines : List Statement) → gate_count lines ≤ length lines
few-gates [] = omega arith
few-gates (Top at top ∷ xs) = omega (arith, few-gates xs)
few-gates (Gate own kind count ins ∷ xs) = omega (arith, few-gates xs)
few-gates (Event own rate ∷ xs) = omega (arith, few-gates xs)

pub few-events : (lines : List Statement) → event_count lines ≤ length lines
few-events [] = omega arith
few-events (Top at top ∷ xs) = omega (arith, few-events xs)
few-events (Gate own kind count ins ∷ xs) = omega (arith, few-events xs)
few-events (Event own rate ∷ xs) = omega (arith, few-events xs)

or-nothing : (o : Option Input) → option_or o None ≡ o
or-nothing None = refl
or-nothing (Some node) = refl

-- ---- what a line adds to a table

module _ (earlier : List Statement) (old new : Naming) (knows : Knows earlier old) where
  pub top-added : (at : ℕ) (top : PlacedName) → new.table ≡ old.table → new.gates ≡ old.gates → new.events ≡ old.events → new.has_top ≡ true → Knows (earlier ++ Top at top ∷ []) new
  top-added at top table gates events has =
      let no_gate : gate_count (earlier ++ Top at top ∷ []) ≡ gate_count earlier = omega (arith, gates-more earlier (Top at top)) in
      let no_event : event_count (earlier ++ Top at top ∷ []) ≡ event_count earlier = omega (arith, events-more earlier (Top at top)) in
      record {
        nodes = λ name. ap (λ t. get same_key t name) table ∙ knows.nodes name ∙ sym (node-more 0 0 earlier (Top at top) name.now ∙ or-nothing (node_of earlier name.now));
        gates = gates ∙ knows.gates ∙ sym no_gate;
        events = events ∙ knows.events ∙ sym no_event;
        top = has ∙ sym (any-more earlier (Top at top) ∙ or-true (list_any is_top earlier));
      }

  -- the node of a name once a line of this name and node stands behind
  module _ (own : List ℕ) (key : Bor (List ℕ)) (is : key.now ≡ own) (node : Input) (fresh : get same_key old.table key ≡ None) (put : (name : Bor (List ℕ)) → get same_key new.table name ≡ cond (same_key key name) (Some node) (get same_key old.table name)) where
    added : (name : Bor (List ℕ)) (b : Bool) → is_same_text key.now name.now ≡ b → cond b (Some node) (get same_key old.table name) ≡ option_or (node_of earlier name.now) (cond b (Some node) None)
    added name false other = knows.nodes name ∙ sym (or-nothing (node_of earlier name.now))
    added name true same =
        let absent : node_of earlier name.now ≡ None = ap (node_of earlier) (sym ((bytes_eq-Decides key.now name.now).0 same)) ∙ sym (knows.nodes key) ∙ fresh in
        ap (λ o. option_or o (Some node)) (sym absent)

    pub node-added : (name : Bor (List ℕ)) → get same_key new.table name ≡ option_or (node_of earlier name.now) (cond (is_same_text own name.now) (Some node) None)
    node-added name = put name ∙ added name (is_same_text key.now name.now) refl ∙ ap (λ text. option_or (node_of earlier name.now) (cond (is_same_text text name.now) (Some node) None)) is

  module _ (own : PlacedName) (key : Bor (List ℕ)) (is : key.now ≡ own.name) (fresh : get same_key old.table key ≡ None) where
    pub gate-added : (kind : GateKind) (count : Option ℕ) (ins : List PlacedName) → ((name : Bor (List ℕ)) → get same_key new.table name ≡ cond (same_key key name) (Some (inputs.Gate old.gates)) (get same_key old.table name))
        → new.gates ≡ old.gates + 1 → new.events ≡ old.events → new.has_top ≡ old.has_top → Knows (earlier ++ Gate own kind count ins ∷ []) new
    gate-added kind count ins put gates events top =
        let one_more : gate_count (earlier ++ Gate own kind count ins ∷ []) ≡ gate_count earlier + 1 = omega (arith, gates-more earlier (Gate own kind count ins)) in
        let no_event : event_count (earlier ++ Gate own kind count ins ∷ []) ≡ event_count earlier = omega (arith, events-more earlier (Gate own kind count ins)) in
        let number : old.gates ≡ 0 + gate_count earlier = omega (arith, knows.gates) in
        record {
          nodes = λ name. node-added own.name key is (inputs.Gate old.gates) fresh put name
              ∙ ap (λ n. option_or (node_of earlier name.now) (cond (is_same_text own.name name.now) (Some (inputs.Gate n)) None)) number
              ∙ sym (node-more 0 0 earlier (Gate own kind count ins) name.now);
          gates = gates ∙ ap (λ n. n + 1) knows.gates ∙ sym one_more;
          events = events ∙ knows.events ∙ sym no_event;
          top = top ∙ knows.top ∙ sym (any-more earlier (Gate own kind count ins) ∙ or-false (list_any is_top earlier));
        }

    pub event-added : (rate : Rate) → ((name : Bor (List ℕ)) → get same_key new.table name ≡ cond (same_key key name) (Some (inputs.Event old.events)) (get same_key old.table name))
        → new.gates ≡ old.gates → new.events ≡ old.events + 1 → new.has_top ≡ old.has_top → Knows (earlier ++ Event own rate ∷ []) new
    event-added rate put gates events top =
        let no_gate : gate_count (earlier ++ Event own rate ∷ []) ≡ gate_count earlier = omega (arith, gates-more earlier (Event own rate)) in
        let one_more : event_count (earlier ++ Event own rate ∷ []) ≡ event_count earlier + 1 = omega (arith, events-more earlier (Event own rate)) in
        let number : old.events ≡ 0 + event_count earlier = omega (arith, knows.events) in
        record {
          nodes = λ name. node-added own.name key is (inputs.Event old.events) fresh put name
              ∙ ap (λ n. option_or (node_of earlier name.now) (cond (is_same_text own.name name.now) (Some (inputs.Event n)) None)) number
              ∙ sym (node-more 0 0 earlier (Event own rate) name.now);
          gates = gates ∙ knows.gates ∙ sym no_gate;
          events = events ∙ ap (λ n. n + 1) knows.events ∙ sym one_more;
          top = top ∙ knows.top ∙ sym (any-more earlier (Event own rate) ∙ or-false (list_any is_top earlier));
        }

  -- whether a name has a node already
  pub is-old : (own : List ℕ) (key : Bor (List ℕ)) → key.now ≡ own → is_some (get same_key old.table key) ≡ is_some (node_of earlier own)
  is-old own key is = ap is_some (knows.nodes key ∙ ap (node_of earlier) is)

-- ---- what the code does with a line

pub adds-top : (line : Statement) (at : ℕ) (top : PlacedName) (is_new : Bool) (old new : Naming) → line ≡ Top at top → is_new ≡ not old.has_top → new.table ≡ old.table → new.gates ≡ old.gates → new.events ≡ old.events → new.has_top ≡ true → AddsLine line is_new old new
adds-top line at top is_new old new is answer table gates events has = λ earlier knows. (
  answer ∙ ap not knows.top ∙ ap (λ s. not (is_second earlier s)) (sym is),
  λ e. subst (λ s. Knows (earlier ++ s ∷ []) new) (sym is) (top-added earlier old new knows at top table gates events has),
)

answered : (is_new has : Bool) → has ≡ not is_new → is_new ≡ not has
answered true has e = ap not (sym e)
answered false has e = ap not (sym e)

none-before : (before : Option Input) (is_new : Bool) → is_some before ≡ not is_new → is_new ≡ true → before ≡ None
none-before None is_new e f = refl
none-before (Some node) true e f = absurd (false≢true (sym e))
none-before (Some node) false e f = absurd (false≢true f)

module _ (line : Statement) (own : PlacedName) (is_new : Bool) (old new : Naming) (key : Bor (List ℕ)) (named : key.now ≡ own.name) (before : Option Input) (found : before ≡ get same_key old.table key) (told : is_some before ≡ not is_new) where
  pub adds-gate : (kind : GateKind) (count : Option ℕ) (ins : List PlacedName) → line ≡ Gate own kind count ins → ((name : Bor (List ℕ)) → get same_key new.table name ≡ cond (same_key key name) (Some (inputs.Gate old.gates)) (get same_key old.table name))
      → new.gates ≡ old.gates + 1 → new.events ≡ old.events → new.has_top ≡ old.has_top → AddsLine line is_new old new
  adds-gate kind count ins is put gates events top = λ earlier knows. (
    answered is_new (is_some before) told ∙ ap (λ o. not (is_some o)) found ∙ ap not (is-old earlier old new knows own.name key named) ∙ ap (λ s. not (is_second earlier s)) (sym is),
    λ e. subst (λ s. Knows (earlier ++ s ∷ []) new) (sym is) (gate-added earlier old new knows own key named (sym found ∙ none-before before is_new told e) kind count ins put gates events top),
  )

  pub adds-event : (rate : Rate) → line ≡ Event own rate → ((name : Bor (List ℕ)) → get same_key new.table name ≡ cond (same_key key name) (Some (inputs.Event old.events)) (get same_key old.table name))
      → new.gates ≡ old.gates → new.events ≡ old.events + 1 → new.has_top ≡ old.has_top → AddsLine line is_new old new
  adds-event rate is put gates events top = λ earlier knows. (
    answered is_new (is_some before) told ∙ ap (λ o. not (is_some o)) found ∙ ap not (is-old earlier old new knows own.name key named) ∙ ap (λ s. not (is_second earlier s)) (sym is),
    λ e. subst (λ s. Knows (earlier ++ s ∷ []) new) (sym is) (event-added earlier old new knows own key named (sym found ∙ none-before before is_new told e) rate put gates events top),
  )

-- ---- the loop that fills the table

module _ (lines : List Statement) (i : ℕ) (so_far : second_after (take i lines) (drop i lines) ≡ second_line lines) where
  here : (d : Statement) → i < length lines → cond (is_second (take i lines) (get_or lines i d)) (Some (place_of (get_or lines i d))) (second_after (take i lines ++ get_or lines i d ∷ []) (drop (i + 1) lines)) ≡ second_line lines
  here d inside = sym (at_drop_more (second_after (take i lines)) lines i d inside) ∙ so_far

  pub second-found : (d : Statement) → i < length lines → is_second (take i lines) (get_or lines i d) ≡ true → second_line lines ≡ Some (place_of (get_or lines i d))
  second-found d inside e = sym (here d inside) ∙ ap (λ b. cond b (Some (place_of (get_or lines i d))) (second_after (take i lines ++ get_or lines i d ∷ []) (drop (i + 1) lines))) e

  pub second-next : (d : Statement) → i < length lines → is_second (take i lines) (get_or lines i d) ≡ false → second_after (take (i + 1) lines) (drop (i + 1) lines) ≡ second_line lines
  second-next d inside e =
      ap (λ front. second_after front (drop (i + 1) lines)) (take_more lines i d inside)
      ∙ ap (λ b. cond b (Some (place_of (get_or lines i d))) (second_after (take i lines ++ get_or lines i d ∷ []) (drop (i + 1) lines))) (sym e) ∙ here d inside

  pub second-none : length lines ≤ i → second_line lines ≡ None
  second-none over = sym so_far ∙ at_drop_all (second_after (take i lines)) lines i over

-- there is room for one gate and one event more
module _ (lines : List Statement) (i : ℕ) (naming : Naming) (inside : i < length lines) (few : length lines < 4294967296) (knows : Knows (take i lines) naming) where
  long : length (take i lines) ≡ i
  long = length-take-le i lines (omega (arith, inside))

  pub gates-room : naming.gates < 4294967295
  gates-room = omega (arith, knows.gates, few-gates (take i lines), long, inside, few)

  pub events-room : naming.events < 4294967295
  events-room = omega (arith, knows.events, few-events (take i lines), long, inside, few)
