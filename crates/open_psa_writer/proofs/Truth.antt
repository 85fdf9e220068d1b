-- The text of a tree says what the tree says.
use Rattle.std.proofs.Common.{ℕ, zero, suc, ◌+◌, ◌-◌, ◌≡◌, ◌<◌, ◌≤◌, ◌==◌, ◌&&◌, ◌||◌, nat_le, Bool, true, false, if◌then◌else◌, List, [], ◌∷◌, drop, length, map, slice_get, slice_index_or, Some, ⊎_elim, ap, ◌∙◌, sym, subst, refl, arith}
use lib.ListN.{length-map}
use Rattle.std.specs.List.{AllByRecursion, list_any}
use Rattle.std.proofs.lemmas.Bool.{eqb-true, eq-eqb, false≢true, le-leb, leb-true}
use Rattle.std.proofs.lemmas.List.{length-drop}
use Rattle.std.proofs.lemmas.Option.{get_or_from_slice_get}
use Rattle.fault_system.specs.Truth.{NumberSet, count_true}
use Rattle.fault_system.specs.Systems.{System, IsSystem, event_name}
use Rattle.fault_system.specs.declared.formula.EventInfo.{EventInfo}
use Rattle.fault_system.proofs.Elements.{In, In-contains}
use Rattle.fault_system.proofs.TruthLaws.{count_true-le}
use Rattle.property_reader.specs.declared.rate.Rate.{Rate}
use Rattle.round_gates.specs.declared.node.GateKind.{GateKind}
use Rattle.round_gates.specs.declared.node.GateKind.TheVariants.{And, Or, AtLeast}
use Rattle.round_gates.specs.declared.tree.Gate.{Gate}
use Rattle.round_gates.specs.declared.tree.Input.{Input}
use Rattle.round_gates.specs.declared.tree.Input.TheVariants as inputs
use Rattle.round_gates.specs.declared.tree.Tree.{Tree}
use Rattle.round_gates.specs.Trees.{is_event}
use Rattle.round_gates.specs.Truths.{kind_true}
use Rattle.round_gates.specs.inner.Targets.{IsWithin, MayHave}
use Rattle.round_gates.specs.inner.Trees.{IsClosedTree, TreeHolds, gate_true, input_true}
use Rattle.galileo_writer.specs.Truth.{NameSet}
use Rattle.galileo_writer.specs.TreeText.{names_of}
use Rattle.galileo_writer.proofs.Names.{has-own, named-at}
use Rattle.open_psa_writer.specs.Mef.{Choice, MefGate, MefInput, Over, Own, Part}
use Rattle.open_psa_writer.specs.Truth.{GateSet, IsClosedMef, Tells, formula_true, given_events, is_true}
use Rattle.open_psa_writer.specs.inner.TreeMef.{HasInputEvents, IsMefGate, IsMefTree}
use Rattle.open_psa_writer.specs.TreeMef.{gate_number, is_spread, kind_parts, mef_event, no_gate, numbered, part, part_formula, part_gate, tree_mef, whole_formula}
use Rattle.open_psa_writer.proofs.Counting.{counted-true, drop-at, part_true, true-counted, with_first}
use Rattle.open_psa_writer.proofs.Positions.{Group, all-gates, each-gate, from-parts, position-back, position_of, to-parts}

pub all-at : {X : Type 0} (P : X → Type 0) (xs : List X) → AllByRecursion P xs → (n : ℕ) (x : X) → slice_get xs n ≡ Some x → P x
all-at P [] all n x at = cc
all-at P (y ∷ xs) all zero x at = let same : y ≡ x = cc in subst P same all.0
all-at P (y ∷ xs) all (suc n) x at = all-at P xs all.1 n x at

same-bool : (a b : Bool) → (a ≡ true → b ≡ true) → (b ≡ true → a ≡ true) → a ≡ b
same-bool true b f g = sym (f refl)
same-bool false true f g = g refl
same-bool false false f g = refl

pub or-right : (a b : Bool) → b ≡ true → a || b ≡ true
or-right true b e = refl
or-right false b e = e

pub or-true : (a b : Bool) → a ≡ true → a || b ≡ true
or-true true b e = refl
or-true false b e = absurd (false≢true e)

and-both : (a b : Bool) → a ≡ true → b ≡ true → a && b ≡ true
and-both true b e f = f
and-both false b e f = e

and-first : (a b : Bool) → a && b ≡ true → a ≡ true
and-first true b e = refl
and-first false b e = e

and-second : (a b : Bool) → a && b ≡ true → b ≡ true
and-second true b e = e
and-second false b e = absurd (false≢true e)

module _ (system : System) (is_system : IsSystem system) (tree : Tree) (made : IsMefTree system tree) (rates : List Rate) where
  module _ (es : NumberSet) where
    abbrev given : NameSet
    given = names_of system es

    given-event : (n : ℕ) → n < length system.events → given (event_name system n) ≡ es n
    given-event n fits = ap given (named-at (λ (event : EventInfo). event.name) system.events n) ∙ has-own (λ (event : EventInfo). event.name) system.events is_system.events_named es n fits

    abbrev listed : List ℕ → ℕ → Bool
    listed events number = given_events (map (mef_event system rates) events) given number

    to-listed : (events : List ℕ) (n : ℕ) → In n events → given (event_name system n) ≡ true → listed events (n + 1) ≡ true
    to-listed [] n i e = absurd i
    to-listed (k ∷ events) n i e =
        ⊎_elim
        (λ (same : k ≡ n). or-true _ (listed events (n + 1)) (and-both (k + 1 == n + 1) _ (eq-eqb (k + 1) (n + 1) (ap (λ m. m + 1) same)) (ap (λ m. given (event_name system m)) same ∙ e)))
        (λ later. or-right _ (listed events (n + 1)) (to-listed events n later e)) i

    from-listed : (events : List ℕ) (n : ℕ) → listed events (n + 1) ≡ true → given (event_name system n) ≡ true
    from-listed [] n e = absurd (false≢true e)
    from-listed (k ∷ events) n e = by ((k + 1 == n + 1) && given (event_name system k)) refl e (from-listed events n)
      where
        by : (b : Bool) → (k + 1 == n + 1) && given (event_name system k) ≡ b → b || listed events (n + 1) ≡ true → (listed events (n + 1) ≡ true → given (event_name system n) ≡ true)
            → given (event_name system n) ≡ true
        by true f e rest =
            let number : k + 1 ≡ n + 1 = eqb-true (k + 1) (n + 1) (and-first (k + 1 == n + 1) _ f) in
            let same : k ≡ n = omega arith in
            ap (λ m. given (event_name system m)) (sym same) ∙ and-second (k + 1 == n + 1) _ f
        by false f e rest = rest e

    -- an event of the tree is given exactly where it is in the set
    mark-is : (n : ℕ) → n < length system.events → In n tree.events → listed tree.events (n + 1) ≡ es n
    mark-is n fits i =
        same-bool _ _ (λ e. sym (given-event n fits) ∙ from-listed tree.events n e) (λ e. to-listed tree.events n i (given-event n fits ∙ e))

    module _ (gates : GateSet) (positions : NumberSet) (same : (n : ℕ) → gates (Own (gate_number tree.top n)) ≡ positions n) where
      abbrev true_in : MefInput → Bool
      true_in = is_true (listed tree.events) gates

      abbrev true_at : Input → Bool
      true_at = input_true es positions

      -- an input says in the text what it says in the tree
      abbrev Says : Input → Type 0
      Says input = true_in (numbered tree.top input) ≡ true_at input

      each-says : (ins : List Input) → AllByRecursion (IsWithin (length system.events) (length tree.gates)) ins → ((event : ℕ) → list_any (is_event event) ins ≡ true → In event tree.events)
          → AllByRecursion Says ins
      each-says [] inside among = tt
      each-says (inputs.Event n ∷ ins) inside among = (
        mark-is n inside.0 (among n (or-true (n == n) (list_any (is_event n) ins) (eq-eqb n n refl))),
        each-says ins inside.1 (λ event e. among event (or-right (n == event) (list_any (is_event event) ins) e)),
      )
      each-says (inputs.Gate n ∷ ins) inside among = (same n, each-says ins inside.1 (λ event e. among event e))

      inputs-same : (ins : List Input) → AllByRecursion Says ins → map true_in (map (numbered tree.top) ins) ≡ map true_at ins
      inputs-same [] says = refl
      inputs-same (input ∷ ins) says = let rest = inputs-same ins says.1 in λ i. says.0 i ∷ rest i

      gate-says : (n : ℕ) (gate : Gate) → slice_get tree.gates n ≡ Some gate → AllByRecursion Says gate.inputs
      gate-says n gate at =
          let is = all-at (IsMefGate system (length tree.gates)) tree.gates made.gates n gate at in
          let among = all-at (HasInputEvents tree) tree.gates made.has_events n gate at in
          each-says gate.inputs is.inputs (λ event e. In-contains event tree.events (among event e))

      -- a kind over the inputs of a gate says what the gate says
      over-same : (kind : GateKind) (ins : List Input) → AllByRecursion Says ins
          → formula_true (listed tree.events) gates (Over kind (map (numbered tree.top) ins)) ≡ kind_true kind (map true_at ins)
      over-same kind ins says = ap (kind_true kind) (inputs-same ins says)

      -- ---- auxiliary gates

      module _ (ins : List Input) (says : AllByRecursion Says ins) (number : ℕ) where
        -- how many of so many of the last inputs are true
        abbrev count : ℕ → ℕ
        count among = count_true (map true_at (drop (length ins - among) ins))

        abbrev first : ℕ → Input
        first among = slice_index_or ins (length ins - among) (inputs.Event 0)

        count-first : (among : ℕ) → 1 ≤ among → among ≤ length ins → count among ≡ with_first (true_at (first among)) (count (among - 1))
        count-first among some fits =
            let next : suc (length ins - among) ≡ length ins - (among - 1) = omega (arith, some, fits) in
            ap (λ xs. count_true (map true_at xs)) (drop-at ins (length ins - among) (inputs.Event 0) (omega (arith, some, fits)))
            ∙ ap (λ d. with_first (true_at (first among)) (count_true (map true_at (drop d ins)))) next

        count-most : (among : ℕ) → among ≤ length ins → count among ≤ among
        count-most among fits =
            let marks = map true_at (drop (length ins - among) ins) in
            let long : length marks ≡ length ins - (length ins - among) = length-map (drop (length ins - among) ins) true_at ∙ length-drop (length ins - among) ins in
            let most : count_true marks ≤ length marks = count_true-le marks in
            omega (arith, long, most, fits)

        first-says : (among : ℕ) → 1 ≤ among → among ≤ length ins → true_in (numbered tree.top (first among)) ≡ true_at (first among)
        first-says among some fits = get-says ins says (length ins - among) (omega (arith, some, fits))
          where
            get-says : (xs : List Input) → AllByRecursion Says xs → (d : ℕ) → d < length xs → Says (slice_index_or xs d (inputs.Event 0))
            get-says [] all d below = absurd (omega arith)
            get-says (x ∷ xs) all zero below = all.0
            get-says (x ∷ xs) all (suc d) below = get-says xs all.1 d (omega arith)

        -- what makes an auxiliary gate true, by what its first input and two others say
        part-true : (input : MefInput) (needed among : ℕ) → formula_true (listed tree.events) gates (part_formula number input needed among)
            ≡ part_true needed among (true_in input) (gates (Part number (needed - 1) (among - 1))) (gates (Part number needed (among - 1)))
        part-true input needed among = by (among == 1) (needed == 1) (needed == among)
          where
            by : (b c d : Bool)
                → formula_true (listed tree.events) gates
                (if b then Over Or (input ∷ []) else if c then Over Or (input ∷ part number needed (among - 1) ∷ [])
                else if d then Over And (input ∷ part number (needed - 1) (among - 1) ∷ []) else Choice input (part number (needed - 1) (among - 1)) (part number needed (among - 1)))
                ≡ (if b then true_in input || false else if c then true_in input || (gates (Part number needed (among - 1)) || false)
                else if d then true_in input && (gates (Part number (needed - 1) (among - 1)) && true)
                else (true_in input && gates (Part number (needed - 1) (among - 1))) || gates (Part number needed (among - 1)))
            by true c d = refl
            by false true d = refl
            by false false true = refl
            by false false false = refl

        part-says : (needed among : ℕ) → 1 ≤ among → among ≤ length ins
            → formula_true (listed tree.events) gates (part_gate tree.top number ins needed among).formula
            ≡ part_true needed among (true_at (first among)) (gates (Part number (needed - 1) (among - 1))) (gates (Part number needed (among - 1)))
        part-says needed among some fits =
            part-true (numbered tree.top (first among)) needed among
            ∙ ap (λ b. part_true needed among b (gates (Part number (needed - 1) (among - 1))) (gates (Part number needed (among - 1)))) (first-says among some fits)

        -- where the set has each auxiliary gate that is true, it has those that enough inputs are true for
        all-counted : (least : ℕ) → least ≤ length ins
            → ((needed among : ℕ) → 1 ≤ needed → needed ≤ least → needed ≤ among → among ≤ needed + (length ins - least)
            → formula_true (listed tree.events) gates (part_gate tree.top number ins needed among).formula ≡ true → gates (Part number needed among) ≡ true)
            → (among needed : ℕ) → 1 ≤ needed → needed ≤ least → needed ≤ among → among ≤ needed + (length ins - least) → needed ≤ count among → gates (Part number needed among) ≡ true
        all-counted least fits closed zero needed some most low high enough = absurd (omega (arith, some, low))
        all-counted least fits closed (suc rest) needed some most low high enough =
            let among = suc rest in
            let less : among - 1 ≡ rest = omega arith in
            let inside : among ≤ length ins = omega (arith, high, most, fits) in
            closed needed among some most low high
            (part-says needed among (omega arith) inside
            ∙ ap (λ m. part_true needed among (true_at (first among)) (gates (Part number (needed - 1) m)) (gates (Part number needed m))) less
            ∙ counted-true needed among (count rest) (true_at (first among)) (gates (Part number (needed - 1) rest)) (gates (Part number needed rest)) some low
            (let few : count rest ≤ rest = count-most rest (omega (arith, inside)) in omega (arith, few, less))
            (λ more enough. all-counted least fits closed rest (needed - 1) (omega (arith, more)) (omega (arith, most)) (omega (arith, low, more)) (omega (arith, high, more)) enough)
            (λ below enough. all-counted least fits closed rest needed some most (omega (arith, below)) (omega (arith, high)) enough)
            (subst (λ m. needed ≤ m) (count-first among (omega arith) inside ∙ ap (λ m. with_first (true_at (first among)) (count m)) less) enough))

        -- where the set has just the auxiliary gates that enough inputs are true for, it has each that is true
        counted-all : ((needed among : ℕ) → gates (Part number needed among) ≡ nat_le needed (count among))
            → (needed among : ℕ) → 1 ≤ needed → needed ≤ among → among ≤ length ins
            → formula_true (listed tree.events) gates (part_gate tree.top number ins needed among).formula ≡ true → gates (Part number needed among) ≡ true
        counted-all counts needed among some low fits says_so =
            let inside : 1 ≤ among = omega (arith, some, low) in
            let enough : needed ≤ with_first (true_at (first among)) (count (among - 1))
            = true-counted needed among (count (among - 1)) (true_at (first among)) (gates (Part number (needed - 1) (among - 1))) (gates (Part number needed (among - 1))) some low
            (λ more e. leb-true (needed - 1) (count (among - 1)) (sym (counts (needed - 1) (among - 1)) ∙ e))
            (λ e. leb-true needed (count (among - 1)) (sym (counts needed (among - 1)) ∙ e))
            (sym (part-says needed among inside fits) ∙ says_so) in
            counts needed among ∙ le-leb needed (count among) (subst (λ m. needed ≤ m) (sym (count-first among inside fits)) enough)

    -- the set has each gate of the text that is true
    abbrev Has : GateSet → MefGate → Type 0
    Has set gate = formula_true (listed tree.events) set gate.formula ≡ true → set gate.name ≡ true

    or-nothing : (b : Bool) → b || false ≡ true → b ≡ true
    or-nothing true e = refl
    or-nothing false e = e

    -- ---- where the text is true, each closed set of positions has the top

    -- the inputs of the gate of a number
    abbrev inputs_at : ℕ → List Input
    inputs_at number = (slice_index_or tree.gates (position_of tree.top number) no_gate).inputs

    -- the gates of the text that a set of positions has: those at them, and the auxiliary ones that enough inputs are true for
    abbrev gates_of : NumberSet → GateSet
    gates_of set (Own number) = set (position_of tree.top number)
    gates_of set (Part number needed among) =
        nat_le needed (count_true (map (input_true es set) (drop (length (inputs_at number) - among) (inputs_at number))))

    module _ (set : NumberSet) (closed : IsClosedTree tree.gates es set) where
      own-same : (n : ℕ) → gates_of set (Own (gate_number tree.top n)) ≡ set n
      own-same n = ap set (position-back tree.top n)

      at-inputs : (n : ℕ) (gate : Gate) → slice_get tree.gates n ≡ Some gate → inputs_at (gate_number tree.top n) ≡ gate.inputs
      at-inputs n gate at =
          ap (λ k. (slice_index_or tree.gates k no_gate).inputs) (position-back tree.top n)
          ∙ ap (λ (g : Gate). g.inputs) (get_or_from_slice_get tree.gates n gate no_gate at)

      part-counts : (n : ℕ) (gate : Gate) → slice_get tree.gates n ≡ Some gate → (needed among : ℕ)
          → gates_of set (Part (gate_number tree.top n) needed among) ≡ nat_le needed (count_true (map (input_true es set) (drop (length gate.inputs - among) gate.inputs)))
      part-counts n gate at needed among = ap (λ ins. nat_le needed (count_true (map (input_true es set) (drop (length ins - among) ins)))) (at-inputs n gate at)

      whole-has : (n : ℕ) (gate : Gate) → slice_get tree.gates n ≡ Some gate → (kind : GateKind) → gate.kind ≡ kind
          → formula_true (listed tree.events) (gates_of set) (whole_formula tree.top (gate_number tree.top n) kind gate.inputs) ≡ true → kind_true kind (map (input_true es set) gate.inputs) ≡ true
      whole-has n gate at And is e = sym (over-same (gates_of set) set own-same And gate.inputs (gate-says (gates_of set) set own-same n gate at)) ∙ e
      whole-has n gate at Or is e = sym (over-same (gates_of set) set own-same Or gate.inputs (gate-says (gates_of set) set own-same n gate at)) ∙ e
      whole-has n gate at (AtLeast least) is e = by (is_spread least gate.inputs) e
        where
          all : length gate.inputs - length gate.inputs ≡ 0
          all = omega arith

          by : (b : Bool)
              → formula_true (listed tree.events) (gates_of set)
              (if b then Over Or (part (gate_number tree.top n) least (length gate.inputs) ∷ []) else Over (AtLeast least) (map (numbered tree.top) gate.inputs)) ≡ true
              → nat_le least (count_true (map (input_true es set) gate.inputs)) ≡ true
          by true h =
              ap (λ d. nat_le least (count_true (map (input_true es set) (drop d gate.inputs)))) (sym all)
              ∙ sym (part-counts n gate at least (length gate.inputs)) ∙ or-nothing (gates_of set (Part (gate_number tree.top n) least (length gate.inputs))) h
          by false h = sym (over-same (gates_of set) set own-same (AtLeast least) gate.inputs (gate-says (gates_of set) set own-same n gate at)) ∙ h

      group-has : (n : ℕ) (gate : Gate) → slice_get tree.gates n ≡ Some gate → Group (Has (gates_of set)) system tree.top n gate
      group-has n gate at = (
        (λ e. own-same n ∙ closed n gate at (whole-has n gate at gate.kind refl e)),
        to-parts (Has (gates_of set)) tree.top (gate_number tree.top n) gate.kind gate.inputs
            (λ least needed among is spread some most low high fits.
            counted-all (gates_of set) set own-same gate.inputs (gate-says (gates_of set) set own-same n gate at) (gate_number tree.top n) (part-counts n gate at) needed among some low
            (omega (arith, most, high, fits))),
      )

    pub tree-from-mef : Tells (tree_mef system tree rates) given → TreeHolds tree es
    tree-from-mef tells set closed =
        sym (own-same set closed tree.top) ∙ tells (gates_of set) (all-gates (Has (gates_of set)) system tree rates made.top_in (group-has set closed))

    -- ---- where the tree is true, each closed set of gates of the text has the top

    module _ (set : GateSet) (closed : IsClosedMef (tree_mef system tree rates) given set) where
      abbrev places : NumberSet
      places n = set (Own (gate_number tree.top n))

      says-at : (n : ℕ) (gate : Gate) → slice_get tree.gates n ≡ Some gate → AllByRecursion (Says set places (λ k. refl)) gate.inputs
      says-at = gate-says set places (λ k. refl)

      group-at : (n : ℕ) (gate : Gate) → slice_get tree.gates n ≡ Some gate → Group (Has set) system tree.top n gate
      group-at = each-gate (Has set) system tree rates closed

      whole-true : (n : ℕ) (gate : Gate) → slice_get tree.gates n ≡ Some gate → (kind : GateKind) → MayHave kind (length gate.inputs)
          → AllByRecursion (Has set) (kind_parts tree.top (gate_number tree.top n) kind gate.inputs)
          → kind_true kind (map (input_true es places) gate.inputs) ≡ true
          → formula_true (listed tree.events) set (whole_formula tree.top (gate_number tree.top n) kind gate.inputs) ≡ true
      whole-true n gate at And may parts e = over-same set places (λ k. refl) And gate.inputs (says-at n gate at) ∙ e
      whole-true n gate at Or may parts e = over-same set places (λ k. refl) Or gate.inputs (says-at n gate at) ∙ e
      whole-true n gate at (AtLeast least) may parts e = by (is_spread least gate.inputs) refl
        where
          all : length gate.inputs - length gate.inputs ≡ 0
          all = omega arith

          by : (b : Bool) → is_spread least gate.inputs ≡ b
              → formula_true (listed tree.events) set
              (if b then Over Or (part (gate_number tree.top n) least (length gate.inputs) ∷ []) else Over (AtLeast least) (map (numbered tree.top) gate.inputs)) ≡ true
          by true spread =
              let enough : nat_le least (count_true (map (input_true es places) (drop (length gate.inputs - length gate.inputs) gate.inputs))) ≡ true
              = ap (λ d. nat_le least (count_true (map (input_true es places) (drop d gate.inputs)))) all ∙ e in
              or-true (set (Part (gate_number tree.top n) least (length gate.inputs))) false
              (all-counted set places (λ k. refl) gate.inputs (says-at n gate at) (gate_number tree.top n) least (omega (arith, may.1))
              (λ needed among some most low high. from-parts (Has set) tree.top (gate_number tree.top n) least gate.inputs spread parts needed among some most low high (omega (arith, may.1)))
              (length gate.inputs) least (omega (arith, may.0)) (omega arith) (omega (arith, may.1)) (omega (arith, may.1)) (leb-true least _ enough))
          by false spread = over-same set places (λ k. refl) (AtLeast least) gate.inputs (says-at n gate at) ∙ e

      holds-at : (n : ℕ) (gate : Gate) → slice_get tree.gates n ≡ Some gate → gate_true es places gate ≡ true → places n ≡ true
      holds-at n gate at e =
          let is = all-at (IsMefGate system (length tree.gates)) tree.gates made.gates n gate at in
          let group = group-at n gate at in
          group.0 (whole-true n gate at gate.kind is.count group.1 e)

    pub mef-from-tree : TreeHolds tree es → Tells (tree_mef system tree rates) given
    mef-from-tree holds set closed = holds (places set closed) (holds-at set closed)
