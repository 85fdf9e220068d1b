-- Each name of the text of a tree has one definition.
use Rattle.std.proofs.Common.{ℕ, zero, suc, ◌+◌, ◌-◌, ◌≡◌, ◌≢◌, ◌<◌, ◌≤◌, ◌==◌, Bool, true, false, if◌then◌else◌, List, [], ◌∷◌, ◌++◌, length, map, slice_get, slice_index_or, Some, All, AllPairs, inl, inr, ⊎_elim, ap, ◌∙◌, sym, subst, refl, arith}
use Rattle.std.specs.List.{AllByRecursion, flat_map, list_any, range_with_len}
use Rattle.std.proofs.lemmas.Bool.{cases_lt, eqb-false, eqb-true, eq-eqb}
use Rattle.std.proofs.lemmas.List.Kept.{AllPairs-cons}
use Rattle.fault_system.specs.Systems.{System}
use Rattle.fault_system.proofs.Elements.{In, In-contains, In-mapped, contains_In}
use Rattle.property_reader.specs.declared.rate.Rate.{Rate}
use Rattle.round_gates.specs.declared.node.GateKind.{GateKind}
use Rattle.round_gates.specs.declared.node.GateKind.TheVariants.{And, Or, AtLeast}
use Rattle.round_gates.specs.declared.tree.Gate.{Gate}
use Rattle.round_gates.specs.declared.tree.Input.{Input}
use Rattle.round_gates.specs.declared.tree.Input.TheVariants as inputs
use Rattle.round_gates.specs.declared.tree.Tree.{Tree}
use Rattle.round_gates.specs.Trees.{is_event}
use Rattle.round_gates.specs.inner.Targets.{IsWithin, MayHave}
use Rattle.round_gates.proofs.Basics.{all-append}
use Rattle.galileo_writer.proofs.Names.{item-there}
use Rattle.open_psa_writer.specs.Mef.{Choice, GateName, Mef, MefEvent, MefGate, MefInput, Over, Own, Part}
use Rattle.open_psa_writer.specs.Sound.{IsDefined, IsSoundMef, NamesDiffer, gates_of, inputs_of}
use Rattle.open_psa_writer.specs.inner.TreeMef.{HasInputEvents, IsMefGate, IsMefTree}
use Rattle.open_psa_writer.specs.TreeMef.{gate_number, gate_parts, gates_from, is_spread, kind_parts, mef_event, mef_gate, numbered, part, part_formula, part_gate, part_row, part_rows, top_gate, tree_mef, whole_formula}
use Rattle.open_psa_writer.proofs.Counting.{to-map, to-rows}
use Rattle.open_psa_writer.proofs.OneMef.{own-other}
use Rattle.open_psa_writer.proofs.Positions.{Group, all-gates, each-gate, from-parts, one-position, to-parts}
use Rattle.open_psa_writer.proofs.Truth.{all-at, or-right, or-true}

pub all-rec : {X : Type 0} (P : X → Type 0) (xs : List X) → AllByRecursion P xs → All P xs
all-rec P [] h i d fits = absurd (omega arith)
all-rec P (x ∷ xs) h zero d fits = h.0
all-rec P (x ∷ xs) h (suc i) d fits = all-rec P xs h.1 i d (omega arith)

rec-all : {X : Type 0} (P : X → Type 0) (xs : List X) → All P xs → AllByRecursion P xs
rec-all P [] h = tt
rec-all P (x ∷ xs) h = (h 0 x (omega arith), rec-all P xs (λ i d fits. h (suc i) d (omega arith)))

pub all-to : {X : Type 0} (P Q : X → Type 0) → ((x : X) → P x → Q x) → (xs : List X) → AllByRecursion P xs → AllByRecursion Q xs
all-to P Q f [] h = tt
all-to P Q f (x ∷ xs) h = (f x h.0, all-to P Q f xs h.1)

all-map : {X Y : Type 0} (P : X → Type 0) (Q : Y → Type 0) (f : X → Y) → ((x : X) → P x → Q (f x)) → (xs : List X) → AllByRecursion P xs → AllByRecursion Q (map f xs)
all-map P Q f g [] h = tt
all-map P Q f g (x ∷ xs) h = (g x h.0, all-map P Q f g xs h.1)

abbrev pub Differ : ℕ → ℕ → Type 0
Differ a b = a ≢ b

-- ---- names of gates differ

-- each is apart from all that follow
abbrev Apart : (MefGate → MefGate → Type 0) → List MefGate → Type 0
Apart R [] = Unit {0}
Apart R (x ∷ xs) = AllByRecursion (R x) xs × Apart R xs

apart-append : (R : MefGate → MefGate → Type 0) (xs ys : List MefGate) → Apart R xs → Apart R ys → AllByRecursion (λ x. AllByRecursion (R x) ys) xs → Apart R (xs ++ ys)
apart-append R [] ys h g each = g
apart-append R (x ∷ xs) ys h g each = (all-append (R x) xs ys h.0 each.0, apart-append R xs ys h.1 g each.1)

-- the names of two gates differ
abbrev Other : MefGate → MefGate → Type 0
Other a b = a.name ≢ b.name

abbrev name_in : MefGate → GateName
name_in gate = gate.name

apart-names : (gates : List MefGate) → Apart Other gates → NamesDiffer (map name_in gates)
apart-names [] h = λ i j d less fits. absurd (omega arith)
apart-names (x ∷ xs) h =
    AllPairs-cons (λ a b. a ≢ b) x.name (map name_in xs) (all-rec (λ b. x.name ≢ b) (map name_in xs) (all-map (Other x) (λ b. x.name ≢ b) name_in (λ y g. g) xs h.0)) (apart-names xs h.1)

-- the numbers of a name
number_of_name : GateName → ℕ
number_of_name (Own number) = number
number_of_name (Part number needed among) = number

needed_of : GateName → ℕ
needed_of (Own number) = 0
needed_of (Part number needed among) = needed

among_of : GateName → ℕ
among_of (Own number) = 0
among_of (Part number needed among) = among

-- ---- auxiliary gates

module _ (top number : ℕ) (ins : List Input) (least : ℕ) where
  abbrev cell : ℕ → ℕ → MefGate
  cell needed among = part_gate top number ins needed among

  row-apart : (needed a n : ℕ) → Apart Other (map (cell needed) (range_with_len a n))
  unfolding among_of
  row-apart needed a zero = tt
  row-apart needed a (suc n) = (
    to-map (Other (cell needed a)) (cell needed) (a + 1) n (λ k low high e. let same : a ≡ k = ap among_of e in omega (arith, same, low)),
    row-apart needed (a + 1) n,
  )

  rows-apart : (a n : ℕ) → Apart Other (flat_map (part_row top number ins least) (range_with_len a n))
  unfolding needed_of
  rows-apart a zero = tt
  rows-apart a (suc n) =
      apart-append Other (part_row top number ins least a) (flat_map (part_row top number ins least) (range_with_len (a + 1) n))
      (row-apart a a (length ins + 1 - least)) (rows-apart (a + 1) n)
      (to-map (λ x. AllByRecursion (Other x) (flat_map (part_row top number ins least) (range_with_len (a + 1) n))) (cell a) a (length ins + 1 - least)
      (λ k low high. to-rows (Other (cell a k)) (part_row top number ins least) (a + 1) n
      (λ needed from until. to-map (Other (cell a k)) (cell needed) needed (length ins + 1 - least) (λ m some most e. let same : a ≡ needed = ap needed_of e in omega (arith, same, from)))))

parts-apart : (top number : ℕ) (kind : GateKind) (ins : List Input) → Apart Other (kind_parts top number kind ins)
parts-apart top number And ins = tt
parts-apart top number Or ins = tt
parts-apart top number (AtLeast least) ins = by (is_spread least ins)
  where
    by : (b : Bool) → Apart Other (if b then part_rows top number ins least else [])
    by true = rows-apart top number ins least 1 least
    by false = tt

-- a gate of a position from a place on that is not the top's, or an auxiliary gate of it
record IsLater (top low : ℕ) (gate : MefGate) : Type 0 where
  position : ℕ
  from : low ≤ position
  other : position ≡ top → ⊥
  is : number_of_name gate.name ≡ gate_number top position

module _ (system : System) (top : ℕ) where
  abbrev numbered_at : ℕ → MefGate → Type 0
  numbered_at n gate = number_of_name gate.name ≡ gate_number top n

  group-numbered : (n : ℕ) (gate : Gate) → Group (numbered_at n) system top n gate
  unfolding number_of_name
  group-numbered n gate = (
    refl,
    to-parts (numbered_at n) top (gate_number top n) gate.kind gate.inputs (λ least needed among is spread some most low high fits. refl),
  )

  later : (low base : ℕ) → low ≤ base → (gates : List Gate) → AllByRecursion (IsLater top low) (gates_from system top base gates)
  later low base fits [] = tt
  later low base fits (g ∷ gates) = by (base == top) refl (later low (suc base) (omega arith) gates)
    where
      by : (b : Bool) → (base == top) ≡ b → AllByRecursion (IsLater top low) (gates_from system top (suc base) gates)
          → AllByRecursion (IsLater top low) (if b then gates_from system top (suc base) gates else (mef_gate system top base g ∷ (gate_parts top base g ++ gates_from system top (suc base) gates)))
      by true e rest = rest
      by false e rest =
          let group = group-numbered base g in
          let is_later : (x : MefGate) → numbered_at base x → IsLater top low x = λ x is. record { position = base; from = fits; other = eqb-false base top e; is = is } in (
            is_later (mef_gate system top base g) group.0,
            all-append (IsLater top low) (gate_parts top base g) (gates_from system top (suc base) gates)
                (all-to (numbered_at base) (IsLater top low) is_later (gate_parts top base g) group.1) rest,
          )

  -- the gate at a position and its auxiliary gates are apart from each other and from all of other positions
  group-apart : (n : ℕ) (gate : Gate) (others : List MefGate) → AllByRecursion (λ x. gate_number top n ≡ number_of_name x.name → ⊥) others → Apart Other others
      → Apart Other (mef_gate system top n gate ∷ (gate_parts top n gate ++ others))
  group-apart n gate others differ rest =
      let group = group-numbered n gate in
      let apart_from : (x : MefGate) → numbered_at n x → AllByRecursion (Other x) others
      = λ x is. all-to (λ y. gate_number top n ≡ number_of_name y.name → ⊥) (Other x) (λ y f e. f (sym is ∙ ap number_of_name e)) others differ in (
        all-append (Other (mef_gate system top n gate)) (gate_parts top n gate) others
            (to-parts (Other (mef_gate system top n gate)) top (gate_number top n) gate.kind gate.inputs
            (λ least needed among is spread some most low high fits e. own-other (gate_number top n) (gate_number top n) needed among e))
            (apart_from (mef_gate system top n gate) group.0),
        apart-append Other (gate_parts top n gate) others (parts-apart top (gate_number top n) gate.kind gate.inputs) rest
            (all-to (numbered_at n) (λ x. AllByRecursion (Other x) others) apart_from (gate_parts top n gate) group.1),
      )

  others-apart : (base : ℕ) (gates : List Gate) → Apart Other (gates_from system top base gates)
  others-apart base [] = tt
  others-apart base (g ∷ gates) = by (base == top) (others-apart (suc base) gates) (later (suc base) (suc base) (omega arith) gates)
    where
      by : (b : Bool) → Apart Other (gates_from system top (suc base) gates) → AllByRecursion (IsLater top (suc base)) (gates_from system top (suc base) gates)
          → Apart Other (if b then gates_from system top (suc base) gates else (mef_gate system top base g ∷ (gate_parts top base g ++ gates_from system top (suc base) gates)))
      by true rest behind = rest
      by false rest behind =
          group-apart base g (gates_from system top (suc base) gates)
          (all-to (IsLater top (suc base)) (λ x. gate_number top base ≡ number_of_name x.name → ⊥)
          (λ x is e. let same : base ≡ is.position = one-position top base is.position (e ∙ is.is) in omega (arith, same, is.from)) (gates_from system top (suc base) gates) behind) rest

-- ---- numbers of events differ

abbrev number_of_event : MefEvent → ℕ
number_of_event event = event.number

events-differ : (system : System) (rates : List Rate) (events : List ℕ) → AllPairs Differ events → AllPairs Differ (map number_of_event (map (mef_event system rates) events))
events-differ system rates [] h = λ i j d less fits. absurd (omega arith)
events-differ system rates (k ∷ events) h =
    let differ : AllByRecursion (λ n. k ≢ n) events = rec-all (λ n. k ≢ n) events (λ j d fits. h 0 (suc j) d (omega arith) (omega arith)) in
    AllPairs-cons Differ (k + 1) (map number_of_event (map (mef_event system rates) events))
    (all-rec (λ m. k + 1 ≢ m) (map number_of_event (map (mef_event system rates) events))
    (all-map (λ (event : MefEvent). k + 1 ≢ event.number) (λ m. k + 1 ≢ m) number_of_event (λ event g. g) (map (mef_event system rates) events)
    (all-map (λ n. k ≢ n) (λ (event : MefEvent). k + 1 ≢ event.number) (mef_event system rates) (λ n g e. g (omega (arith, e))) events differ)))
    (events-differ system rates events (λ i j d less fits. h (suc i) (suc j) d (omega arith) (omega arith)))

-- ---- each input is defined

beyond : (a b : ℕ) → a ≤ b → (a ≡ b → ⊥) → a < b
beyond a b h other = ⊎_elim (λ (less : a < b). less) (λ (most : b ≤ a). absurd (other (omega (arith, most, h)))) (cases_lt a b)

get-mapped : {X Y : Type 0} (P : Y → Type 0) (f : X → Y) (xs : List X) (other : X) → AllByRecursion P (map f xs) → (d : ℕ) → d < length xs → P (f (slice_index_or xs d other))
get-mapped P f [] other all d fits = absurd (omega arith)
get-mapped P f (x ∷ xs) other all zero fits = all.0
get-mapped P f (x ∷ xs) other all (suc d) fits = get-mapped P f xs other all.1 d (omega arith)

all-among : {X Y : Type 0} (f : X → Y) (all xs : List X) → ((x : X) → In x xs → In x all) → AllByRecursion (λ x. In (f x) (map f all)) xs
all-among f all [] each = tt
all-among f all (x ∷ xs) each = (In-mapped f x all (each x (inl refl)), all-among f all xs (λ y i. each y (inr i)))

module _ (system : System) (tree : Tree) (made : IsMefTree system tree) (rates : List Rate) where
  abbrev mef : Mef
  mef = tree_mef system tree rates

  abbrev names : List GateName
  names = map name_in (gates_of mef)

  group-named : (n : ℕ) (gate : Gate) → slice_get tree.gates n ≡ Some gate → Group (λ gate. In gate.name names) system tree.top n gate
  group-named = each-gate (λ gate. In gate.name names) system tree rates (all-among name_in (gates_of mef) (gates_of mef) (λ x i. i))

  gate-defined : (n : ℕ) → n < length tree.gates → IsDefined mef (numbered tree.top (inputs.Gate n))
  gate-defined n fits =
      let there = item-there tree.gates n fits in
      contains_In (Own (gate_number tree.top n)) names (group-named n there.0 there.1).0

  event-defined : (n : ℕ) → In n tree.events → IsDefined mef (numbered tree.top (inputs.Event n))
  event-defined n i =
      contains_In (n + 1) (map number_of_event mef.events) (In-mapped number_of_event (mef_event system rates n) mef.events (In-mapped (mef_event system rates) n tree.events i))

  inputs-defined : (ins : List Input) → AllByRecursion (IsWithin (length system.events) (length tree.gates)) ins → ((event : ℕ) → list_any (is_event event) ins ≡ true → In event tree.events)
      → AllByRecursion (IsDefined mef) (map (numbered tree.top) ins)
  inputs-defined [] inside among = tt
  inputs-defined (inputs.Event n ∷ ins) inside among = (
    event-defined n (among n (or-true (n == n) (list_any (is_event n) ins) (eq-eqb n n refl))),
    inputs-defined ins inside.1 (λ event e. among event (or-right (n == event) (list_any (is_event event) ins) e)),
  )
  inputs-defined (inputs.Gate n ∷ ins) inside among = (gate-defined n inside.0, inputs-defined ins inside.1 (λ event e. among event e))

  -- an auxiliary gate of a gate that counts
  part-defined : (n : ℕ) (gate : Gate) → slice_get tree.gates n ≡ Some gate → (least : ℕ) → gate.kind ≡ AtLeast least → is_spread least gate.inputs ≡ true
      → (needed among : ℕ) → 1 ≤ needed → needed ≤ least → needed ≤ among → among ≤ needed + (length gate.inputs - least) → least ≤ length gate.inputs
      → IsDefined mef (part (gate_number tree.top n) needed among)
  part-defined n gate at least is spread needed among some most low high fits =
      contains_In (Part (gate_number tree.top n) needed among) names
      (from-parts (λ gate. In gate.name names) tree.top (gate_number tree.top n) least gate.inputs spread
      (subst (λ kind. AllByRecursion (λ (gate : MefGate). In gate.name names) (kind_parts tree.top (gate_number tree.top n) kind gate.inputs)) is (group-named n gate at).1)
      needed among some most low high fits)

  abbrev Defined : MefGate → Type 0
  Defined gate = AllByRecursion (IsDefined mef) (inputs_of gate.formula)

  -- all inputs of an auxiliary gate
  part-inputs : (number : ℕ) (first : MefInput) (needed among : ℕ) → IsDefined mef first → 1 ≤ needed → needed ≤ among
      → (1 < needed → IsDefined mef (part number (needed - 1) (among - 1))) → (needed < among → IsDefined mef (part number needed (among - 1)))
      → AllByRecursion (IsDefined mef) (inputs_of (part_formula number first needed among))
  part-inputs number first needed among is some inside less same = by (among == 1) refl (needed == 1) refl (needed == among) refl
    where
      more : (needed == 1) ≡ false → 1 < needed
      more e = let other : needed ≡ 1 → ⊥ = eqb-false needed 1 e in beyond 1 needed some (λ one. other (sym one))

      below : (needed == among) ≡ false → needed < among
      below e = beyond needed among inside (eqb-false needed among e)

      by : (b : Bool) → (among == 1) ≡ b → (c : Bool) → (needed == 1) ≡ c → (d : Bool) → (needed == among) ≡ d
          → AllByRecursion (IsDefined mef) (inputs_of (if b then Over Or (first ∷ []) else if c then Over Or (first ∷ part number needed (among - 1) ∷ [])
          else if d then Over And (first ∷ part number (needed - 1) (among - 1) ∷ []) else Choice first (part number (needed - 1) (among - 1)) (part number needed (among - 1))))
      by true e c f d i = (is, tt)
      by false e true f d i =
          let one : needed ≡ 1 = eqb-true needed 1 f in
          let other : 1 < among = beyond 1 among (omega (arith, one, inside)) (λ h. eqb-false among 1 e (sym h)) in
          (is, (same (omega (arith, one, other)), tt))
      by false e false f true i = (is, (less (more f), tt))
      by false e false f false i = (is, (less (more f), (same (below i), tt)))

  whole-inputs : (n : ℕ) (gate : Gate) → slice_get tree.gates n ≡ Some gate → (kind : GateKind) → gate.kind ≡ kind → MayHave kind (length gate.inputs)
      → AllByRecursion (IsDefined mef) (map (numbered tree.top) gate.inputs) → AllByRecursion (IsDefined mef) (inputs_of (whole_formula tree.top (gate_number tree.top n) kind gate.inputs))
  whole-inputs n gate at And is may all = all
  whole-inputs n gate at Or is may all = all
  whole-inputs n gate at (AtLeast least) is may all = by (is_spread least gate.inputs) refl
    where
      by : (b : Bool) → is_spread least gate.inputs ≡ b
          → AllByRecursion (IsDefined mef)
          (inputs_of (if b then Over Or (part (gate_number tree.top n) least (length gate.inputs) ∷ []) else Over (AtLeast least) (map (numbered tree.top) gate.inputs)))
      by true spread =
          (part-defined n gate at least is spread least (length gate.inputs) (omega (arith, may.0)) (omega arith) (omega (arith, may.1)) (omega (arith, may.1)) (omega (arith, may.1)), tt)
      by false spread = all

  group-defined : (n : ℕ) (gate : Gate) → slice_get tree.gates n ≡ Some gate → Group Defined system tree.top n gate
  group-defined n gate at =
      let is = all-at (IsMefGate system (length tree.gates)) tree.gates made.gates n gate at in
      let among_events = all-at (HasInputEvents tree) tree.gates made.has_events n gate at in
      let all = inputs-defined gate.inputs is.inputs (λ event e. In-contains event tree.events (among_events event e)) in (
        whole-inputs n gate at gate.kind refl is.count all,
        to-parts Defined tree.top (gate_number tree.top n) gate.kind gate.inputs
            (λ least needed among kind spread some most low high fits.
            part-inputs (gate_number tree.top n) (numbered tree.top (slice_index_or gate.inputs (length gate.inputs - among) (inputs.Event 0))) needed among
            (get-mapped (IsDefined mef) (numbered tree.top) gate.inputs (inputs.Event 0) all (length gate.inputs - among) (omega (arith, some, most, low, high, fits))) some low
            (λ more. part-defined n gate at least kind spread (needed - 1) (among - 1) (omega (arith, more)) (omega (arith, most)) (omega (arith, low, more)) (omega (arith, high, more)) fits)
            (λ below. part-defined n gate at least kind spread needed (among - 1) some most (omega (arith, below)) (omega (arith, high)) fits)),
      )

  -- the text of a tree defines each of its names once
  pub mef-sound : IsSoundMef mef
  mef-sound =
      record {
        gates =
            apart-names (gates_of mef)
            (group-apart system tree.top tree.top (top_gate tree) (gates_from system tree.top 0 tree.gates)
            (all-to (IsLater tree.top 0) (λ x. gate_number tree.top tree.top ≡ number_of_name x.name → ⊥)
            (λ x is e. is.other (sym (one-position tree.top tree.top is.position (e ∙ is.is)))) (gates_from system tree.top 0 tree.gates) (later system tree.top 0 0 (omega arith) tree.gates))
            (others-apart system tree.top 0 tree.gates));
        events = events-differ system rates tree.events made.events_differ;
        inputs = all-gates Defined system tree rates made.top_in group-defined;
      }
