-- What is written of a gate determines its kind and its inputs, where it is written by auxiliary gates too.
use Rattle.std.proofs.Common.{ℕ, suc, ◌+◌, ◌-◌, ◌≡◌, ◌<◌, ◌≤◌, ◌==◌, Bool, true, false, if◌then◌else◌, List, [], ◌∷◌, ◌++◌, length, map, slice_index_or, ⊎_elim, ap, ◌∙◌, sym, subst, refl, arith}
use Rattle.std.specs.List.{AllByRecursion, flat_map}
use Rattle.std.proofs.lemmas.Bool.{cases_lt, false≢true}
use Rattle.fault_system.specs.Systems.{System}
use Rattle.property_reader.specs.declared.rate.Rate.{Rate}
use Rattle.round_gates.specs.declared.node.GateKind.{GateKind}
use Rattle.round_gates.specs.declared.node.GateKind.TheVariants.{And, Or, AtLeast}
use Rattle.round_gates.specs.declared.tree.Gate.{Gate}
use Rattle.round_gates.specs.declared.tree.Input.{Input}
use Rattle.round_gates.specs.declared.tree.Input.TheVariants as inputs
use Rattle.round_gates.specs.declared.tree.Tree.{Tree}
use Rattle.round_gates.specs.inner.Targets.{MayHave}
use Rattle.galileo_writer.specs.TreeText.{gate_name}
use Rattle.galileo_writer.proofs.Names.{item-there}
use Rattle.std.proofs.lemmas.Option.{get_or_from_slice_get}
use Rattle.open_psa_writer.specs.Mef.{Choice, EventInput, GateName, MefFormula, MefGate, MefInput, Over, Own, Part}
use Rattle.open_psa_writer.specs.Sound.{gates_of, inputs_of}
use Rattle.open_psa_writer.specs.inner.TreeMef.{IsMefGate, IsMefTree, PlacedGate, numbered_gate, numbered_gates, placed_from, placed_gates}
use Rattle.open_psa_writer.specs.TreeMef.{gate_number, gate_parts, gates_from, is_spread, kind_parts, mef_gate, no_gate, numbered, part, part_formula, top_gate, tree_mef, whole_formula}
use Rattle.open_psa_writer.proofs.Positions.{from-parts, to-parts}
use Rattle.open_psa_writer.proofs.Truth.{all-at}

-- ---- parts of formulas

kind_of : MefFormula → GateKind
kind_of (Over kind ins) = kind
kind_of (Choice first second third) = Or

first_in : List MefInput → MefInput
first_in [] = EventInput 0
first_in (first ∷ rest) = first

-- an auxiliary gate shows its first input
part-first : (number : ℕ) (first : MefInput) (needed among : ℕ) → first_in (inputs_of (part_formula number first needed among)) ≡ first
unfolding first_in
part-first number first needed among = by (among == 1) (needed == 1) (needed == among)
  where
    by : (b c d : Bool)
        → first_in (inputs_of (if b then Over Or (first ∷ []) else if c then Over Or (first ∷ part number needed (among - 1) ∷ [])
        else if d then Over And (first ∷ part number (needed - 1) (among - 1) ∷ []) else Choice first (part number (needed - 1) (among - 1)) (part number needed (among - 1)))) ≡ first
    by true c d = refl
    by false true d = refl
    by false false true = refl
    by false false false = refl

or-counts : (least : ℕ) → Or ≡ AtLeast least → ⊥
or-counts least e = cc

and-counts : (least : ℕ) → And ≡ AtLeast least → ⊥
and-counts least e = cc

and-or : And ≡ Or → ⊥
and-or e = cc

kinds-same : (k l : GateKind) (xs ys : List MefInput) → Over k xs ≡ Over l ys → (k ≡ l) × (xs ≡ ys)
unfolding kind_of
kinds-same k l xs ys e = (ap kind_of e, ap inputs_of e)

-- no input of a tree is an auxiliary gate
no-part : (top number needed among : ℕ) (ins : List Input) → map (numbered top) ins ≡ part number needed among ∷ [] → ⊥
no-part top number needed among [] e = cc
no-part top number needed among (inputs.Event n ∷ ins) e = cc
no-part top number needed among (inputs.Gate n ∷ ins) e = cc

-- what is written of a gate that counts is not of another kind
module _ (top other number : ℕ) (least : ℕ) (ins : List Input) where
  not-and : (xs : List MefInput) → Over And xs ≡ whole_formula top number (AtLeast least) ins → ⊥
  not-and xs e = by (is_spread least ins) e
    where
      by : (b : Bool) → Over And xs ≡ (if b then Over Or (part number least (length ins) ∷ []) else Over (AtLeast least) (map (numbered top) ins)) → ⊥
      by true h = and-or (kinds-same And Or _ _ h).0
      by false h = and-counts least (kinds-same And (AtLeast least) _ _ h).0

  not-or : (jns : List Input) → Over Or (map (numbered other) jns) ≡ whole_formula top number (AtLeast least) ins → ⊥
  not-or jns e = by (is_spread least ins) e
    where
      by : (b : Bool) → Over Or (map (numbered other) jns) ≡ (if b then Over Or (part number least (length ins) ∷ []) else Over (AtLeast least) (map (numbered top) ins)) → ⊥
      by true h = no-part other number least (length ins) jns (kinds-same Or Or _ _ h).1
      by false h = or-counts least (kinds-same Or (AtLeast least) _ _ h).0

-- ---- two gates that count

part-numbers : (a b c x y z : ℕ) → Part a b c ≡ Part x y z → (b ≡ y) × (c ≡ z)
part-numbers a b c x y z e = (cc, cc)

only-part : (a b c x y z : ℕ) → Over Or (part a b c ∷ []) ≡ Over Or (part x y z ∷ []) → (b ≡ y) × (c ≡ z)
only-part a b c x y z e = (cc, cc)

counts-same : (k l : ℕ) → AtLeast k ≡ AtLeast l → k ≡ l
counts-same k l e = cc

-- lists of one length with the same at each position are one
pointwise : (top other : ℕ) (ins jns : List Input) → length ins ≡ length jns
    → ((d : ℕ) → d < length ins → numbered top (slice_index_or ins d (inputs.Event 0)) ≡ numbered other (slice_index_or jns d (inputs.Event 0))) → map (numbered top) ins ≡ map (numbered other) jns
pointwise top other [] [] long each = refl
pointwise top other [] (y ∷ ys) long each = absurd (omega (arith, long))
pointwise top other (x ∷ xs) [] long each = absurd (omega (arith, long))
pointwise top other (x ∷ xs) (y ∷ ys) long each =
    let here : numbered top x ≡ numbered other y = each 0 (omega arith) in
    let rest = pointwise top other xs ys (omega (arith, long)) (λ d fits. each (suc d) (omega (arith, fits))) in
    λ i. here i ∷ rest i

-- an auxiliary gate is that of these inputs
abbrev IsPartOf : ℕ → ℕ → List Input → MefGate → Type 0
IsPartOf top number ins gate =
    (needed among : ℕ) → gate.name ≡ Part number needed among
    → gate.formula ≡ part_formula number (numbered top (slice_index_or ins (length ins - among) (inputs.Event 0))) needed among

module _ (top other number : ℕ) (ins jns : List Input) where
  -- where both are written by auxiliary gates
  spread-same : (k l : ℕ) → 1 ≤ l → l < length jns → is_spread l jns ≡ true → kind_parts top number (AtLeast k) ins ≡ kind_parts other number (AtLeast l) jns → length ins ≡ length jns
      → map (numbered top) ins ≡ map (numbered other) jns
  spread-same k l some_asked fits spread same long = pointwise top other ins jns long each
    where
      ours : AllByRecursion (IsPartOf top number ins) (kind_parts top number (AtLeast k) ins)
      ours =
          to-parts (IsPartOf top number ins) top number (AtLeast k) ins
          (λ least needed among kind spread some most low high inside j m e.
          let both = part-numbers number needed among number j m e in
          λ i. part_formula number (numbered top (slice_index_or ins (length ins - both.1 i) (inputs.Event 0))) (both.0 i) (both.1 i))

      theirs : AllByRecursion (IsPartOf top number ins) (kind_parts other number (AtLeast l) jns)
      theirs = subst (AllByRecursion (IsPartOf top number ins)) same ours

      one : (needed among : ℕ) → 1 ≤ needed → needed ≤ l → needed ≤ among → among ≤ needed + (length jns - l)
          → numbered other (slice_index_or jns (length jns - among) (inputs.Event 0)) ≡ numbered top (slice_index_or ins (length ins - among) (inputs.Event 0))
      one needed among some most low high =
          let formula = from-parts (IsPartOf top number ins) other number l jns spread theirs needed among some most low high (omega (arith, fits)) needed among refl in
          sym (part-first number (numbered other (slice_index_or jns (length jns - among) (inputs.Event 0))) needed among)
          ∙ ap (λ f. first_in (inputs_of f)) formula
          ∙ part-first number (numbered top (slice_index_or ins (length ins - among) (inputs.Event 0))) needed among

      at : (among : ℕ) → 1 ≤ among → among ≤ length jns
          → numbered other (slice_index_or jns (length jns - among) (inputs.Event 0)) ≡ numbered top (slice_index_or ins (length ins - among) (inputs.Event 0))
      at among some within =
          ⊎_elim (λ (more : l < among). one l among some_asked (omega arith) (omega (arith, more)) (omega (arith, within, fits)))
          (λ (few : among ≤ l). one among among some few (omega arith) (omega arith)) (cases_lt l among)

      each : (d : ℕ) → d < length ins → numbered top (slice_index_or ins d (inputs.Event 0)) ≡ numbered other (slice_index_or jns d (inputs.Event 0))
      each d inside =
          let here : length ins - (length ins - d) ≡ d = omega (arith, inside) in
          let there : length jns - (length ins - d) ≡ d = omega (arith, inside, long) in
          ap (λ n. numbered top (slice_index_or ins n (inputs.Event 0))) (sym here)
          ∙ sym (at (length ins - d) (omega (arith, inside)) (omega (arith, long)))
          ∙ ap (λ n. numbered other (slice_index_or jns n (inputs.Event 0))) there

  counted-same : (k l : ℕ) → 1 ≤ l → l < length jns → whole_formula top number (AtLeast k) ins ≡ whole_formula other number (AtLeast l) jns
      → kind_parts top number (AtLeast k) ins ≡ kind_parts other number (AtLeast l) jns → (AtLeast k ≡ AtLeast l) × (map (numbered top) ins ≡ map (numbered other) jns)
  counted-same k l some_asked fits e same = by (is_spread k ins) (is_spread l jns) refl e
    where
      by : (b c : Bool) → is_spread l jns ≡ c
          → (if b then Over Or (part number k (length ins) ∷ []) else Over (AtLeast k) (map (numbered top) ins))
          ≡ (if c then Over Or (part number l (length jns) ∷ []) else Over (AtLeast l) (map (numbered other) jns))
          → (AtLeast k ≡ AtLeast l) × (map (numbered top) ins ≡ map (numbered other) jns)
      by true true spread h =
          let both = only-part number k (length ins) number l (length jns) h in
          (ap AtLeast both.0, spread-same k l some_asked fits spread same both.1)
      by true false spread h = absurd (or-counts l (kinds-same Or (AtLeast l) _ _ h).0)
      by false true spread h = absurd (or-counts k (sym (kinds-same (AtLeast k) Or _ _ h).0))
      by false false spread h = kinds-same (AtLeast k) (AtLeast l) _ _ h

  -- kinds and inputs are the same where formulas and auxiliary gates are
  pub whole-same : (k l : GateKind) → MayHave l (length jns) → whole_formula top number k ins ≡ whole_formula other number l jns
      → kind_parts top number k ins ≡ kind_parts other number l jns → (k ≡ l) × (map (numbered top) ins ≡ map (numbered other) jns)
  whole-same And And may e same = kinds-same And And _ _ e
  whole-same And Or may e same = absurd (and-or (kinds-same And Or _ _ e).0)
  whole-same Or And may e same = absurd (and-or (sym (kinds-same Or And _ _ e).0))
  whole-same Or Or may e same = kinds-same Or Or _ _ e
  whole-same And (AtLeast l) may e same = absurd (not-and other top number l jns _ e)
  whole-same Or (AtLeast l) may e same = absurd (not-or other top number l jns ins e)
  whole-same (AtLeast k) And may e same = absurd (not-and top other number k ins _ (sym e))
  whole-same (AtLeast k) Or may e same = absurd (not-or top other number k ins jns (sym e))
  whole-same (AtLeast k) (AtLeast l) may e same = counted-same k l (omega (arith, may.0)) may.1 e same

-- ---- lists of gates with their auxiliary gates

is_own : GateName → Bool
is_own (Own number) = true
is_own (Part number needed among) = false

-- the first gate is no auxiliary one
StartsOwn : List MefGate → Type 0
StartsOwn [] = Unit {0}
StartsOwn (gate ∷ gates) = is_own gate.name ≡ true

abbrev ArePart : List MefGate → Type 0
ArePart gates = AllByRecursion (λ gate. is_own gate.name ≡ false) gates

apart-own : (x y : MefGate) → x ≡ y → is_own x.name ≡ false → is_own y.name ≡ true → ⊥
apart-own x y same f g = false≢true (sym f ∙ ap (λ gate. is_own gate.name) same ∙ g)

cut-parts : (xs ys r s : List MefGate) → ArePart xs → ArePart ys → StartsOwn r → StartsOwn s → xs ++ r ≡ ys ++ s → (xs ≡ ys) × (r ≡ s)
unfolding StartsOwn
cut-parts [] [] r s p q f g e = (refl, e)
cut-parts [] (y ∷ ys) [] s p q f g e = absurd (nothing e)
  where
    nothing : [] ≡ y ∷ (ys ++ s) → ⊥
    nothing h = cc
cut-parts [] (y ∷ ys) (x ∷ r) s p q f g e = absurd (apart-own y x (sym (head e)) q.0 f)
  where
    head : x ∷ r ≡ y ∷ (ys ++ s) → x ≡ y
    head h = cc
cut-parts (x ∷ xs) [] r [] p q f g e = absurd (nothing e)
  where
    nothing : x ∷ (xs ++ r) ≡ [] → ⊥
    nothing h = cc
cut-parts (x ∷ xs) [] r (y ∷ s) p q f g e = absurd (apart-own x y (head e) p.0 g)
  where
    head : x ∷ (xs ++ r) ≡ y ∷ s → x ≡ y
    head h = cc
cut-parts (x ∷ xs) (y ∷ ys) r s p q f g e =
    let head : x ≡ y = cc in
    let tail : xs ++ r ≡ ys ++ s = cc in
    let rest = cut-parts xs ys r s p.1 q.1 f g tail in
    ((λ i. head i ∷ rest.0 i), rest.1)

module _ (system : System) where
  abbrev group : ℕ → PlacedGate → List MefGate
  group top placed = mef_gate system top placed.at placed.gate ∷ gate_parts top placed.at placed.gate

  abbrev groups : ℕ → List PlacedGate → List MefGate
  groups top gates = flat_map (group top) gates

  abbrev MayBe : PlacedGate → Type 0
  MayBe placed = MayHave placed.gate.kind (length placed.gate.inputs)

  are-part : (top n : ℕ) (gate : Gate) → ArePart (gate_parts top n gate)
  unfolding is_own
  are-part top n gate =
      to-parts (λ gate. is_own gate.name ≡ false) top (gate_number top n) gate.kind gate.inputs (λ least needed among kind spread some most low high inside. refl)

  starts-own : (top : ℕ) (gates : List PlacedGate) → StartsOwn (groups top gates)
  unfolding is_own StartsOwn
  starts-own top [] = tt
  starts-own top (g ∷ gates) = refl

  own-number : (m n : ℕ) → Own m ≡ Own n → m ≡ n
  own-number m n e = cc

  one-same : (top other : ℕ) (a b : PlacedGate) → MayBe b → mef_gate system top a.at a.gate ≡ mef_gate system other b.at b.gate
      → gate_parts top a.at a.gate ≡ gate_parts other b.at b.gate → numbered_gate system top a ≡ numbered_gate system other b
  one-same top other a b may e same =
      let number : gate_number top a.at ≡ gate_number other b.at = own-number (gate_number top a.at) (gate_number other b.at) (ap (λ (gate : MefGate). gate.name) e) in
      let label : gate_name system a.gate ≡ gate_name system b.gate = ap (λ (gate : MefGate). gate.label) e in
      let formula = ap (λ (gate : MefGate). gate.formula) e ∙ ap (λ n. whole_formula other n b.gate.kind b.gate.inputs) (sym number) in
      let both = whole-same top other (gate_number top a.at) a.gate.inputs b.gate.inputs a.gate.kind b.gate.kind may formula (same ∙ ap (λ n. kind_parts other n b.gate.kind b.gate.inputs) (sym number)) in
      λ i. record { number = number i; label = label i; kind = both.0 i; inputs = both.1 i }

  groups-same : (top other : ℕ) (xs ys : List PlacedGate) → AllByRecursion MayBe ys → groups top xs ≡ groups other ys → map (numbered_gate system top) xs ≡ map (numbered_gate system other) ys
  groups-same top other [] [] may e = refl
  groups-same top other [] (y ∷ ys) may e = absurd (nothing e)
    where
      nothing : [] ≡ groups other (y ∷ ys) → ⊥
      nothing h = cc
  groups-same top other (x ∷ xs) [] may e = absurd (nothing e)
    where
      nothing : groups top (x ∷ xs) ≡ [] → ⊥
      nothing h = cc
  groups-same top other (x ∷ xs) (y ∷ ys) may e =
      let head : mef_gate system top x.at x.gate ≡ mef_gate system other y.at y.gate = heads e in
      let rest = cut-parts (gate_parts top x.at x.gate) (gate_parts other y.at y.gate) (groups top xs) (groups other ys)
      (are-part top x.at x.gate) (are-part other y.at y.gate) (starts-own top xs) (starts-own other ys) (tails e) in
      let here = one-same top other x y may.0 head rest.0 in
      let more = groups-same top other xs ys may.1 rest.1 in
      λ i. here i ∷ more i
    where
      heads : groups top (x ∷ xs) ≡ groups other (y ∷ ys) → mef_gate system top x.at x.gate ≡ mef_gate system other y.at y.gate
      heads h = cc

      tails : groups top (x ∷ xs) ≡ groups other (y ∷ ys) → gate_parts top x.at x.gate ++ groups top xs ≡ gate_parts other y.at y.gate ++ groups other ys
      tails h = cc

  -- the gates of a text are those of the tree with their auxiliary gates
  placed-groups : (top base : ℕ) (gates : List Gate) → gates_from system top base gates ≡ groups top (placed_from top base gates)
  placed-groups top base [] = refl
  placed-groups top base (g ∷ gates) = by (base == top) (placed-groups top (suc base) gates)
    where
      by : (c : Bool) → gates_from system top (suc base) gates ≡ groups top (placed_from top (suc base) gates)
          → (if c then gates_from system top (suc base) gates else mef_gate system top base g ∷ (gate_parts top base g ++ gates_from system top (suc base) gates))
          ≡ groups top (if c then placed_from top (suc base) gates else record { at = base; gate = g } ∷ placed_from top (suc base) gates)
      by true e = e
      by false e = ap (λ rest. mef_gate system top base g ∷ (gate_parts top base g ++ rest)) e

  may-from : (top base : ℕ) (gates : List Gate) → AllByRecursion (λ (gate : Gate). MayHave gate.kind (length gate.inputs)) gates → AllByRecursion MayBe (placed_from top base gates)
  may-from top base [] all = tt
  may-from top base (g ∷ gates) all = by (base == top) (may-from top (suc base) gates all.1)
    where
      by : (c : Bool) → AllByRecursion MayBe (placed_from top (suc base) gates) → AllByRecursion MayBe (if c then placed_from top (suc base) gates else record { at = base; gate = g } ∷ placed_from top (suc base) gates)
      by true rest = rest
      by false rest = (all.0, rest)

  all-may : (count : ℕ) (gates : List Gate) → AllByRecursion (IsMefGate system count) gates → AllByRecursion (λ (gate : Gate). MayHave gate.kind (length gate.inputs)) gates
  all-may count [] all = tt
  all-may count (g ∷ gates) all = (all.0.count, all-may count gates all.1)

  -- trees of one text have the same gates
  pub gates-read : (a b : Tree) (first second : List Rate) → IsMefTree system b → tree_mef system a first ≡ tree_mef system b second → numbered_gates system a ≡ numbered_gates system b
  gates-read a b first second made same =
      let there = item-there b.gates b.top made.top_in in
      let top_may : MayHave (top_gate b).kind (length (top_gate b).inputs)
      = subst (λ (gate : Gate). MayHave gate.kind (length gate.inputs)) (sym (get_or_from_slice_get b.gates b.top there.0 no_gate there.1))
      (all-at (λ (gate : Gate). MayHave gate.kind (length gate.inputs)) b.gates (all-may (length b.gates) b.gates made.gates) b.top there.0 there.1) in
      groups-same a.top b.top (placed_gates a) (placed_gates b) (top_may, may-from b.top 0 b.gates (all-may (length b.gates) b.gates made.gates))
      (sym (whole a first) ∙ ap gates_of same ∙ whole b second)
    where
      whole : (tree : Tree) (rates : List Rate) → gates_of (tree_mef system tree rates) ≡ groups tree.top (placed_gates tree)
      whole tree rates =
          ap (λ rest. mef_gate system tree.top tree.top (top_gate tree) ∷ (gate_parts tree.top tree.top (top_gate tree) ++ rest)) (placed-groups tree.top 0 tree.gates)
