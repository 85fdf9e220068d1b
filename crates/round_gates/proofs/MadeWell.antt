-- Each tree of a target is well made.
use Rattle.std.proofs.Common.{ℕ, zero, suc, ◌+◌, ◌*◌, ◌≡◌, ◌≢◌, ◌<◌, ◌≤◌, Bool, true, false, cond, ◌||◌, ◌==◌, List, [], ◌∷◌, length, map, filter, get_or, slice_get, Contains, Some, None, ◌⊎◌, ⊎_elim, ap, ◌∙◌, sym, subst, refl, arith}
use Rattle.std.proofs.lemmas.Bool.{false≢true, eqb-true, eq-eqb, ne_eqb}
use Rattle.std.proofs.lemmas.Option.{slice_get_within, slice_get_cases}
use Rattle.std.proofs.lemmas.List.Elements.{All-get_or}
use Rattle.std.specs.List.{AllByRecursion, range_with_len}
use lib.ListN.{length-map}
use Rattle.fault_system.specs.Systems.{System, IsSystem, IsFact}
use Rattle.fault_system.specs.declared.formula.FactInfo.{FactInfo}
use Rattle.fault_system.specs.declared.formula.Formula.{Formula, map-Formula, roll-Formula, fold-roll-Formula, ind-Formula}
use Rattle.fault_system.specs.declared.formula.Formula.TheOpen.{Formula-F, True, Event, Fact, And, Or, AtLeast}
use Rattle.backward_slice.specs.Slices.{IsSlice}
use Rattle.backward_slice.specs.declared.parts.Slice.{Slice}
use Rattle.dependency_blocks.specs.Blocks.{BlockNumbers, IsBlocks, number_of, size_of}
use Rattle.round_gates.specs.declared.node.Node.{Node}
use Rattle.round_gates.specs.declared.node.Node.TheVariants as nodes
use Rattle.round_gates.specs.declared.tree.Gate.{Gate}
use Rattle.round_gates.specs.declared.tree.Input.{Input}
use Rattle.round_gates.specs.declared.tree.Input.TheVariants as inputs
use Rattle.round_gates.specs.declared.tree.Tree.{Tree}
use Rattle.round_gates.specs.Staged.{fact_places, stage_places, all_places, most_places}
use Rattle.round_gates.specs.Stages.{last_node}
use Rattle.round_gates.specs.Targets.{IsTreeFor}
use Rattle.round_gates.specs.inner.Targets.{IsWellMade, IsWellMadeGate, IsWithin, MayHave}
use Rattle.round_gates.specs.Trees.{IsGateTree, IsTreeOf, InputsOnce, event_tree, has_gate, line_of, node_of}
use Rattle.round_gates.specs.Walks.{places, places_step}
use Rattle.round_gates.proofs.Basics.{or_left, or_right, some_inner}
use Rattle.round_gates.proofs.GatePlaces.{IsGateAt, gate-at, low-ranged}
use Rattle.fault_system.proofs.NumberSets.{RisesWithin-each}
use Rattle.round_gates.proofs.Wholes.{size-positive, target-inside, total-at}

all-from : {X : Type 0} (P : X → Type 0) (xs : List X) → ((n : ℕ) (x : X) → slice_get xs n ≡ Some x → P x) → AllByRecursion P xs
all-from P [] each = tt
all-from P (x ∷ xs) each = (each 0 x refl, all-from P xs (λ n y at. each (suc n) y at))

-- a formula has a place
pub places-some : (f : Formula) → 0 < places f
places-some = ind-Formula (λ f. 0 < places f) (λ x y is. rolled x (subst (λ (z : Formula-F Formula). 0 < places_step (map-Formula Formula ℕ places z)) is (layer y)))
  where
    rolled : (x : Formula-F Formula) → 0 < places_step (map-Formula Formula ℕ places x) → 0 < places (roll-Formula x)
    rolled x h = subst (λ (n : ℕ). 0 < n) (sym (fold-roll-Formula ℕ places_step x)) h

    layer : (y : Formula-F ((f : Formula) × (0 < places f))) → 0 < places_step (map-Formula Formula ℕ places (map-Formula ((f : Formula) × (0 < places f)) Formula (λ p. p.0) y))
    layer True = omega arith
    layer (Event n) = omega arith
    layer (Fact n) = omega arith
    layer (And ps) = omega arith
    layer (Or ps) = omega arith
    layer (AtLeast k ps) = omega arith

-- a product of two numbers that are not 0 is at least as great as each
pub product-bounds : (s p : ℕ) → 0 < s → 0 < p → (s ≤ s * p) × (p ≤ s * p)
product-bounds zero p h k = absurd (omega arith)
product-bounds (suc s) zero h k = absurd (omega arith)
product-bounds (suc s) (suc p) h k = let e : suc s * suc p ≡ s * p + s + p + 1 = omega arith in (omega arith, omega arith)

module _ (system : System) (facts : List ℕ) (numbers : BlockNumbers) (blocks : IsBlocks system facts numbers) (few : all_places system numbers facts ≤ most_places) where
  -- all stages of a fact have few places, and so has its formula; and it has few stages
  pub fact-few : (fact : ℕ) (info : FactInfo) → number_of numbers fact < 4294967295 → IsFact system fact info → (size_of numbers (number_of numbers fact) ≤ most_places) × (places info.formula ≤ most_places)
  fact-few fact info inside at =
      let there : Contains facts fact = (blocks.inside fact).1 inside in
      let one = total-at (stage_places system numbers) facts there.0 fact there.1 in
      let is : stage_places system numbers (get_or facts there.0 fact) ≡ size_of numbers (number_of numbers fact) * places info.formula
      = ap (stage_places system numbers) there.2 ∙ ap (λ found. size_of numbers (number_of numbers fact) * fact_places found) at in
      let bounds = product-bounds (size_of numbers (number_of numbers fact)) (places info.formula) (size-positive numbers fact (number_of numbers fact) refl inside) (places-some info.formula) in
      (omega (arith, bounds.0), omega (arith, bounds.1))

  module _ (is_system : IsSystem system) where
    -- the inputs of a gate are within the tree
    within : (gates : List Gate) (ins : List Input) → AllByRecursion (λ node. (n : ℕ) → node ≡ nodes.Basic n → n < length system.events) (map (node_of gates) ins) → ((m : ℕ) → has_gate ins m ≡ true → m < length gates)
        → AllByRecursion (IsWithin (length system.events) (length gates)) ins
    within gates [] ranged inside = tt
    within gates (inputs.Event n ∷ ins) ranged inside = (ranged.0 n refl, within gates ins ranged.1 inside)
    within gates (inputs.Gate n ∷ ins) ranged inside = (
      inside n (or_left (n == n) (has_gate ins n) (eq-eqb n n refl)),
      within gates ins ranged.1 (λ m e. inside m (or_right (n == m) (has_gate ins m) e)),
    )

    made-gate : (gates : List Gate) (gate : Gate) → IsGateAt system is_system numbers (line_of gates gate) → InputsOnce gate.inputs → ((m : ℕ) → has_gate gate.inputs m ≡ true → m < length gates) → IsWellMadeGate system (length gates) gate
    made-gate gates gate is once inside =
        let bounds = fact-few gate.fact is.info is.stage.inside is.at in
        let long : length (map (node_of gates) gate.inputs) ≡ length gate.inputs = length-map gate.inputs (node_of gates) in
        record {
          fact_in = slice_get_within system.facts gate.fact is.info is.at;
          short_stage = omega (arith, is.stage.to_last, bounds.0);
          short_place = omega (arith, is.place_in, bounds.1);
          inputs_in = within gates gate.inputs is.ranged inside;
          inputs_once = once;
          few_inputs = omega (arith, is.few, bounds.1);
          count = subst (MayHave gate.kind) long is.count;
        }

    made-tree : (target : ℕ) (tree : Tree) → (key : _) → IsGateTree system numbers key tree → IsWellMade system tree
    made-tree target tree key is =
        record {
          top_in = is.top_in;
          gates = all-from (IsWellMadeGate system (length tree.gates)) tree.gates (λ n gate at. made-gate tree.gates gate (gate-at system is_system numbers (line_of tree.gates gate) (is.gates_are n gate at)) (is.inputs_once n gate at) (λ m e. is.inputs_in n m gate at e));
          rise = is.rise;
          acyclic = is.acyclic;
          events = is.events;
        }

    filter-none : (event low count : ℕ) → event < low → filter (λ n. ((event == n) || false) || false) (range_with_len low count) ≡ []
    filter-none event low zero less = refl
    filter-none event low (suc count) less =
        ap (λ b. cond ((b || false) || false) (low ∷ filter (λ n. ((event == n) || false) || false) (range_with_len (low + 1) count)) (filter (λ n. ((event == n) || false) || false) (range_with_len (low + 1) count))) (ne_eqb event low (λ e. omega arith))
        ∙ filter-none event (low + 1) count (omega arith)

    filter-one : (event low count : ℕ) → low ≤ event → event < low + count → filter (λ n. ((event == n) || false) || false) (range_with_len low count) ≡ event ∷ []
    filter-one event low zero low_is high_is = absurd (omega arith)
    filter-one event low (suc count) low_is high_is = by (event == low) refl (λ differ. filter-one event (low + 1) count (omega arith) (omega arith))
      where
        rest : List ℕ
        rest = filter (λ n. ((event == n) || false) || false) (range_with_len (low + 1) count)

        whole : (b : Bool) → (event == low) ≡ b → filter (λ n. ((event == n) || false) || false) (range_with_len low (suc count)) ≡ cond ((b || false) || false) (low ∷ rest) rest
        whole b e = ap (λ c. cond ((c || false) || false) (low ∷ rest) rest) e

        by : (b : Bool) → (event == low) ≡ b → (event ≢ low → filter (λ n. ((event == n) || false) || false) (range_with_len (low + 1) count) ≡ event ∷ []) → filter (λ n. ((event == n) || false) || false) (range_with_len low (suc count)) ≡ event ∷ []
        by true e more =
            let same : event ≡ low = eqb-true event low e in
            whole true e ∙ ap (λ ns. low ∷ ns) (filter-none event (low + 1) count (omega arith)) ∙ ap (λ (n : ℕ). n ∷ []) (sym same)
        by false e more = whole false e ∙ more (λ same. false≢true (sym e ∙ eq-eqb event low same))

    no-gate : (event m : ℕ) → has_gate (inputs.Event event ∷ []) m ≡ true → ⊥
    no-gate event m e = false≢true e

    made-event : (target event : ℕ) → target < length system.facts → size_of numbers (number_of numbers target) ≤ most_places → event < length system.events → IsWellMade system (event_tree numbers target event)
    made-event target event fact short here =
        record {
          top_in = omega arith;
          gates = (
            record { fact_in = fact; short_stage = omega arith; short_place = omega arith; inputs_in = (here, tt); inputs_once = (tt, tt); few_inputs = omega arith; count = omega arith },
            tt,
          );
          rise = λ n d fits. absurd (omega arith);
          acyclic = λ n m gate at input. absurd (none n m gate at input);
          events = sym (filter-one event 0 (length system.events) (omega arith) (omega arith));
        } where
          none : (n m : ℕ) (gate : Gate) → slice_get (event_tree numbers target event).gates n ≡ Some gate → has_gate gate.inputs m ≡ true → ⊥
          none zero m gate at input = no-gate event m (ap (λ (g : Gate). has_gate g.inputs m) (some_inner _ gate at) ∙ input)
          none (suc n) m gate at input = cc

    pub tree-made : (slice : Slice) (target : ℕ) (tree : Tree) → IsSlice system target slice → slice.facts ≡ facts → (node : Node) → last_node system numbers target ≡ node → IsTreeOf system numbers target tree node → IsWellMade system tree
    tree-made slice target tree is same nodes.Always last tree_is = absurd tree_is
    tree-made slice target tree is same nodes.Never last tree_is = absurd tree_is
    tree-made slice target tree is same (nodes.Gate key) last tree_is = made-tree target tree key tree_is
    tree-made slice target tree is same (nodes.Basic event) last tree_is =
        let own : IsBlocks system slice.facts numbers = subst (λ (fs : List ℕ). IsBlocks system fs numbers) (sym same) blocks in
        let there = target-inside system target slice numbers is own in
        let fact : target < length system.facts
        = subst (λ (n : ℕ). n < length system.facts) there.0.2 (All-get_or (λ (n : ℕ). n < length system.facts) slice.facts there.0.0 target there.0.1 (RisesWithin-each 0 (length system.facts) slice.facts is.facts_rise)) in
        subst (IsWellMade system) (sym tree_is)
        (made-event target event fact (short fact there.1 (slice_get_cases system.facts target).1) (low-ranged system is_system numbers (number_of numbers target + 1) target event last))
      where
        short : target < length system.facts → number_of numbers target < 4294967295 → ((info : FactInfo) × (target < length system.facts) × IsFact system target info × (get_or system.facts target info ≡ info)) ⊎ ((length system.facts ≤ target) × (slice_get system.facts target ≡ None))
            → size_of numbers (number_of numbers target) ≤ most_places
        short fact inside found = ⊎_elim (λ (info, fits, at, e). (fact-few target info inside at).0) (λ past. absurd (omega (arith, past.0))) found

-- a tree of a target is well made
pub made-well : (system : System) (target : ℕ) (tree : Tree) → IsSystem system → IsTreeFor system target tree → IsWellMade system tree
made-well system target tree is_system is =
    tree-made system is.slice.facts is.numbers is.are_blocks is.few is_system is.slice target tree is.is_slice refl (last_node system is.numbers target) refl is.is_tree
