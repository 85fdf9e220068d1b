-- The tree of a target is true exactly where the target holds.
use Rattle.std.proofs.Common.{ℕ, zero, suc, ◌-◌, ◌≡◌, ◌<◌, ◌≤◌, ◌↔◌, Bool, true, ◌==◌, List, [], ◌∷◌, length, map, slice_get, Some, ⊎_elim, ap, ◌∙◌, sym, subst, refl, arith}
use Rattle.std.proofs.lemmas.Bool.{false≢true, eqb-true, eq-eqb, or_cases}
use Rattle.std.proofs.lemmas.Option.{slice_get_cases}
use Rattle.std.specs.List.{AllByRecursion}
use Rattle.fault_system.specs.Truth.{NumberSet, member}
use Rattle.fault_system.specs.Systems.{System, IsSystem, Holds, holds_of}
use Rattle.fault_system.proofs.HoldsLaws.{holds_of-exact}
use Rattle.fault_system.proofs.Marks.{Below, Below-all, Below-any, Below-at_least}
use Rattle.dependency_blocks.specs.Blocks.{BlockNumbers, IsBlocks, number_of}
use Rattle.round_gates.specs.declared.node.GateKey.{GateKey}
use Rattle.round_gates.specs.declared.node.GateKind.{GateKind}
use Rattle.round_gates.specs.declared.node.GateKind.TheVariants as kinds
use Rattle.round_gates.specs.declared.node.Node.{Node}
use Rattle.round_gates.specs.declared.node.Node.TheVariants as nodes
use Rattle.round_gates.specs.declared.tree.Gate.{Gate}
use Rattle.round_gates.specs.declared.tree.Input.{Input}
use Rattle.round_gates.specs.declared.tree.Input.TheVariants as inputs
use Rattle.round_gates.specs.declared.tree.Tree.{Tree}
use Rattle.round_gates.specs.Staged.{fact_places}
use Rattle.round_gates.specs.Stages.{last_node}
use Rattle.round_gates.specs.Targets.{IsTreeFor}
use Rattle.round_gates.specs.Trees.{IsGateTree, IsTreeOf, has_gate, key_in, key_of, line_of, node_of}
use Rattle.round_gates.specs.inner.Trees.{TreeHolds, IsClosedTree, gate_true, input_true}
use Rattle.round_gates.specs.Truths.{kind_true}
use Rattle.round_gates.specs.inner.Truths.{GateSet, node_true}
use Rattle.round_gates.proofs.Basics.{or_left, or_right, some_inner}
use Rattle.round_gates.proofs.GatePlaces.{ComesLater, gate-at}
use Rattle.round_gates.proofs.StageTruth.{gate_values, gate-met, last-right}
use Rattle.round_gates.proofs.Wholes.{event-tree-holds, target-inside}

-- more true inputs make a gate no less true
pub kind-below : (kind : GateKind) (bs cs : List Bool) → Below bs cs → kind_true kind bs ≡ true → kind_true kind cs ≡ true
kind-below kinds.And bs cs h e = Below-all bs cs h e
kind-below kinds.Or bs cs h e = Below-any bs cs h e
kind-below (kinds.AtLeast k) bs cs h e = Below-at_least k bs cs h e

-- the name at a position is that of the gate there
pub key-there : (gates : List Gate) (n : ℕ) (gate : Gate) → slice_get gates n ≡ Some gate → key_in gates n ≡ key_of gate
key-there [] n gate at = cc
key-there (g ∷ gates) zero gate at = ap key_of (some_inner g gate at)
key-there (g ∷ gates) (suc n) gate at = key-there gates n gate at

-- an input that is a gate has the name at its position
falls-at : (gates : List Gate) (P : GateKey → Type 0) (ins : List Input) → AllByRecursion (λ node. (key : GateKey) → node ≡ nodes.Gate key → P key) (map (node_of gates) ins) → (m : ℕ) → has_gate ins m ≡ true → P (key_in gates m)
falls-at gates P [] all m e = absurd (false≢true e)
falls-at gates P (inputs.Event n ∷ ins) all m e = falls-at gates P ins all.1 m e
falls-at gates P (inputs.Gate n ∷ ins) all m e =
    ⊎_elim (λ here. subst (λ (k : ℕ). P (key_in gates k)) (eqb-true n m here) (all.0 (key_in gates n) refl)) (λ there. falls-at gates P ins all.1 m there) (or_cases (n == m) (has_gate ins m) e)

module _ (system : System) (is_system : IsSystem system) (facts : List ℕ) (numbers : BlockNumbers) (blocks : IsBlocks system facts numbers) (es : NumberSet) where
  values : GateSet
  values = gate_values system facts numbers blocks es

  module _ (tree : Tree) (top : GateKey) (is : IsGateTree system numbers top tree) where
    abbrev key_at : ℕ → GateKey
    key_at n = key_in tree.gates n

    abbrev true_at : NumberSet
    true_at n = gate_values system facts numbers blocks es (key_in tree.gates n)

    inputs-true : (ins : List Input) → map (node_true es (gate_values system facts numbers blocks es)) (map (node_of tree.gates) ins) ≡ map (input_true es true_at) ins
    inputs-true [] = refl
    inputs-true (inputs.Event n ∷ ins) = ap (λ bs. es n ∷ bs) (inputs-true ins)
    inputs-true (inputs.Gate n ∷ ins) = ap (λ bs. true_at n ∷ bs) (inputs-true ins)

    -- a gate is as true as its inputs say
    gate-value : (n : ℕ) (gate : Gate) → slice_get tree.gates n ≡ Some gate → true_at n ≡ gate_true es true_at gate
    gate-value n gate at =
        ap (gate_values system facts numbers blocks es) (key-there tree.gates n gate at)
        ∙ gate-met system facts numbers blocks es (line_of tree.gates gate) (is.gates_are n gate at)
        ∙ ap (kind_true gate.kind) (inputs-true gate.inputs)

    module _ (set : NumberSet) (closed : IsClosedTree tree.gates es set) where
      abbrev InSet : ℕ → Type 0
      InSet n = n < length tree.gates → true_at n ≡ true → set n ≡ true

      inputs-below : (ins : List Input) → ((m : ℕ) → has_gate ins m ≡ true → true_at m ≡ true → set m ≡ true) → Below (map (input_true es true_at) ins) (map (input_true es set) ins)
      inputs-below [] each = tt
      inputs-below (inputs.Event n ∷ ins) each = ((λ e. e), inputs-below ins each)
      inputs-below (inputs.Gate n ∷ ins) each = (each n (or_left (n == n) (has_gate ins n) (eq-eqb n n refl)), inputs-below ins (λ m e. each m (or_right (n == m) (has_gate ins m) e)))

      -- how many places there are where a gate stands
      abbrev bound : ℕ → ℕ
      bound n = fact_places (slice_get system.facts (key_in tree.gates n).fact)

      -- a true gate is in the set if all true gates that come earlier are
      step : (n : ℕ) (gate : Gate) → slice_get tree.gates n ≡ Some gate → ((m : ℕ) → ComesLater numbers (key_at n) (key_at m) → (key_at n).place < bound n → InSet m) → true_at n ≡ true → set n ≡ true
      step n gate at earlier e =
          let here = gate-at system is_system numbers (line_of tree.gates gate) (is.gates_are n gate at) in
          let named : key_at n ≡ key_of gate = key-there tree.gates n gate at in
          let inside : (key_of gate).place < fact_places (slice_get system.facts (key_of gate).fact) = subst (λ found. gate.place < fact_places found) (sym here.at) here.place_in in
          let place : (key_at n).place < bound n = subst (λ (k : GateKey). k.place < fact_places (slice_get system.facts k.fact)) (sym named) inside in
          closed n gate at
          (kind-below gate.kind _ _
          (inputs-below gate.inputs (λ m input true_m. earlier m (subst (λ (k : GateKey). ComesLater numbers k (key_at m)) (sym named) (falls-at tree.gates (ComesLater numbers (key_of gate)) gate.inputs here.falls m input)) place (is.inputs_in n m gate at input) true_m))
          (sym (gate-value n gate at) ∙ e))

      at-position : (n : ℕ) → ((gate : Gate) → slice_get tree.gates n ≡ Some gate → true_at n ≡ true → set n ≡ true) → InSet n
      at-position n each inside e = ⊎_elim (λ (gate, fits, at, same). each gate at e) (λ past. absurd (omega (arith, past.0))) (slice_get_cases tree.gates n).1

      by-place : (block stage : ℕ) → ((m : ℕ) → number_of numbers (key_at m).fact < block → InSet m) → ((m : ℕ) → number_of numbers (key_at m).fact ≤ block → (key_at m).stage < stage → InSet m)
          → (left n : ℕ) → number_of numbers (key_at n).fact ≤ block → (key_at n).stage ≤ stage → bound n - (key_at n).place < left → InSet n
      by-place block stage lower earlier zero n b s less = absurd (omega arith)
      by-place block stage lower earlier (suc left) n b s less =
          at-position n (λ gate at. step n gate at (λ m later inside.
          ⊎_elim (λ below. lower m (omega arith))
          (λ (same, then). ⊎_elim (λ before. earlier m (omega arith) (omega arith))
          (λ (fact, at_stage, place). by-place block stage lower earlier left m (omega arith) (omega arith)
          (let as_many : bound m ≡ bound n = ap (λ (f : ℕ). fact_places (slice_get system.facts f)) fact in omega arith)) then)
          later))

      by-stage : (block : ℕ) → ((m : ℕ) → number_of numbers (key_at m).fact < block → InSet m) → (stage n : ℕ) → number_of numbers (key_at n).fact ≤ block → (key_at n).stage < stage → InSet n
      by-stage block lower zero n b s = absurd (omega arith)
      by-stage block lower (suc stage) n b s = by-place block stage lower (by-stage block lower stage) (suc (bound n - (key_at n).place)) n b (omega arith) (omega arith)

      by-block : (block n : ℕ) → number_of numbers (key_at n).fact < block → InSet n
      by-block zero n b = absurd (omega arith)
      by-block (suc block) n b = by-stage block (by-block block) (suc (key_at n).stage) n (omega arith) (omega arith)

    -- the tree is true exactly where its top is
    tree-value : TreeHolds tree es ↔ (true_at tree.top ≡ true)
    tree-value = (
      (λ holds. holds true_at (λ n gate at e. gate-value n gate at ∙ e)),
      (λ e set closed. by-block set closed (suc (number_of numbers (key_at tree.top).fact)) tree.top (omega arith) is.top_in e),
    )

    pub gate-tree-holds : (target : ℕ) → number_of numbers target < 4294967295 → last_node system numbers target ≡ nodes.Gate top → TreeHolds tree es ↔ Holds system es target
    gate-tree-holds target inside last =
        let value : true_at tree.top ≡ member (holds_of system es) target
        = ap (gate_values system facts numbers blocks es) is.top_is ∙ ap (node_true es (gate_values system facts numbers blocks es)) (sym last) ∙ last-right system facts numbers blocks es target inside in (
          (λ holds. (holds_of-exact system es target).0 (sym value ∙ tree-value.0 holds)),
          (λ holds. tree-value.1 (value ∙ (holds_of-exact system es target).1 holds)),
        )

  -- the tree of a node is true exactly where the target of the node holds
  pub node-tree-holds : (target : ℕ) → number_of numbers target < 4294967295 → (tree : Tree) (node : Node) → last_node system numbers target ≡ node → IsTreeOf system numbers target tree node → TreeHolds tree es ↔ Holds system es target
  node-tree-holds target inside tree nodes.Always last is = absurd is
  node-tree-holds target inside tree nodes.Never last is = absurd is
  node-tree-holds target inside tree (nodes.Gate top) last is = gate-tree-holds tree top is target inside last
  node-tree-holds target inside tree (nodes.Basic event) last is =
      subst (λ (t : Tree). TreeHolds t es ↔ Holds system es target) (sym is) (event-tree-holds system facts numbers blocks target event inside last es)

-- a tree of a target is true exactly where the target holds
pub tree-truth : (system : System) (target : ℕ) (tree : Tree) (es : NumberSet) → IsSystem system → IsTreeFor system target tree → TreeHolds tree es ↔ Holds system es target
tree-truth system target tree es is_system is =
    node-tree-holds system is_system is.slice.facts is.numbers is.are_blocks es target (target-inside system target is.slice is.numbers is.is_slice is.are_blocks).1 tree (last_node system is.numbers target) refl is.is_tree
