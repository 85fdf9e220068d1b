-- No gate of a stage has an input twice: no fact stands for a gate of the stage in which it is looked at.
use Rattle.std.proofs.Common.{ℕ, zero, suc, ◌+◌, ◌-◌, ◌≡◌, ◌≢◌, ◌<◌, ◌≤◌, ◌⊎◌, Bool, true, false, List, [], ◌∷◌, map, slice_get, Option, Some, None, inl, inr, ⊎_elim, ap, ◌∙◌, sym, subst, refl, arith}
use Rattle.std.proofs.lemmas.Bool.{eqb-true}
use Rattle.std.specs.List.{AllByRecursion}
use Rattle.fault_system.specs.Systems.{System}
use Rattle.fault_system.specs.declared.formula.FactInfo.{FactInfo}
use Rattle.fault_system.specs.declared.formula.Formula.{Formula, map-Formula, roll-Formula, fold-roll-Formula, ind-Formula}
use Rattle.fault_system.specs.declared.formula.Formula.TheOpen.{Formula-F, True, Event, Fact, And, Or, AtLeast}
use Rattle.dependency_blocks.specs.Blocks.{BlockNumbers, number_of, size_of}
use Rattle.round_gates.specs.declared.node.GateKey.{GateKey}
use Rattle.round_gates.specs.declared.node.Join.{Join}
use Rattle.round_gates.specs.declared.node.Join.TheVariants.{Plain, Made}
use Rattle.round_gates.specs.declared.node.Line.{Line}
use Rattle.round_gates.specs.declared.node.Node.{Node}
use Rattle.round_gates.specs.declared.node.Node.TheVariants.{Always, Never, Basic, Gate}
use Rattle.round_gates.specs.declared.node.Stage.{Stage}
use Rattle.round_gates.specs.declared.tree.Input.{Input}
use Rattle.round_gates.specs.Nodes.{all_of, any_of, least_of}
use Rattle.round_gates.specs.Walks.{Walked, key_at, parts_of, nodes_of, node_at, walk, walk_step}
use Rattle.round_gates.specs.Stages.{in_block, formula_walk, stage_nodes, low_nodes, looks_of, IsStage, gates_of, IsGateOf}
use Rattle.round_gates.specs.Trees.{InputsOnce}
use Rattle.round_gates.proofs.Once.{NodesOnce, LineOnce, NodeHas, all_of-has, any_of-has, least_of-has, walk-once}
use Rattle.round_gates.proofs.StageTruth.{stage-out, stage-first, stage-in, low-zero, low-suc, among-all}

-- what holds of constants, of events, of what facts stand for and of the gates of a stage holds of each node of the stage
module _ (stage : Stage) (look : ℕ → Node) (P : Node → Type 0) (always : P Always) (never : P Never) (basic : (n : ℕ) → P (Basic n)) (facts : (n : ℕ) → P (look n)) (gates : (p : ℕ) → P (Gate (key_at stage p))) where
  abbrev HasFormula : Formula → Type 0
  HasFormula f = (start : ℕ) → P (walk stage look f start).node

  abbrev HasPart : Type 0
  HasPart = (f : Formula) × HasFormula f

  abbrev formulas : List HasPart → List Formula
  formulas ps = map (λ p. p.0) ps

  abbrev all_nodes : List HasPart → ℕ → List Node
  all_nodes ps start = nodes_of (parts_of (map (walk stage look) (formulas ps)) start).parts

  parts-have : (ps : List HasPart) (start : ℕ) → AllByRecursion P (all_nodes ps start)
  parts-have [] start = tt
  parts-have (p ∷ ps) start = (p.1 start, parts-have ps (walk stage look p.0 start).next)

  node-has : (start : ℕ) (join : Join) → NodeHas P join → P (node_at stage start join)
  node-has start (Plain node) h = h
  node-has start (Made kind inputs) h = gates start

  abbrev Layer : Formula-F Formula → Type 0
  Layer x = (start : ℕ) → P (walk_step stage look (map-Formula Formula (ℕ → Walked) (walk stage look) x) start).node

  layer : (y : Formula-F HasPart) → Layer (map-Formula HasPart Formula (λ p. p.0) y)
  layer True start = always
  layer (Event n) start = basic n
  layer (Fact n) start = facts n
  layer (And ps) start = node-has start (all_of (all_nodes ps (start + 1))) (all_of-has P always never (all_nodes ps (start + 1)) (parts-have ps (start + 1)))
  layer (Or ps) start = node-has start (any_of (all_nodes ps (start + 1))) (any_of-has P always never (all_nodes ps (start + 1)) (parts-have ps (start + 1)))
  layer (AtLeast k ps) start = node-has start (least_of k (all_nodes ps (start + 1))) (least_of-has P always never k (all_nodes ps (start + 1)) (parts-have ps (start + 1)))

  rolled : (x : Formula-F Formula) → Layer x → HasFormula (roll-Formula x)
  rolled x has start = subst (λ (walked : ℕ → Walked). P (walked start).node) (sym (fold-roll-Formula (ℕ → Walked) (walk_step stage look) x)) (has start)

  walk-has : (f : Formula) (start : ℕ) → P (walk stage look f start).node
  walk-has = ind-Formula HasFormula (λ x y is. rolled x (subst Layer is (layer y)))

key-inner : (a b : GateKey) → Gate a ≡ Gate b → a ≡ b
key-inner a b h = cc

module _ (system : System) (numbers : BlockNumbers) where
  -- the gates of lower blocks, or of a block up to a stage
  abbrev pub Earlier : ℕ → ℕ → Node → Type 0
  Earlier block stage node = (key : GateKey) → node ≡ Gate key → (number_of numbers key.fact < block) ⊎ ((number_of numbers key.fact ≡ block) × (key.stage ≤ stage))

  later : (block stage : ℕ) (node : Node) → Earlier block stage node → Earlier block (suc stage) node
  later block stage node h key e = ⊎_elim (λ l. inl l) (λ r. inr (r.0, omega (arith, r.1))) (h key e)

  abbrev pub LowKeys : ℕ → Type 0
  LowKeys block = (n : ℕ) (key : GateKey) → low_nodes system numbers block n ≡ Gate key → number_of numbers key.fact < block

  pub stage-keys : (block : ℕ) → LowKeys block → (stage n : ℕ) → Earlier block stage (stage_nodes system numbers (low_nodes system numbers block) block stage n)
  stage-keys block low zero n key e = by (in_block numbers block n) refl
    where
      by : (b : Bool) → in_block numbers block n ≡ b → (number_of numbers key.fact < block) ⊎ ((number_of numbers key.fact ≡ block) × (key.stage ≤ 0))
      by true is = let none : Never ≡ Gate key = sym (stage-first system numbers (low_nodes system numbers block) block n is) ∙ e in cc
      by false is = inl (low n key (sym (stage-out system numbers (low_nodes system numbers block) block zero n is) ∙ e))
  stage-keys block low (suc stage) n key e = by (in_block numbers block n) refl (stage-keys block low stage)
    where
      walked : number_of numbers n ≡ block → ((m : ℕ) → Earlier block stage (stage_nodes system numbers (low_nodes system numbers block) block stage m)) → (found : Option FactInfo)
          → Earlier block (suc stage) (formula_walk (record { fact = n; stage = suc stage }) (stage_nodes system numbers (low_nodes system numbers block) block stage) found).node
      walked same before None k h = cc
      walked same before (Some info) k e =
          walk-has (record { fact = n; stage = suc stage }) (stage_nodes system numbers (low_nodes system numbers block) block stage) (Earlier block (suc stage)) (λ k h. cc) (λ k h. cc) (λ m k h. cc)
          (λ m. later block stage _ (before m))
          (λ p k h. let is = key-inner (key_at (record { fact = n; stage = suc stage }) p) k h in
          inr (ap (λ (x : GateKey). number_of numbers x.fact) (sym is) ∙ same, subst (λ (x : GateKey). x.stage ≤ suc stage) is (omega arith)))
          info.formula 0 k e

      by : (b : Bool) → in_block numbers block n ≡ b → ((m : ℕ) → Earlier block stage (stage_nodes system numbers (low_nodes system numbers block) block stage m))
          → (number_of numbers key.fact < block) ⊎ ((number_of numbers key.fact ≡ block) × (key.stage ≤ suc stage))
      by true is before = walked (eqb-true _ _ is) before (slice_get system.facts n) key (sym (stage-in system numbers (low_nodes system numbers block) block stage n is) ∙ e)
      by false is before = inl (low n key (sym (stage-out system numbers (low_nodes system numbers block) block (suc stage) n is) ∙ e))

  pub low-keys : (block : ℕ) → LowKeys block
  low-keys zero n key e = let none : Never ≡ Gate key = sym (low-zero system numbers n) ∙ e in cc
  low-keys (suc block) n key e =
      ⊎_elim (λ less. omega arith) (λ same. omega (arith, same.0))
      (stage-keys block (low-keys block) (size_of numbers block) n key (sym (low-suc system numbers block n) ∙ e))

  gates-once : (stage : Stage) → IsStage numbers stage → AllByRecursion LineOnce (gates_of system numbers stage)
  gates-once stage is = by (slice_get system.facts stage.fact)
    where
      foreign : (n p : ℕ) → looks_of system numbers stage n ≡ Gate (key_at stage p) → ⊥
      foreign n p e = ⊎_elim (λ less. omega arith) (λ same. omega (arith, same.1, is.from_one))
          (stage-keys (number_of numbers stage.fact) (low-keys (number_of numbers stage.fact)) (stage.stage - 1) n (key_at stage p) e)

      by : (found : Option FactInfo) → AllByRecursion LineOnce (formula_walk stage (looks_of system numbers stage) found).lines
      by None = tt
      by (Some info) = walk-once stage (looks_of system numbers stage) foreign info.formula 0

  -- no gate of a stage has an input twice
  pub gate-once : (line : Line) → IsGateOf system numbers line → LineOnce line
  gate-once line (stage, is, among) = among-all LineOnce (gates_of system numbers stage) line (gates-once stage is) among

-- inputs differ where the nodes that they are differ
pub inputs-once : (node : Input → Node) (inputs : List Input) → NodesOnce (map node inputs) → InputsOnce inputs
inputs-once node [] h = tt
inputs-once node (input ∷ inputs) h = (others inputs h.0, inputs-once node inputs h.1)
  where
    others : (rest : List Input) → AllByRecursion (λ y. node input ≢ y) (map node rest) → AllByRecursion (λ other. input ≢ other) rest
    others [] a = tt
    others (x ∷ rest) a = ((λ e. a.0 (ap node e)), others rest a.1)
