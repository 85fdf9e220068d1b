-- Stages of the facts of a block.
use Rattle.std.specs.Prelude.{ℕ, zero, suc, ◌+◌, ◌-◌, ◌⊎◌, ◌<◌, ◌≤◌, ◌≡◌, List, [], ◌∷◌, ◌==◌, if◌then◌else◌, slice_get, Option, Some, None}
use Rattle.fault_system.specs.Truth.{NumberSet}
use Rattle.fault_system.specs.Systems.{System}
use Rattle.fault_system.specs.declared.formula.FactInfo.{FactInfo}
use Rattle.dependency_blocks.specs.Blocks.{BlockNumbers, number_of, size_of}
use Rattle.round_gates.specs.declared.node.Line.{Line}
use Rattle.round_gates.specs.declared.node.Node.{Node}
use Rattle.round_gates.specs.declared.node.Node.TheVariants.{Never}
use Rattle.round_gates.specs.declared.node.Stage.{Stage}
use Rattle.round_gates.specs.Walks.{Walked, walk}

-- the facts of a block
abbrev pub in_block : BlockNumbers → ℕ → NumberSet
in_block numbers block fact = number_of numbers fact == block

-- what the formula of a fact gives in a stage
abbrev pub formula_walk : Stage → (ℕ → Node) → Option FactInfo → Walked
formula_walk stage look None = record { node = Never; next = 0; lines = [] }
formula_walk stage look (Some info) = walk stage look info.formula 0

-- what a fact gives in a stage, where `look` has the node for which each fact stands
abbrev pub fact_walk : System → (ℕ → Node) → Stage → Walked
fact_walk system look stage = formula_walk stage look (slice_get system.facts stage.fact)

-- For each fact its node in a stage of a block, where `low` has the last nodes of the blocks below. In stage 0 the facts
-- of the block are false; in the next stage each has the node of its formula, in which the facts of the block stand for
-- the stage before and all others for their last stage.
unfoldable pub stage_nodes : System → BlockNumbers → (ℕ → Node) → ℕ → ℕ → ℕ → Node
stage_nodes system numbers low block zero fact = if in_block numbers block fact then Never else low fact
stage_nodes system numbers low block (suc stage) fact =
    if in_block numbers block fact then (fact_walk system (stage_nodes system numbers low block stage) (record { fact = fact; stage = suc stage })).node else low fact

-- the last nodes of the facts in the blocks below a number; a block has as many stages as facts
unfoldable pub low_nodes : System → BlockNumbers → ℕ → ℕ → Node
low_nodes system numbers zero fact = Never
low_nodes system numbers (suc block) fact = stage_nodes system numbers (low_nodes system numbers block) block (size_of numbers block) fact

-- the node of the last stage of a fact
abbrev pub last_node : System → BlockNumbers → ℕ → Node
last_node system numbers fact = low_nodes system numbers (number_of numbers fact + 1) fact

-- the nodes for which facts stand in the formula of a fact in a stage
abbrev pub looks_of : System → BlockNumbers → Stage → ℕ → Node
looks_of system numbers stage =
    stage_nodes system numbers (low_nodes system numbers (number_of numbers stage.fact)) (number_of numbers stage.fact) (stage.stage - 1)

-- a stage of a fact of a block: from 1 on, as many as the block has facts
pub record IsStage (numbers : BlockNumbers) (stage : Stage) : Type 0 where
  pub inside : number_of numbers stage.fact < 4294967295
  pub from_one : 0 < stage.stage
  pub to_last : stage.stage ≤ size_of numbers (number_of numbers stage.fact)

-- the gates of a stage
abbrev pub gates_of : System → BlockNumbers → Stage → List Line
gates_of system numbers stage = (fact_walk system (looks_of system numbers stage) stage).lines

-- an item is in a list
abbrev pub IsAmong : {X : Type 0} → X → List X → Type 0
IsAmong x [] = ⊥
IsAmong x (y ∷ ys) = (x ≡ y) ⊎ IsAmong x ys

-- a gate is one of a stage of a fact
abbrev pub IsGateOf : System → BlockNumbers → Line → Type 0
IsGateOf system numbers line = (stage : Stage) × IsStage numbers stage × IsAmong line (gates_of system numbers stage)
