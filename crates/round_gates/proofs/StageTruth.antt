-- The gates of all stages are met together: there is a truth of gates under which each gate of a stage is met and the last
-- node of a fact is true exactly where the fact holds.
use Rattle.std.proofs.Common.{ℕ, zero, suc, ◌+◌, ◌-◌, ◌≡◌, ◌<◌, ◌≤◌, ◌⊎◌, Bool, true, false, cond, ◌&&◌, List, [], ◌∷◌, slice_get, Option, Some, None, Contains, ⊎_elim, ap, ◌∙◌, sym, subst, refl, arith}
use Rattle.std.proofs.lemmas.Bool.{false≢true, and_right, eqb-true, eq-eqb, ne_eqb, cases_order}
use Rattle.std.specs.List.{AllByRecursion}
use Rattle.fault_system.specs.Truth.{NumberSet, member, truth, occurs}
use Rattle.fault_system.specs.Systems.{System, applied, holds_of, IsFact}
use Rattle.fault_system.specs.declared.formula.FactInfo.{FactInfo}
use Rattle.fault_system.proofs.NumberSets.{member-map, member-none, member-past}
use Rattle.dependency_blocks.specs.Blocks.{BlockNumbers, IsBlocks, number_of, size_of}
use Rattle.round_gates.specs.declared.node.Line.{Line}
use Rattle.round_gates.specs.declared.node.Node.{Node}
use Rattle.round_gates.specs.declared.node.Node.TheVariants.{Never}
use Rattle.round_gates.specs.declared.node.Stage.{Stage}
use Rattle.round_gates.specs.Walks.{walk}
use Rattle.round_gates.specs.Stages.{in_block, formula_walk, fact_walk, stage_nodes, low_nodes, last_node, looks_of, IsAmong, IsGateOf}
use Rattle.round_gates.specs.inner.Stages.{joined_marks, stage_truth}
use Rattle.round_gates.specs.inner.Truths.{GateSet, node_true, IsMet}
use Rattle.round_gates.proofs.LastStage.{member-kept, last-stage}
use Rattle.round_gates.proofs.WalkTruth.{LooksRight, walk-kept}

pub among-all : {X : Type 0} (P : X → Type 0) (xs : List X) (x : X) → AllByRecursion P xs → IsAmong x xs → P x
among-all P [] x all is = absurd is
among-all P (y ∷ xs) x all is = ⊎_elim (λ e. subst P (sym e) all.0) (λ there. among-all P xs x all.1 there) is

-- the nodes of stages, by whether the fact is in the block
module _ (system : System) (numbers : BlockNumbers) (low : ℕ → Node) (block : ℕ) where
  pub stage-out : (stage fact : ℕ) → in_block numbers block fact ≡ false → stage_nodes system numbers low block stage fact ≡ low fact
  unfolding stage_nodes
  stage-out zero fact e = ap (λ b. cond b Never (low fact)) e
  stage-out (suc stage) fact e = ap (λ b. cond b (fact_walk system (stage_nodes system numbers low block stage) (record { fact = fact; stage = suc stage })).node (low fact)) e

  pub stage-first : (fact : ℕ) → in_block numbers block fact ≡ true → stage_nodes system numbers low block zero fact ≡ Never
  unfolding stage_nodes
  stage-first fact e = ap (λ b. cond b Never (low fact)) e

  pub stage-in : (stage fact : ℕ) → in_block numbers block fact ≡ true → stage_nodes system numbers low block (suc stage) fact ≡ (fact_walk system (stage_nodes system numbers low block stage) (record { fact = fact; stage = suc stage })).node
  unfolding stage_nodes
  stage-in stage fact e = ap (λ b. cond b (fact_walk system (stage_nodes system numbers low block stage) (record { fact = fact; stage = suc stage })).node (low fact)) e

pub low-zero : (system : System) (numbers : BlockNumbers) (fact : ℕ) → low_nodes system numbers zero fact ≡ Never
unfolding low_nodes
low-zero system numbers fact = refl

pub low-suc : (system : System) (numbers : BlockNumbers) (block fact : ℕ) → low_nodes system numbers (suc block) fact ≡ stage_nodes system numbers (low_nodes system numbers block) block (size_of numbers block) fact
unfolding low_nodes
low-suc system numbers block fact = refl

module _ (system : System) (facts : List ℕ) (numbers : BlockNumbers) (blocks : IsBlocks system facts numbers) (events : NumberSet) where
  abbrev holds : List Bool
  holds = holds_of system events

  -- which facts are true in the formula of a fact in a stage
  abbrev true_in : Stage → NumberSet
  true_in stage = joined_marks (in_block numbers (number_of numbers stage.fact)) (stage_truth system events (in_block numbers (number_of numbers stage.fact)) (stage.stage - 1)) holds

  formula_values : Stage → Option FactInfo → ℕ → Bool
  formula_values stage None place = false
  formula_values stage (Some info) place = (walk-kept events stage (looks_of system numbers stage) (true_in stage) info.formula 0).values place

  -- the truth of all gates
  pub gate_values : GateSet
  gate_values key = formula_values (record { fact = key.fact; stage = key.stage }) (slice_get system.facts key.fact) key.place

  abbrev val : Node → Bool
  val node = node_true events gate_values node

  abbrev stage_node : ℕ → ℕ → Node
  stage_node fact stage = stage_nodes system numbers (low_nodes system numbers (number_of numbers fact)) (number_of numbers fact) stage fact

  -- the facts of lower blocks are right
  abbrev LowRight : ℕ → Type 0
  LowRight bound = (fact : ℕ) → number_of numbers fact < bound → val (low_nodes system numbers bound fact) ≡ member holds fact

  -- what a stage of a fact gives, where what it looks at is right
  abbrev StageRight : Stage → FactInfo → Type 0
  StageRight stage info = LooksRight events gate_values (looks_of system numbers stage) (true_in stage) (λ n. occurs n info.formula)

  stage_gives : (stage : Stage) (info : FactInfo) → IsFact system stage.fact info → StageRight stage info
      → (val (walk stage (looks_of system numbers stage) info.formula 0).node ≡ truth events (true_in stage) info.formula)
      × AllByRecursion (IsMet events gate_values) (walk stage (looks_of system numbers stage) info.formula 0).lines
  unfolding formula_values gate_values
  stage_gives stage info at right =
      let kept = walk-kept events stage (looks_of system numbers stage) (true_in stage) info.formula 0 in
      kept.right gate_values (λ place low high. ap (λ found. formula_values stage found place) at) right

  look_right : (block : ℕ) → block < 4294967295 → LowRight block → (stage : ℕ)
      → ((m : ℕ) → number_of numbers m ≡ block → val (stage_nodes system numbers (low_nodes system numbers block) block stage m) ≡ member (stage_truth system events (in_block numbers block) stage) m)
      → (fact : ℕ) (info : FactInfo) → number_of numbers fact ≡ block → IsFact system fact info → (m : ℕ) → occurs m info.formula ≡ true
      → val (stage_nodes system numbers (low_nodes system numbers block) block stage m) ≡ joined_marks (in_block numbers block) (stage_truth system events (in_block numbers block) stage) holds m
  look_right block small low stage own fact info is at m o = by (in_block numbers block m) refl
    where
      fact_in : Contains facts fact
      fact_in = (blocks.inside fact).1 (omega arith)

      by : (b : Bool) → in_block numbers block m ≡ b → val (stage_nodes system numbers (low_nodes system numbers block) block stage m) ≡ cond b (member (stage_truth system events (in_block numbers block) stage) m) (member holds m)
      by true inside = own m (eqb-true _ _ inside)
      by false outside =
          let at_most : number_of numbers m ≤ number_of numbers fact = blocks.falls fact m info fact_in at o in
          let other : number_of numbers m ≡ block → ⊥ = λ e. false≢true (sym outside ∙ eq-eqb _ _ e) in
          ap val (stage-out system numbers (low_nodes system numbers block) block stage m outside) ∙ low m (lower at_most other)
        where
          lower : number_of numbers m ≤ number_of numbers fact → (number_of numbers m ≡ block → ⊥) → number_of numbers m < block
          lower h k = omega arith

  -- what a stage looks at, by its block and the stage before
  looks-are : (stage : Stage) (block before : ℕ) → number_of numbers stage.fact ≡ block → stage.stage - 1 ≡ before → looks_of system numbers stage ≡ stage_nodes system numbers (low_nodes system numbers block) block before
  looks-are stage block before e s i = stage_nodes system numbers (low_nodes system numbers (e i)) (e i) (s i)

  true_in-is : (stage : Stage) (block before : ℕ) → number_of numbers stage.fact ≡ block → stage.stage - 1 ≡ before → true_in stage ≡ joined_marks (in_block numbers block) (stage_truth system events (in_block numbers block) before) holds
  true_in-is stage block before e s i = joined_marks (in_block numbers (e i)) (stage_truth system events (in_block numbers (e i)) (s i)) holds

  -- a stage looks at what is right, where the stage before and the lower blocks are right
  stage_looks : (stage : Stage) (info : FactInfo) (block before : ℕ) → number_of numbers stage.fact ≡ block → stage.stage - 1 ≡ before → block < 4294967295 → LowRight block
      → ((m : ℕ) → number_of numbers m ≡ block → val (stage_nodes system numbers (low_nodes system numbers block) block before m) ≡ member (stage_truth system events (in_block numbers block) before) m)
      → IsFact system stage.fact info → StageRight stage info
  stage_looks stage info block before e s small low own at m o =
      ap (λ (look : ℕ → Node). val (look m)) (looks-are stage block before e s)
      ∙ look_right block small low before own stage.fact info e at m o
      ∙ ap (λ (facts : NumberSet). facts m) (sym (true_in-is stage block before e s))

  past_facts : (block stage fact : ℕ) → slice_get system.facts fact ≡ None → member (stage_truth system events (in_block numbers block) (suc stage)) fact ≡ false
  past_facts block stage fact e = member-kept (in_block numbers block) _ fact ∙ and_right (in_block numbers block fact) _ (member-past _ system.facts fact e)

  -- a stage of a fact of a block is right
  stage-right : (block : ℕ) → block < 4294967295 → LowRight block → (stage fact : ℕ) → number_of numbers fact ≡ block
      → val (stage_nodes system numbers (low_nodes system numbers block) block stage fact) ≡ member (stage_truth system events (in_block numbers block) stage) fact
  stage-right block small low zero fact e =
      ap val (stage-first system numbers (low_nodes system numbers block) block fact (eq-eqb _ _ e)) ∙ sym (member-none system.facts fact)
  stage-right block small low (suc stage) fact e =
      ap val (stage-in system numbers (low_nodes system numbers block) block stage fact (eq-eqb _ _ e))
      ∙ by (slice_get system.facts fact) refl (stage-right block small low stage)
    where
      by : (found : Option FactInfo) → slice_get system.facts fact ≡ found
          → ((m : ℕ) → number_of numbers m ≡ block → val (stage_nodes system numbers (low_nodes system numbers block) block stage m) ≡ member (stage_truth system events (in_block numbers block) stage) m)
          → val (fact_walk system (stage_nodes system numbers (low_nodes system numbers block) block stage) (record { fact = fact; stage = suc stage })).node ≡ member (stage_truth system events (in_block numbers block) (suc stage)) fact
      by None at own =
          ap (λ found. val (formula_walk (record { fact = fact; stage = suc stage }) (stage_nodes system numbers (low_nodes system numbers block) block stage) found).node) at
          ∙ sym (past_facts block stage fact at)
      by (Some info) at own =
          let here : Stage = record { fact = fact; stage = suc stage } in
          let before : suc stage - 1 ≡ stage = omega arith in
          let given = stage_gives here info at (stage_looks here info block stage e before small low own at) in
          ap (λ found. val (formula_walk here (stage_nodes system numbers (low_nodes system numbers block) block stage) found).node) at
          ∙ ap (λ (look : ℕ → Node). val (walk here look info.formula 0).node) (sym (looks-are here block stage e before))
          ∙ given.0
          ∙ ap (λ (facts : NumberSet). truth events facts info.formula) (true_in-is here block stage e before)
          ∙ sym (member-kept (in_block numbers block) _ fact
          ∙ ap (λ b. b && member (applied system events (joined_marks (in_block numbers block) (stage_truth system events (in_block numbers block) stage) holds)) fact) (eq-eqb _ _ e)
          ∙ member-map (λ other. truth events (joined_marks (in_block numbers block) (stage_truth system events (in_block numbers block) stage) holds) other.formula) system.facts fact info at)

  -- the last nodes of the facts in blocks below a number are right
  low-right : (bound : ℕ) → bound ≤ 4294967295 → LowRight bound
  low-right zero small fact less = absurd (omega arith)
  low-right (suc block) small fact less = by (cases_order (number_of numbers fact) block) (low-right block (omega arith))
    where
      by : (number_of numbers fact ≡ block) ⊎ ((number_of numbers fact < block) ⊎ (block < number_of numbers fact)) → LowRight block → val (low_nodes system numbers (suc block) fact) ≡ member holds fact
      by cases low = ⊎_elim
          (λ here.
          ap val (low-suc system numbers block fact)
          ∙ stage-right block (omega arith) low (size_of numbers block) fact here
          ∙ last-stage system numbers events block fact (omega arith) here)
          (λ other. ⊎_elim
          (λ lower.
          ap val (low-suc system numbers block fact ∙ stage-out system numbers (low_nodes system numbers block) block (size_of numbers block) fact (ne_eqb _ _ (λ e. omega arith)))
          ∙ low fact lower)
          (λ higher. absurd (omega arith)) other)
          cases

  -- the node of the last stage of a fact is true exactly where the fact holds
  pub last-right : (fact : ℕ) → number_of numbers fact < 4294967295 → val (last_node system numbers fact) ≡ member holds fact
  last-right fact inside = low-right (number_of numbers fact + 1) (omega arith) fact (omega arith)

  -- each gate of a stage is met
  pub gate-met : (line : Line) → IsGateOf system numbers line → IsMet events gate_values line
  gate-met line (stage, is, among) = by (slice_get system.facts stage.fact) refl
    where
      by : (found : Option FactInfo) → slice_get system.facts stage.fact ≡ found → IsMet events gate_values line
      by None at = absurd (subst (λ found. IsAmong line (formula_walk stage (looks_of system numbers stage) found).lines) at among)
      by (Some info) at =
          let low : LowRight (number_of numbers stage.fact) = low-right (number_of numbers stage.fact) (omega (arith, is.inside)) in
          let given = stage_gives stage info at (stage_looks stage info (number_of numbers stage.fact) (stage.stage - 1) refl refl is.inside low (stage-right (number_of numbers stage.fact) is.inside low (stage.stage - 1)) at) in
          among-all (IsMet events gate_values) _ line given.1 (subst (λ found. IsAmong line (formula_walk stage (looks_of system numbers stage) found).lines) at among)
