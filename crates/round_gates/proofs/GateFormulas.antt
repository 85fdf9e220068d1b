-- The formula of a gate says what the gate says: its truth, what occurs in it, and whether it is in range.
use Rattle.std.proofs.Common.{ℕ, ◌≡◌, Bool, true, ◌||◌, List, [], ◌∷◌, map, nat_le, ap, ◌∙◌, sym, refl}
use Rattle.std.proofs.lemmas.Bool.{and_from, lt-ltb}
use Rattle.std.specs.List.{AllByRecursion, list_all, list_any}
use Rattle.fault_system.specs.Truth.{NumberSet, count_true, in_range, in_range_step, occurs, occurs_event, occurs_event_step, occurs_step, truth}
use Rattle.fault_system.specs.declared.formula.Formula.{Formula, Formula-F, fold-Formula, fold-roll-Formula}
use Rattle.fault_system.specs.declared.formula.Formula.TheVariants as shut
use Rattle.fault_system.specs.declared.formula.Formula.TheOpen as open_one
use Rattle.fault_system.proofs.TruthLaws.{truth-And, truth-AtLeast, truth-Event, truth-Fact, truth-Or}
use Rattle.round_gates.specs.declared.node.GateKind.{GateKind}
use Rattle.round_gates.specs.declared.node.GateKind.TheVariants as kinds
use Rattle.round_gates.specs.declared.tree.Input.{Input}
use Rattle.round_gates.specs.declared.tree.Input.TheVariants as inputs
use Rattle.round_gates.specs.Formulas.{input_formula, kind_formula}
use Rattle.round_gates.specs.inner.Targets.{IsWithin}
use Rattle.round_gates.specs.Trees.{has_gate, is_event}
use Rattle.round_gates.specs.inner.Trees.{input_true}
use Rattle.round_gates.specs.Truths.{kind_true}

module _ (events facts : NumberSet) where
  inputs-truth : (ins : List Input) → map (truth events facts) (map input_formula ins) ≡ map (input_true events facts) ins
  inputs-truth [] = refl
  inputs-truth (inputs.Event n ∷ ins) = λ i. truth-Event events facts n i ∷ inputs-truth ins i
  inputs-truth (inputs.Gate n ∷ ins) = λ i. truth-Fact events facts n i ∷ inputs-truth ins i

  pub kind-truth : (kind : GateKind) (ins : List Input) → truth events facts (kind_formula kind (map input_formula ins)) ≡ kind_true kind (map (input_true events facts) ins)
  kind-truth kinds.And ins = truth-And events facts (map input_formula ins) ∙ ap (list_all (λ b. b)) (inputs-truth ins)
  kind-truth kinds.Or ins = truth-Or events facts (map input_formula ins) ∙ ap (list_any (λ b. b)) (inputs-truth ins)
  kind-truth (kinds.AtLeast k) ins = truth-AtLeast events facts k (map input_formula ins) ∙ ap (λ bs. nat_le k (count_true bs)) (inputs-truth ins)

-- a fold over the formula of a gate
module _ (step : Formula-F Bool → Bool) where
  abbrev said : Formula → Bool
  said = fold-Formula Bool step

  said-Event : (n : ℕ) → said (shut.Event n) ≡ step (open_one.Event n)
  said-Event n = ap said (sym (shut.rolls-Event n)) ∙ fold-roll-Formula Bool step (open_one.Event n)

  said-Fact : (n : ℕ) → said (shut.Fact n) ≡ step (open_one.Fact n)
  said-Fact n = ap said (sym (shut.rolls-Fact n)) ∙ fold-roll-Formula Bool step (open_one.Fact n)

  said-And : (parts : List Formula) → said (shut.And parts) ≡ step (open_one.And (map said parts))
  said-And parts = ap said (sym (shut.rolls-And parts)) ∙ fold-roll-Formula Bool step (open_one.And parts)

  said-Or : (parts : List Formula) → said (shut.Or parts) ≡ step (open_one.Or (map said parts))
  said-Or parts = ap said (sym (shut.rolls-Or parts)) ∙ fold-roll-Formula Bool step (open_one.Or parts)

  said-AtLeast : (k : ℕ) (parts : List Formula) → said (shut.AtLeast k parts) ≡ step (open_one.AtLeast k (map said parts))
  said-AtLeast k parts = ap said (sym (shut.rolls-AtLeast k parts)) ∙ fold-roll-Formula Bool step (open_one.AtLeast k parts)

module _ (m : ℕ) where
  occurs-inputs : (ins : List Input) → list_any (λ b. b) (map (occurs m) (map input_formula ins)) ≡ has_gate ins m
  occurs-inputs [] = refl
  occurs-inputs (inputs.Event n ∷ ins) = λ i. said-Event (occurs_step m) n i || occurs-inputs ins i
  occurs-inputs (inputs.Gate n ∷ ins) = λ i. said-Fact (occurs_step m) n i || occurs-inputs ins i

  pub kind-occurs : (kind : GateKind) (ins : List Input) → occurs m (kind_formula kind (map input_formula ins)) ≡ has_gate ins m
  kind-occurs kinds.And ins = said-And (occurs_step m) (map input_formula ins) ∙ occurs-inputs ins
  kind-occurs kinds.Or ins = said-Or (occurs_step m) (map input_formula ins) ∙ occurs-inputs ins
  kind-occurs (kinds.AtLeast k) ins = said-AtLeast (occurs_step m) k (map input_formula ins) ∙ occurs-inputs ins

  event-inputs : (ins : List Input) → list_any (λ b. b) (map (occurs_event m) (map input_formula ins)) ≡ list_any (is_event m) ins
  event-inputs [] = refl
  event-inputs (inputs.Event n ∷ ins) = λ i. said-Event (occurs_event_step m) n i || event-inputs ins i
  event-inputs (inputs.Gate n ∷ ins) = λ i. said-Fact (occurs_event_step m) n i || event-inputs ins i

  pub kind-events : (kind : GateKind) (ins : List Input) → occurs_event m (kind_formula kind (map input_formula ins)) ≡ list_any (is_event m) ins
  kind-events kinds.And ins = said-And (occurs_event_step m) (map input_formula ins) ∙ event-inputs ins
  kind-events kinds.Or ins = said-Or (occurs_event_step m) (map input_formula ins) ∙ event-inputs ins
  kind-events (kinds.AtLeast k) ins = said-AtLeast (occurs_event_step m) k (map input_formula ins) ∙ event-inputs ins

module _ (facts events : ℕ) where
  range-inputs : (ins : List Input) → AllByRecursion (IsWithin events facts) ins → list_all (λ b. b) (map (in_range facts events) (map input_formula ins)) ≡ true
  range-inputs [] all = refl
  range-inputs (inputs.Event n ∷ ins) all = and_from _ _ (said-Event (in_range_step facts events) n ∙ lt-ltb _ _ all.0) (range-inputs ins all.1)
  range-inputs (inputs.Gate n ∷ ins) all = and_from _ _ (said-Fact (in_range_step facts events) n ∙ lt-ltb _ _ all.0) (range-inputs ins all.1)

  pub kind-range : (kind : GateKind) (ins : List Input) → AllByRecursion (IsWithin events facts) ins → in_range facts events (kind_formula kind (map input_formula ins)) ≡ true
  kind-range kinds.And ins all = said-And (in_range_step facts events) (map input_formula ins) ∙ range-inputs ins all
  kind-range kinds.Or ins all = said-Or (in_range_step facts events) (map input_formula ins) ∙ range-inputs ins all
  kind-range (kinds.AtLeast k) ins all = said-AtLeast (in_range_step facts events) k (map input_formula ins) ∙ range-inputs ins all
