-- A gate reaches itself exactly where it has an input in its own block.
use Rattle.std.proofs.Common.{ℕ, zero, suc, ◌≡◌, ◌<◌, ◌⊎◌, Bool, true, false, ◌||◌, ◌==◌, List, [], ◌∷◌, ◌++◌, length, map, slice_get, Option, Some, None, MatchOption, Contains, inl, inr, ⊎_elim, ap, ◌∙◌, sym, subst, refl, arith}
use Rattle.std.specs.List.{AllByRecursion}
use Rattle.std.proofs.lemmas.Bool.{eq-eqb, eqb-true, false≢true}
use Rattle.std.proofs.lemmas.Option.{slice_get_within}
use Rattle.plain_values.specs.Numbered.{numbers_below}
use Rattle.fault_system.specs.Truth.{occurs}
use Rattle.fault_system.specs.Systems.{IsFact}
use Rattle.fault_system.specs.declared.formula.FactInfo.{FactInfo}
use Rattle.backward_slice.specs.Slices.{DependsOn}
use Rattle.dependency_blocks.specs.Blocks.{BlockNumbers, number_of}
use Rattle.dependency_blocks.specs.inner.Blocks.{AreAllBlocks}
use Rattle.dependency_blocks.proofs.AllFacts.{below-contained}
use Rattle.dependency_blocks.proofs.Passes.{depends_step}
use Rattle.round_gates.specs.declared.node.GateKind.TheVariants as kinds
use Rattle.round_gates.specs.declared.tree.Input.{Input}
use Rattle.round_gates.specs.declared.tree.Input.TheVariants as inputs
use Rattle.round_gates.specs.Formulas.{input_formula, kind_formula}
use Rattle.round_gates.specs.inner.Targets.{IsWithin}
use Rattle.round_gates.specs.Trees.{has_gate}
use Rattle.round_gates.proofs.GateFormulas.{kind-occurs}
use Rattle.galileo_reader.specs.inner.Cycles.{HasOwn, NoneHasOwn, has_own}
use Rattle.galileo_reader.specs.declared.tree.NamedGate.{NamedGate}
use Rattle.galileo_reader.specs.declared.tree.NamedTree.{NamedTree}
use Rattle.galileo_reader.specs.Trees.{IsAcyclic, IsFirstCyclic, LeadsTo, ReachesItself}
use Rattle.galileo_reader.specs.inner.Trees.{HasInputs, IsNamedTree}
use Rattle.galileo_reader.specs.TreeSystems.{gate_fact, system_of, top_facts}
use Rattle.galileo_reader.proofs.SystemLaws.{Made, of_one, behind, made-at, made-from}

or-cases : (a b : Bool) → a || b ≡ true → (a ≡ true) ⊎ (b ≡ true)
or-cases true b e = inl refl
or-cases false b e = inr e

or-left : (a b : Bool) → a ≡ true → a || b ≡ true
or-left true b e = refl
or-left false b e = absurd (false≢true e)

or-right : (a b : Bool) → b ≡ true → a || b ≡ true
or-right true b e = refl
or-right false b e = e

-- an input that is a gate in the block of another is found
with-own : (numbers : BlockNumbers) (n m : ℕ) (ins : List Input) → has_gate ins m ≡ true → number_of numbers m ≡ number_of numbers n → has_own numbers n ins ≡ true
with-own numbers n m [] h same = absurd (false≢true h)
with-own numbers n m (inputs.Event k ∷ ins) h same = with-own numbers n m ins h same
with-own numbers n m (inputs.Gate k ∷ ins) h same =
    ⊎_elim
    (λ here. or-left _ _ (eq-eqb (number_of numbers k) (number_of numbers n) (ap (number_of numbers) (eqb-true k m here) ∙ same)))
    (λ later. or-right (number_of numbers k == number_of numbers n) _ (with-own numbers n m ins later same)) (or-cases (k == m) (has_gate ins m) h)

own-with : (numbers : BlockNumbers) (n events gates : ℕ) (ins : List Input) → AllByRecursion (IsWithin events gates) ins → has_own numbers n ins ≡ true → (m : ℕ) × (m < gates) × (has_gate ins m ≡ true) × (number_of numbers m ≡ number_of numbers n)
own-with numbers n events gates [] inside h = absurd (false≢true h)
own-with numbers n events gates (inputs.Event k ∷ ins) inside h = own-with numbers n events gates ins inside.1 h
own-with numbers n events gates (inputs.Gate k ∷ ins) inside h =
    ⊎_elim
    (λ here. (k, inside.0, or-left (k == k) _ (eq-eqb k k refl), eqb-true (number_of numbers k) (number_of numbers n) here))
    (λ later. let (m, fits, has, same) = own-with numbers n events gates ins inside.1 later in (m, fits, or-right (k == m) _ has, same))
    (or-cases (number_of numbers k == number_of numbers n) (has_own numbers n ins) h)

module _ (tree : NamedTree) where
  gate-is : (n : ℕ) (gate : NamedGate) → slice_get tree.gates n ≡ Some gate → IsFact (system_of tree) n (gate_fact gate)
  gate-is n gate at = made-at gate_fact tree.gates (top_facts tree tree.top) n gate at

  depends : (m n : ℕ) → LeadsTo tree.gates m n → DependsOn (system_of tree) m n
  depends m n leads set causes own =
      leads set (λ a b gate in_set at has. causes a b (gate_fact gate) in_set (gate-is a gate at) (kind-occurs b gate.kind gate.inputs ∙ has)) own

  -- no gate occurs in the fact of a top that is an event
  no-gate : (b : ℕ) (fact : FactInfo) (top : Input) (k : ℕ) → slice_get (top_facts tree top) k ≡ Some fact → occurs b fact.formula ≡ true → ⊥
  no-gate b fact (inputs.Gate n) k at o = cc
  no-gate b fact (inputs.Event n) zero at o =
      let same : kind_formula kinds.Or (input_formula (inputs.Event n) ∷ []) ≡ fact.formula = ap (λ (f : FactInfo). f.formula) (inner _ fact at) in
      false≢true (sym (kind-occurs b kinds.Or (inputs.Event n ∷ [])) ∙ ap (occurs b) same ∙ o)
    where
      inner : (x y : FactInfo) → Some x ≡ Some y → x ≡ y
      inner x y e = cc
  no-gate b fact (inputs.Event n) (suc k) at o = cc

  -- a fact that occurs in the formula of another is an input of that one's gate
  input-of : (n m : ℕ) (fact : FactInfo) → IsFact (system_of tree) n fact → occurs m fact.formula ≡ true → (gate : NamedGate) × (slice_get tree.gates n ≡ Some gate) × (has_gate gate.inputs m ≡ true)
  input-of n m fact at o = by (made-from gate_fact tree.gates (top_facts tree tree.top) n fact at)
    where
      by : Made gate_fact tree.gates (top_facts tree tree.top) n fact → (gate : NamedGate) × (slice_get tree.gates n ≡ Some gate) × (has_gate gate.inputs m ≡ true)
      by (of_one gate here same) = (gate, here, sym (kind-occurs m gate.kind gate.inputs) ∙ ap (λ (f : FactInfo). occurs m f.formula) same ∙ o)
      by (behind k number here) = absurd (no-gate m fact tree.top k here o)

  leads : (m n : ℕ) → DependsOn (system_of tree) m n → LeadsTo tree.gates m n
  leads m n on set has own = on set (λ a b fact in_set at o.
      let (gate, here, input) = input-of a b fact at o in has a b gate in_set here input) own

  -- where no gate reaches itself, no fact of the tree's system does
  pub no-feedback : IsAcyclic tree.gates → (n m : ℕ) (fact : FactInfo) → IsFact (system_of tree) n fact → occurs m fact.formula ≡ true → DependsOn (system_of tree) m n → ⊥
  no-feedback acyclic n m fact at o on =
      let (gate, here, input) = input-of n m fact at o in
      acyclic n (record { gate = gate; at = here; input = m; is_input = input; back = leads m n on })

module _ (tree : NamedTree) (named : IsNamedTree tree) (numbers : BlockNumbers) (blocks : AreAllBlocks (system_of tree) numbers) where
  all-at : {X : Type 0} (P : X → Type 0) (xs : List X) → AllByRecursion P xs → (n : ℕ) (x : X) → slice_get xs n ≡ Some x → P x
  all-at P [] all n x at = cc
  all-at P (y ∷ xs) all zero x at = let same : y ≡ x = cc in subst P same all.0
  all-at P (y ∷ xs) all (suc n) x at = all-at P xs all.1 n x at

  -- a gate of the tree is a fact in a block
  in-blocks : (n : ℕ) → n < length tree.gates → Contains (numbers_below (length (system_of tree).facts)) n
  in-blocks n fits = (below-contained (length (system_of tree).facts) n).1 (there tree.gates n fits)
    where
      there : (gates : List NamedGate) (n : ℕ) → n < length gates → n < length (map gate_fact gates ++ top_facts tree tree.top)
      there [] n h = absurd (omega arith)
      there (gate ∷ gates) zero h = omega arith
      there (gate ∷ gates) (suc n) h = omega (arith, there gates n (omega (arith, h)))

  pub reaches-own : (n : ℕ) → ReachesItself tree.gates n → HasOwn numbers tree.gates n
  reaches-own n is =
      let inside : n < length tree.gates = slice_get_within tree.gates n is.gate is.at in
      let occurs_in : occurs is.input (gate_fact is.gate).formula ≡ true = kind-occurs is.input is.gate.kind is.gate.inputs ∙ is.is_input in
      let (m, fits, has) = input-within is.input is.gate.inputs (all-at (HasInputs (length tree.events) (length tree.gates)) tree.gates named.inputs_in n is.gate is.at) is.is_input in
      let same : number_of numbers n ≡ number_of numbers is.input =
      (blocks.mutual_reach n is.input (in-blocks n inside) (in-blocks is.input (subst (λ k. k < length tree.gates) has fits))).1
      (depends_step (system_of tree) n is.input (gate_fact is.gate) (gate-is tree n is.gate is.at) occurs_in, depends tree is.input n is.back) in
      (is.gate, is.at, with-own numbers n is.input is.gate.inputs is.is_input (sym same))
    where
      input-within : (k : ℕ) (ins : List Input) → AllByRecursion (IsWithin (length tree.events) (length tree.gates)) ins → has_gate ins k ≡ true → (m : ℕ) × (m < length tree.gates) × (m ≡ k)
      input-within k [] inside h = absurd (false≢true h)
      input-within k (inputs.Event m ∷ ins) inside h = input-within k ins inside.1 h
      input-within k (inputs.Gate m ∷ ins) inside h =
          ⊎_elim (λ here. (m, inside.0, eqb-true m k here)) (λ later. input-within k ins inside.1 later) (or-cases (m == k) (has_gate ins k) h)

  pub own-reaches : (n : ℕ) → HasOwn numbers tree.gates n → ReachesItself tree.gates n
  own-reaches n (gate, at, own) =
      let inside : n < length tree.gates = slice_get_within tree.gates n gate at in
      let (m, fits, has, same) = own-with numbers n (length tree.events) (length tree.gates) gate.inputs (all-at (HasInputs (length tree.events) (length tree.gates)) tree.gates named.inputs_in n gate at) own in
      record {
        gate = gate;
        at = at;
        input = m;
        is_input = has;
        back = leads tree m n ((blocks.mutual_reach m n (in-blocks m fits) (in-blocks n inside)).0 same).0;
      }

  apart : (n : ℕ) → HasOwn numbers tree.gates n → ((gate : NamedGate) → slice_get tree.gates n ≡ Some gate → has_own numbers n gate.inputs ≡ false) → ⊥
  apart n (gate, at, own) none = false≢true (sym (none gate at) ∙ own)

  -- where no gate has such an input, none reaches itself
  pub none-cyclic : NoneHasOwn numbers tree.gates (length tree.gates) → IsAcyclic tree.gates
  none-cyclic none n is = apart n (reaches-own n is) (λ gate at. none n gate (slice_get_within tree.gates n is.gate is.at) at)

  -- the first gate that has such an input is the first that reaches itself
  pub first-cyclic : (n : ℕ) → HasOwn numbers tree.gates n → NoneHasOwn numbers tree.gates n → IsFirstCyclic tree.gates n
  first-cyclic n own none = record { reaches = own-reaches n own; first = λ m less is. apart m (reaches-own m is) (λ gate at. none m gate less at) }

  -- what is found by the blocks
  pub cyclic-found : (found : Option ℕ) → MatchOption found (NoneHasOwn numbers tree.gates (length tree.gates)) (λ n. HasOwn numbers tree.gates n × NoneHasOwn numbers tree.gates n) → MatchOption found (IsAcyclic tree.gates) (IsFirstCyclic tree.gates)
  cyclic-found None none = none-cyclic none
  cyclic-found (Some n) own = first-cyclic n own.0 own.1
