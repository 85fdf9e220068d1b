-- The stages of a target's facts do not depend on how its blocks are numbered.
use Rattle.std.proofs.Common.{ℕ, zero, suc, ◌+◌, ◌-◌, ◌*◌, ◌≡◌, ◌<◌, ◌≤◌, Bool, true, false, cond, ◌==◌, List, [], ◌∷◌, ◌++◌, map, slice_get, Contains, Option, Some, None, ap, ◌∙◌, sym, subst, refl, arith, add-one}
use Rattle.std.proofs.lemmas.Bool.{eqb-true, eq-eqb, ne_eqb}
use Rattle.std.proofs.lemmas.Bool.Decides.{nat_tests}
use Rattle.std.proofs.lemmas.List.Sums.{sum_by-cons}
use Rattle.std.specs.List.{list_any}
use Rattle.fault_system.specs.Truth.{occurs, occurs_step}
use Rattle.fault_system.specs.Systems.{System, IsSystem, IsFact}
use Rattle.fault_system.specs.declared.formula.FactInfo.{FactInfo}
use Rattle.fault_system.specs.declared.formula.Formula.{Formula, map-Formula, roll-Formula, fold-roll-Formula, ind-Formula}
use Rattle.fault_system.specs.declared.formula.Formula.TheOpen.{Formula-F, True, Event, Fact, And, Or, AtLeast}
use Rattle.fault_system.proofs.TruthLaws.{same_answer}
use Rattle.dependency_blocks.specs.Blocks.{BlockNumbers, IsBlocks, number_of, size_of}
use Rattle.round_gates.specs.declared.node.GateKind.TheVariants as kinds
use Rattle.round_gates.specs.declared.node.Line.{Line}
use Rattle.round_gates.specs.declared.node.Node.{Node}
use Rattle.round_gates.specs.declared.tree.Input.TheVariants as inputs
use Rattle.round_gates.specs.declared.tree.Tree.{Tree}
use Rattle.round_gates.specs.declared.node.Node.TheVariants.{Always, Never, Basic, Gate}
use Rattle.round_gates.specs.declared.node.Stage.{Stage}
use Rattle.round_gates.specs.Nodes.{all_of, any_of, least_of}
use Rattle.round_gates.specs.Stages.{formula_walk, stage_nodes, low_nodes, last_node, looks_of, IsStage, IsAmong, gates_of, IsGateOf}
use Rattle.round_gates.specs.Staged.{fact_places, stage_places, all_places}
use Rattle.round_gates.specs.Trees.{IsTreeOf, line_of}
use Rattle.round_gates.specs.Walks.{total, Walked, Parts, parts_of, nodes_of, node_at, line_at, counted_lines, walk, walk_step}
use Rattle.round_gates.proofs.Basics.{or_left, or_right}
use Rattle.round_gates.proofs.StageTruth.{stage-out, stage-first, stage-in, low-suc}
use Rattle.round_gates.proofs.Steps.{low-last}

-- ---- a walk looks only at what occurs in its formula

module _ (stage : Stage) (look other : ℕ → Node) where
  abbrev Agrees : (ℕ → Bool) → Type 0
  Agrees occur = (n : ℕ) → occur n ≡ true → look n ≡ other n

  abbrev SameFormula : Formula → Type 0
  SameFormula f = Agrees (λ n. occurs n f) → (start : ℕ) → walk stage look f start ≡ walk stage other f start

  abbrev FormulaPart : Type 0
  FormulaPart = (f : Formula) × SameFormula f

  abbrev formulas : List FormulaPart → List Formula
  formulas ps = map (λ p. p.0) ps

  abbrev joined : ℕ → Walked → Parts → Parts
  joined start first rest = record { parts = record { place = start; node = first.node } ∷ rest.parts; next = rest.next; lines = first.lines ++ rest.lines }

  parts-same : (ps : List FormulaPart) → Agrees (λ n. list_any (λ b. b) (map (occurs n) (formulas ps))) → (start : ℕ) → parts_of (map (walk stage look) (formulas ps)) start ≡ parts_of (map (walk stage other) (formulas ps)) start
  parts-same [] agrees start = refl
  parts-same (p ∷ ps) agrees start =
      let first : walk stage look p.0 start ≡ walk stage other p.0 start = p.1 (λ n o. agrees n (or_left (occurs n p.0) _ o)) start in
      let rest = parts-same ps (λ n o. agrees n (or_right (occurs n p.0) _ o)) (walk stage look p.0 start).next in
      λ i. joined start (first i) ((rest ∙ ap (λ (w : Walked). parts_of (map (walk stage other) (formulas ps)) w.next) first) i)

  abbrev Layer : Formula-F Formula → Type 0
  Layer x = Agrees (λ n. occurs_step n (map-Formula Formula Bool (occurs n) x)) → (start : ℕ) → walk_step stage look (map-Formula Formula (ℕ → Walked) (walk stage look) x) start ≡ walk_step stage other (map-Formula Formula (ℕ → Walked) (walk stage other) x) start

  layer : (y : Formula-F FormulaPart) → Layer (map-Formula FormulaPart Formula (λ p. p.0) y)
  layer True agrees start = refl
  layer (Event n) agrees start = refl
  layer (Fact n) agrees start = λ i. record { node = agrees n (eq-eqb n n refl) i; next = start + 1; lines = [] }
  layer (And ps) agrees start =
      ap (λ (all : Parts). let join = all_of (nodes_of all.parts) in record { node = node_at stage start join; next = all.next; lines = all.lines ++ line_at stage start join }) (parts-same ps agrees (start + 1))
  layer (Or ps) agrees start =
      ap (λ (all : Parts). let join = any_of (nodes_of all.parts) in record { node = node_at stage start join; next = all.next; lines = all.lines ++ line_at stage start join }) (parts-same ps agrees (start + 1))
  layer (AtLeast k ps) agrees start =
      ap (λ (all : Parts). let join = least_of k (nodes_of all.parts) in record { node = node_at stage start join; next = all.next; lines = all.lines ++ counted_lines stage start all.parts join }) (parts-same ps agrees (start + 1))

  rolled : (x : Formula-F Formula) → Layer x → SameFormula (roll-Formula x)
  rolled x same agrees start =
      ap (λ (w : ℕ → Walked). w start) (fold-roll-Formula (ℕ → Walked) (walk_step stage look) x)
      ∙ same (λ n o. agrees n (fold-roll-Formula Bool (occurs_step n) x ∙ o)) start
      ∙ ap (λ (w : ℕ → Walked). w start) (sym (fold-roll-Formula (ℕ → Walked) (walk_step stage other) x))

  pub walk-same : (f : Formula) → Agrees (λ n. occurs n f) → (start : ℕ) → walk stage look f start ≡ walk stage other f start
  walk-same = ind-Formula SameFormula (λ x y is. rolled x (subst Layer is (layer y)))

-- ---- two numberings of the blocks of one slice

one_size : (xs ys : BlockNumbers) (x y : ℕ) → x < 4294967295 → y < 4294967295 → ((m : ℕ) → (number_of xs m == x) ≡ (number_of ys m == y)) → size_of xs x ≡ size_of ys y
one_size [] [] x y small also same = refl
one_size [] (v ∷ ys) x y small also same =
    let none : (v == y) ≡ false = sym (same 0) ∙ ne_eqb 4294967295 x (λ e. omega arith) in
    let sum : size_of (v ∷ ys) y ≡ cond (v == y) 1 0 + size_of ys y = sum_by-cons (λ (n : ℕ). cond (n == y) 1 0) v ys in
    let nothing : cond {A = ℕ} (v == y) 1 0 ≡ cond {A = ℕ} false 1 0 = ap (λ (b : Bool). cond {A = ℕ} b 1 0) none in
    let rest : size_of [] x ≡ size_of ys y = one_size [] ys x y small also (λ m. same (suc m)) in
    omega arith
one_size (v ∷ xs) [] x y small also same =
    let none : (v == x) ≡ false = same 0 ∙ ne_eqb 4294967295 y (λ e. omega arith) in
    let sum : size_of (v ∷ xs) x ≡ cond (v == x) 1 0 + size_of xs x = sum_by-cons (λ (n : ℕ). cond (n == x) 1 0) v xs in
    let nothing : cond {A = ℕ} (v == x) 1 0 ≡ cond {A = ℕ} false 1 0 = ap (λ (b : Bool). cond {A = ℕ} b 1 0) none in
    let rest : size_of xs x ≡ size_of [] y = one_size xs [] x y small also (λ m. same (suc m)) in
    omega arith
one_size (v ∷ xs) (w ∷ ys) x y small also same =
    sum_by-cons (λ (n : ℕ). cond (n == x) 1 0) v xs
    ∙ ap (λ b. cond b 1 0 + size_of xs x) (same 0)
    ∙ ap (λ (n : ℕ). cond (w == y) 1 0 + n) (one_size xs ys x y small also (λ m. same (suc m)))
    ∙ sym (sum_by-cons (λ (n : ℕ). cond (n == y) 1 0) w ys)

module _ (system : System) (facts : List ℕ) (a b : BlockNumbers) (first : IsBlocks system facts a) (second : IsBlocks system facts b) where
  same-test : (n m : ℕ) → Contains facts n → (number_of a m == number_of a n) ≡ true → (number_of b m == number_of b n) ≡ true
  same-test n m there e =
      let same : number_of a m ≡ number_of a n = eqb-true _ _ e in
      let also : Contains facts m = (first.inside m).1 (subst (λ (k : ℕ). k < 4294967295) (sym same) ((first.inside n).0 there)) in
      eq-eqb _ _ ((second.mutual_reach m n also there).1 ((first.mutual_reach m n also there).0 same))

module _ (system : System) (facts : List ℕ) (a b : BlockNumbers) (first : IsBlocks system facts a) (second : IsBlocks system facts b) where
  -- two numberings have the same blocks
  pub same-block : (n : ℕ) → Contains facts n → (m : ℕ) → (number_of a m == number_of a n) ≡ (number_of b m == number_of b n)
  same-block n there m = same_answer _ _ (same-test system facts a b first second n m there) (same-test system facts b a second first n m there)

  pub same-size : (n : ℕ) → Contains facts n → size_of a (number_of a n) ≡ size_of b (number_of b n)
  same-size n there = one_size a b (number_of a n) (number_of b n) ((first.inside n).0 there) ((second.inside n).0 there) (same-block n there)

  module _ (is_system : IsSystem system) (n : ℕ) (there : Contains facts n) (lower : (m : ℕ) → Contains facts m → number_of a m < number_of a n → last_node system a m ≡ last_node system b m) where
    -- a fact of the block or of a lower one, by both numberings
    record IsNear (m : ℕ) : Type 0 where
      in_slice : Contains facts m
      by_first : number_of a m ≤ number_of a n
      by_second : number_of b m ≤ number_of b n

    low-same : (m : ℕ) → IsNear m → (number_of a m == number_of a n) ≡ false → low_nodes system a (number_of a n) m ≡ low_nodes system b (number_of b n) m
    low-same m near out =
        let other : (number_of b m == number_of b n) ≡ false = sym (same-block n there m) ∙ out in
        let below : number_of a m < number_of a n = apart (number_of a m) (number_of a n) near.by_first out in
        let also : number_of b m < number_of b n = apart (number_of b m) (number_of b n) near.by_second other in
        low-last system is_system facts a first m (number_of a n) below ∙ lower m near.in_slice below ∙ sym (low-last system is_system facts b second m (number_of b n) also)
      where
        apart : (x y : ℕ) → x ≤ y → (x == y) ≡ false → x < y
        apart x y le e = grind (arith, nat_tests)

    near-of : (m k : ℕ) (info : FactInfo) → IsNear m → IsFact system m info → occurs k info.formula ≡ true → IsNear k
    near-of m k info near at o =
        let falls = first.falls m k info near.in_slice at o in
        let also = second.falls m k info near.in_slice at o in
        let inside = (first.inside m).0 near.in_slice in
        record { in_slice = (first.inside k).1 (omega arith); by_first = omega (arith, near.by_first); by_second = omega (arith, near.by_second) }

    stage-same : (stage m : ℕ) → IsNear m → stage_nodes system a (low_nodes system a (number_of a n)) (number_of a n) stage m ≡ stage_nodes system b (low_nodes system b (number_of b n)) (number_of b n) stage m
    stage-same zero m near = by (number_of a m == number_of a n) refl
      where
        by : (c : Bool) → (number_of a m == number_of a n) ≡ c → stage_nodes system a (low_nodes system a (number_of a n)) (number_of a n) zero m ≡ stage_nodes system b (low_nodes system b (number_of b n)) (number_of b n) zero m
        by true e = stage-first system a (low_nodes system a (number_of a n)) (number_of a n) m e ∙ sym (stage-first system b (low_nodes system b (number_of b n)) (number_of b n) m (sym (same-block n there m) ∙ e))
        by false e =
            stage-out system a (low_nodes system a (number_of a n)) (number_of a n) zero m e ∙ low-same m near e ∙ sym (stage-out system b (low_nodes system b (number_of b n)) (number_of b n) zero m (sym (same-block n there m) ∙ e))
    stage-same (suc stage) m near = by (number_of a m == number_of a n) refl (stage-same stage)
      where
        walked : ((k : ℕ) → IsNear k → stage_nodes system a (low_nodes system a (number_of a n)) (number_of a n) stage k ≡ stage_nodes system b (low_nodes system b (number_of b n)) (number_of b n) stage k)
            → (found : Option FactInfo) → slice_get system.facts m ≡ found
            → (formula_walk (record { fact = m; stage = suc stage }) (stage_nodes system a (low_nodes system a (number_of a n)) (number_of a n) stage) found).node
            ≡ (formula_walk (record { fact = m; stage = suc stage }) (stage_nodes system b (low_nodes system b (number_of b n)) (number_of b n) stage) found).node
        walked before None at = refl
        walked before (Some info) at = ap (λ (w : Walked). w.node) (walk-same (record { fact = m; stage = suc stage }) _ _ info.formula (λ k o. before k (near-of m k info near at o)) 0)

        by : (c : Bool) → (number_of a m == number_of a n) ≡ c
            → ((k : ℕ) → IsNear k → stage_nodes system a (low_nodes system a (number_of a n)) (number_of a n) stage k ≡ stage_nodes system b (low_nodes system b (number_of b n)) (number_of b n) stage k)
            → stage_nodes system a (low_nodes system a (number_of a n)) (number_of a n) (suc stage) m ≡ stage_nodes system b (low_nodes system b (number_of b n)) (number_of b n) (suc stage) m
        by true e before =
            stage-in system a (low_nodes system a (number_of a n)) (number_of a n) stage m e ∙ walked before (slice_get system.facts m) refl ∙ sym (stage-in system b (low_nodes system b (number_of b n)) (number_of b n) stage m (sym (same-block n there m) ∙ e))
        by false e before =
            stage-out system a (low_nodes system a (number_of a n)) (number_of a n) (suc stage) m e ∙ low-same m near e ∙ sym (stage-out system b (low_nodes system b (number_of b n)) (number_of b n) (suc stage) m (sym (same-block n there m) ∙ e))

    itself : IsNear n
    itself = record { in_slice = there; by_first = omega arith; by_second = omega arith }

    last-here : last_node system a n ≡ last_node system b n
    last-here =
        ap (λ k. low_nodes system a k n) (add-one (number_of a n)) ∙ low-suc system a (number_of a n) n
        ∙ stage-same (size_of a (number_of a n)) n itself
        ∙ ap (λ k. stage_nodes system b (low_nodes system b (number_of b n)) (number_of b n) k n) (same-size n there)
        ∙ sym (ap (λ k. low_nodes system b k n) (add-one (number_of b n)) ∙ low-suc system b (number_of b n) n)

  last-below : (is_system : IsSystem system) (bound n : ℕ) → Contains facts n → number_of a n < bound → last_node system a n ≡ last_node system b n
  last-below is_system zero n there less = absurd (omega arith)
  last-below is_system (suc bound) n there less = last-here is_system n there (λ m also below. last-below is_system bound m also (omega arith))

  pub last-same : IsSystem system → (n : ℕ) → Contains facts n → last_node system a n ≡ last_node system b n
  last-same is_system n there = last-below is_system (number_of a n + 1) n there (omega arith)

  module _ (is_system : IsSystem system) where
    stage-moves : (stage : Stage) → IsStage a stage → IsStage b stage
    stage-moves stage is =
        let there : Contains facts stage.fact = (first.inside stage.fact).1 is.inside in
        record { inside = (second.inside stage.fact).0 there; from_one = is.from_one; to_last = subst (λ (n : ℕ). stage.stage ≤ n) (same-size stage.fact there) is.to_last }

    gates-same : (stage : Stage) → IsStage a stage → gates_of system a stage ≡ gates_of system b stage
    gates-same stage is = by (slice_get system.facts stage.fact) refl
      where
        there : Contains facts stage.fact
        there = (first.inside stage.fact).1 is.inside

        near : IsNear is_system stage.fact there (λ m also less. last-same is_system m also) stage.fact
        near = itself is_system stage.fact there (λ m also less. last-same is_system m also)

        by : (found : Option FactInfo) → slice_get system.facts stage.fact ≡ found → (formula_walk stage (looks_of system a stage) found).lines ≡ (formula_walk stage (looks_of system b stage) found).lines
        by None at = refl
        by (Some info) at =
            ap (λ (w : Walked). w.lines)
            (walk-same stage (looks_of system a stage) (looks_of system b stage) info.formula
            (λ n o. stage-same is_system stage.fact there (λ m also less. last-same is_system m also) (stage.stage - 1) n (near-of is_system stage.fact there (λ m also less. last-same is_system m also) stage.fact n info near at o)) 0)

    gate-moves : (line : Line) → IsGateOf system a line → IsGateOf system b line
    gate-moves line (stage, is, among) = (stage, stage-moves stage is, subst (IsAmong line) (gates-same stage is) among)

    -- a tree by one numbering is one by the other
    pub tree-moves : (target : ℕ) → Contains facts target → (tree : Tree) (node : Node) → IsTreeOf system a target tree node → IsTreeOf system b target tree node
    tree-moves target there tree Always is = is
    tree-moves target there tree Never is = is
    tree-moves target there tree (Basic n) is = is ∙ ap (λ (size : ℕ). record { top = 0; gates = record { fact = target; stage = size; place = 0; kind = kinds.Or; inputs = inputs.Event n ∷ [] } ∷ []; events = n ∷ [] }) (same-size target there)
    tree-moves target there tree (Gate key) is =
        record {
          top_in = is.top_in;
          top_is = is.top_is;
          gates_are = λ n gate at. gate-moves (line_of tree.gates gate) (is.gates_are n gate at);
          inputs_once = is.inputs_once;
          inputs_in = is.inputs_in;
          rise = is.rise;
          reached = is.reached;
          acyclic = is.acyclic;
          events = is.events;
        }

  total-same : (f g : ℕ → ℕ) (xs : List ℕ) → ((n : ℕ) → Contains xs n → f n ≡ g n) → total (map f xs) ≡ total (map g xs)
  total-same f g [] same = refl
  total-same f g (x ∷ xs) same =
      let here : f x ≡ g x = same x (0, omega arith, refl) in
      let rest : total (map f xs) ≡ total (map g xs) = total-same f g xs (λ n (k, fits, is). same n (suc k, omega arith, is)) in
      omega arith

  -- all stages have as many places by both numberings
  pub places-same : all_places system a facts ≡ all_places system b facts
  places-same = total-same (stage_places system a) (stage_places system b) facts (λ n there. ap (λ size. size * fact_places (slice_get system.facts n)) (same-size n there))
