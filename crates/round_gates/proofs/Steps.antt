-- From one stage of a block to the next, and from one block to the next.
use Rattle.std.proofs.Common.{ℕ, zero, suc, ◌+◌, ◌-◌, ◌≡◌, ◌<◌, ◌≤◌, ◌⊎◌, Bool, true, false, cond, ◌&&◌, ◌==◌, List, [], ◌∷◌, ◌++◌, length, map, All, Contains, Option, Some, None, slice_get, flat_map, inl, inr, ap, ◌∙◌, sym, subst, refl, arith, add-one, append_assoc}
use Rattle.std.proofs.lemmas.Bool.{false≢true, eqb-true, eq-eqb, ne_eqb, and_from, and_right}
use Rattle.std.proofs.lemmas.List.Concat.{flat_map-cons}
use Rattle.std.specs.List.{AllByRecursion}
use Rattle.fault_system.specs.Truth.{set_of}
use Rattle.fault_system.specs.Systems.{System, IsSystem}
use Rattle.fault_system.specs.declared.formula.FactInfo.{FactInfo}
use Rattle.fault_system.proofs.Occurrences.{fact-in_range}
use Rattle.dependency_blocks.specs.Blocks.{BlockNumbers, IsBlocks, number_of, size_of}
use Rattle.round_gates.specs.declared.node.Line.{Line}
use Rattle.round_gates.specs.declared.node.Node.{Node}
use Rattle.round_gates.specs.declared.node.Node.TheVariants.{Never}
use Rattle.round_gates.specs.declared.node.Stage.{Stage}
use Rattle.fault_system.proofs.NumberSets.{contained-in_set, set_of-filter}
use Rattle.round_gates.specs.inner.Walks.{node_in}
use Rattle.round_gates.specs.inner.Lines.{IsKnown, InOrder}
use Rattle.round_gates.specs.Stages.{in_block, formula_walk, fact_walk, stage_nodes, low_nodes, last_node, looks_of, IsAmong, IsGateOf}
use Rattle.round_gates.specs.inner.Unrolled.{members_of, stage_at, found_in, lines_in, written, AreUnrolled, IsUnrolling}
use Rattle.round_gates.proofs.Ordered.{known-more, order-append, walk-ordered}
use Rattle.round_gates.proofs.StageTruth.{stage-out, stage-first, stage-in, low-zero, low-suc}
use Rattle.round_gates.proofs.Writing.{written-is}
use Rattle.round_gates.proofs.Basics.{not_here, all-map, all-append, or_left, or_right}

all-among : {X : Type 0} (xs : List X) → AllByRecursion (λ x. IsAmong x xs) xs
all-among {X} [] = tt
all-among {X} (x ∷ xs) = (inl refl, weaker xs (all-among xs))
  where
    weaker : (ys : List X) → AllByRecursion (λ y. IsAmong y xs) ys → AllByRecursion (λ y. (y ≡ x) ⊎ IsAmong y xs) ys
    weaker [] h = tt
    weaker (y ∷ ys) h = (inr h.0, weaker ys h.1)

module _ (system : System) (is_system : IsSystem system) where
  abbrev events : ℕ
  events = length system.events

  -- a fact's gates stand in order, and its node is one of them or was there
  fact-ordered : (look : ℕ → Node) (stage : Stage) (before : List Line) → ((n : ℕ) → IsKnown events before (look n))
      → InOrder events before (fact_walk system look stage).lines × IsKnown events (before ++ (fact_walk system look stage).lines) (fact_walk system look stage).node
  fact-ordered look stage before looks = by (slice_get system.facts stage.fact) refl
    where
      by : (found : Option FactInfo) → slice_get system.facts stage.fact ≡ found → InOrder events before (formula_walk stage look found).lines × IsKnown events (before ++ (formula_walk stage look found).lines) (formula_walk stage look found).node
      by None at = (tt, tt)
      by (Some info) at = walk-ordered events stage look (length system.facts) info.formula (fact-in_range system is_system stage.fact info at) before looks 0

  module _ (look : ℕ → Node) (stage : ℕ) where
    abbrev own : ℕ → List Line
    own fact = lines_in system look stage fact

    facts-ordered : (members : List ℕ) (before : List Line) → ((n : ℕ) → IsKnown events before (look n))
        → InOrder events before (flat_map own members) × ((fact : ℕ) → set_of members fact ≡ true → IsKnown events (before ++ flat_map own members) (found_in system look stage fact).node)
    facts-ordered [] before looks = (tt, λ fact e. absurd (false≢true e))
    facts-ordered (m ∷ members) before looks =
        let one = fact-ordered look (stage_at stage m) before looks in
        let rest = facts-ordered members (before ++ own m) (λ n. known-more events before (own m) (look n) (looks n)) in (
          subst (λ (lines : List Line). InOrder events before lines) (sym (flat_map-cons own m members)) (order-append events before (own m) (flat_map own members) one.0 rest.0),
          λ fact e. subst (λ (lines : List Line). IsKnown events (before ++ lines) (found_in system look stage fact).node) (sym (flat_map-cons own m members)) (by one.1 rest.1 fact e (m == fact) refl),
        )
      where
        by : IsKnown events (before ++ own m) (found_in system look stage m).node
            → ((fact : ℕ) → set_of members fact ≡ true → IsKnown events ((before ++ own m) ++ flat_map own members) (found_in system look stage fact).node)
            → (fact : ℕ) → set_of (m ∷ members) fact ≡ true → (b : Bool) → (m == fact) ≡ b → IsKnown events (before ++ (own m ++ flat_map own members)) (found_in system look stage fact).node
        by one rest fact e true is =
            subst (λ (lines : List Line). IsKnown events lines (found_in system look stage fact).node) (append_assoc before (own m) (flat_map own members))
            (known-more events (before ++ own m) (flat_map own members) (found_in system look stage fact).node
            (subst (λ (n : ℕ). IsKnown events (before ++ own m) (found_in system look stage n).node) (eqb-true _ _ is) one))
        by one rest fact e false is =
            subst (λ (lines : List Line). IsKnown events lines (found_in system look stage fact).node) (append_assoc before (own m) (flat_map own members))
            (rest fact (not_here (m == fact) (set_of members fact) is e))

module _ (system : System) (is_system : IsSystem system) (facts : List ℕ) (numbers : BlockNumbers) (blocks : IsBlocks system facts numbers) where
  module _ (block : ℕ) (small : block < 4294967295) where
    abbrev now : ℕ → ℕ → Node
    now stage = stage_nodes system numbers (low_nodes system numbers block) block stage

    abbrev members : List ℕ
    members = members_of numbers block facts

    member-is : (fact : ℕ) → set_of members fact ≡ in_block numbers block fact
    member-is fact = set_of-filter (in_block numbers block) facts fact ∙ by (in_block numbers block fact) refl
      where
        by : (b : Bool) → in_block numbers block fact ≡ b → set_of facts fact && b ≡ b
        by true is =
            let same : number_of numbers fact ≡ block = eqb-true _ _ is in
            and_from (set_of facts fact) true (contained-in_set facts fact ((blocks.inside fact).1 (omega arith))) refl
        by false is = and_right (set_of facts fact) false refl

    module _ (stage : ℕ) (more : stage < size_of numbers block) (nodes : List Node) (are : (fact : ℕ) → node_in nodes fact ≡ now stage fact) where
      look_is : node_in nodes ≡ now stage
      look_is i fact = are fact i

      -- the gates of a member are gates of its stage
      member-gates : (fact : ℕ) → in_block numbers block fact ≡ true → AllByRecursion (IsGateOf system numbers) (lines_in system (node_in nodes) (stage + 1) fact)
      member-gates fact is =
          let same : number_of numbers fact ≡ block = eqb-true _ _ is in
          let here : Stage = stage_at (stage + 1) fact in
          let before : stage + 1 - 1 ≡ stage = omega arith in
          let looks : looks_of system numbers here ≡ node_in nodes = looks_same same before in
          all-map (λ line. IsAmong line (lines_in system (node_in nodes) (stage + 1) fact)) (IsGateOf system numbers)
          (λ line among. (
            here,
            record { inside = omega arith; from_one = omega arith; to_last = subst (λ (b : ℕ). stage + 1 ≤ size_of numbers b) (sym same) (omega arith) },
            subst (λ (look : ℕ → Node). IsAmong line (fact_walk system look here).lines) (sym looks) among,
          ))
          (lines_in system (node_in nodes) (stage + 1) fact) (all-among (lines_in system (node_in nodes) (stage + 1) fact))
        where
          looks_same : number_of numbers fact ≡ block → stage + 1 - 1 ≡ stage → looks_of system numbers (stage_at (stage + 1) fact) ≡ node_in nodes
          looks_same same before = (λ i. stage_nodes system numbers (low_nodes system numbers (same i)) (same i) (before i)) ∙ sym look_is

      all-gates : (ms : List ℕ) → ((fact : ℕ) → set_of ms fact ≡ true → in_block numbers block fact ≡ true) → AllByRecursion (IsGateOf system numbers) (flat_map (lines_in system (node_in nodes) (stage + 1)) ms)
      all-gates [] inside = tt
      all-gates (m ∷ ms) inside =
          subst (AllByRecursion (IsGateOf system numbers)) (sym (flat_map-cons (lines_in system (node_in nodes) (stage + 1)) m ms))
          (all-append (IsGateOf system numbers) (lines_in system (node_in nodes) (stage + 1) m) _ (member-gates m (inside m (or_left (m == m) (set_of ms m) (eq-eqb m m refl))))
          (all-gates ms (λ fact e. inside fact (or_right (m == fact) (set_of ms fact) e))))

      next-node : (fact : ℕ) → cond (set_of members fact) (found_in system (node_in nodes) (stage + 1) fact).node (node_in nodes fact) ≡ now (suc stage) fact
      next-node fact = ap (λ b. cond b (found_in system (node_in nodes) (stage + 1) fact).node (node_in nodes fact)) (member-is fact) ∙ by (in_block numbers block fact) refl
        where
          by : (b : Bool) → in_block numbers block fact ≡ b → cond b (found_in system (node_in nodes) (stage + 1) fact).node (node_in nodes fact) ≡ now (suc stage) fact
          by true is =
              (λ i. (fact_walk system (look_is i) (stage_at (add-one stage i) fact)).node)
              ∙ sym (stage-in system numbers (low_nodes system numbers block) block stage fact is)
          by false is =
              are fact ∙ stage-out system numbers (low_nodes system numbers block) block stage fact is
              ∙ sym (stage-out system numbers (low_nodes system numbers block) block (suc stage) fact is)

    -- from one stage to the next
    pub stage-next : (stage : ℕ) → stage < size_of numbers block → (nodes new : List Node) (lines after : List Line)
        → AreUnrolled system numbers (stage_nodes system numbers (low_nodes system numbers block) block stage) nodes lines → length new ≡ length nodes
        → ((fact : ℕ) → node_in new fact ≡ written (map (found_in system (node_in nodes) (stage + 1)) (members_of numbers block facts)) (node_in nodes) fact)
        → after ≡ lines ++ flat_map (lines_in system (node_in nodes) (stage + 1)) (members_of numbers block facts)
        → AreUnrolled system numbers (stage_nodes system numbers (low_nodes system numbers block) block (suc stage)) new after
    stage-next stage more nodes new lines after is long wrote made =
        let chunk = facts-ordered system is_system (node_in nodes) (stage + 1) members lines is.known in
        let new_is = λ (fact : ℕ). wrote fact ∙ written-is system (node_in nodes) (stage + 1) members (node_in nodes) fact in
        record {
          long = long ∙ is.long;
          nodes_are = λ fact. new_is fact ∙ next-node stage more nodes is.nodes_are fact;
          gates = subst (AllByRecursion (IsGateOf system numbers)) (sym made)
              (all-append (IsGateOf system numbers) lines _ is.gates (all-gates stage more nodes is.nodes_are members (λ fact e. sym (member-is fact) ∙ e)));
          ordered = subst (InOrder (length system.events) []) (sym made) (order-append (length system.events) [] lines _ is.ordered chunk.0);
          known = λ fact. subst (λ (ls : List Line). IsKnown (length system.events) ls (node_in new fact)) (sym made)
              (subst (IsKnown (length system.events) (lines ++ flat_map (lines_in system (node_in nodes) (stage + 1)) members)) (sym (new_is fact)) (by chunk.1 fact (set_of members fact) refl));
        } where
          by : ((fact : ℕ) → set_of members fact ≡ true → IsKnown (length system.events) (lines ++ flat_map (lines_in system (node_in nodes) (stage + 1)) members) (found_in system (node_in nodes) (stage + 1) fact).node)
              → (fact : ℕ) (b : Bool) → set_of members fact ≡ b → IsKnown (length system.events) (lines ++ flat_map (lines_in system (node_in nodes) (stage + 1)) members) (cond b (found_in system (node_in nodes) (stage + 1) fact).node (node_in nodes fact))
          by found fact true e = found fact e
          by found fact false e = known-more (length system.events) lines _ (node_in nodes fact) (is.known fact)

  -- the same as the code has it
  pub stage-next-of : (block : ℕ) → block < 4294967295 → (stage : ℕ) → stage < size_of numbers block → (nodes new : List Node) (lines after : List Line) (own : List ℕ) → own ≡ members_of numbers block facts
      → AreUnrolled system numbers (stage_nodes system numbers (low_nodes system numbers block) block stage) nodes lines → length new ≡ length nodes
      → ((fact : ℕ) → node_in new fact ≡ written (map (found_in system (node_in nodes) (stage + 1)) own) (node_in nodes) fact)
      → after ≡ lines ++ flat_map (lines_in system (node_in nodes) (stage + 1)) own
      → AreUnrolled system numbers (stage_nodes system numbers (low_nodes system numbers block) block (stage + 1)) new after
  stage-next-of block small stage more nodes new lines after own same is long wrote made =
      subst (λ (s : ℕ). AreUnrolled system numbers (stage_nodes system numbers (low_nodes system numbers block) block s) new after) (sym (add-one stage))
      (stage-next block small stage more nodes new lines after is long
      (λ fact. wrote fact ∙ ap (λ ms. written (map (found_in system (node_in nodes) (stage + 1)) ms) (node_in nodes) fact) same)
      (made ∙ ap (λ ms. lines ++ flat_map (lines_in system (node_in nodes) (stage + 1)) ms) same))

  -- a fact of no lower block has no node yet
  low-none : (block fact : ℕ) → block ≤ number_of numbers fact → low_nodes system numbers block fact ≡ Never
  low-none zero fact h = low-zero system numbers fact
  low-none (suc block) fact h =
      low-suc system numbers block fact
      ∙ stage-out system numbers (low_nodes system numbers block) block (size_of numbers block) fact (ne_eqb _ _ (λ e. omega arith))
      ∙ low-none block fact (omega arith)

  -- before a block its facts are false
  low-first : (block fact : ℕ) → low_nodes system numbers block fact ≡ stage_nodes system numbers (low_nodes system numbers block) block zero fact
  low-first block fact = by (in_block numbers block fact) refl
    where
      by : (b : Bool) → in_block numbers block fact ≡ b → low_nodes system numbers block fact ≡ stage_nodes system numbers (low_nodes system numbers block) block zero fact
      by true is = let same : number_of numbers fact ≡ block = eqb-true _ _ is in low-none block fact (omega arith) ∙ sym (stage-first system numbers (low_nodes system numbers block) block fact is)
      by false is = sym (stage-out system numbers (low_nodes system numbers block) block zero fact is)

  -- what is unrolled for some nodes is unrolled for the same nodes
  pub unrolled-as : (now then : ℕ → Node) (nodes : List Node) (lines : List Line) → ((fact : ℕ) → now fact ≡ then fact) → AreUnrolled system numbers now nodes lines → AreUnrolled system numbers then nodes lines
  unrolled-as now then nodes lines same is = record { long = is.long; nodes_are = λ fact. is.nodes_are fact ∙ same fact; gates = is.gates; ordered = is.ordered; known = is.known }

  pub block-first : (block : ℕ) (nodes : List Node) (lines : List Line) → AreUnrolled system numbers (low_nodes system numbers block) nodes lines → AreUnrolled system numbers (stage_nodes system numbers (low_nodes system numbers block) block zero) nodes lines
  block-first block nodes lines is = unrolled-as _ _ nodes lines (low-first block) is

  pub block-last : (block count : ℕ) (nodes : List Node) (lines : List Line) → count ≡ size_of numbers block → AreUnrolled system numbers (stage_nodes system numbers (low_nodes system numbers block) block count) nodes lines → AreUnrolled system numbers (low_nodes system numbers (block + 1)) nodes lines
  block-last block count nodes lines all is =
      unrolled-as _ _ nodes lines (λ fact. ap (λ n. stage_nodes system numbers (low_nodes system numbers block) block n fact) all ∙ sym (low-suc system numbers block fact) ∙ ap (λ b. low_nodes system numbers b fact) (sym (add-one block))) is

  -- nodes of low blocks stay
  low-stays : (fact bound more : ℕ) → number_of numbers fact < bound → low_nodes system numbers (bound + more) fact ≡ low_nodes system numbers bound fact
  low-stays fact bound zero h = let e : bound + 0 ≡ bound = omega arith in ap (λ b. low_nodes system numbers b fact) e
  low-stays fact bound (suc more) h =
      let e : bound + suc more ≡ suc (bound + more) = omega arith in
      ap (λ b. low_nodes system numbers b fact) e ∙ low-suc system numbers (bound + more) fact
      ∙ stage-out system numbers (low_nodes system numbers (bound + more)) (bound + more) (size_of numbers (bound + more)) fact (ne_eqb _ _ (λ s. omega arith))
      ∙ low-stays fact bound more h

  pub low-last : (fact bound : ℕ) → number_of numbers fact < bound → low_nodes system numbers bound fact ≡ last_node system numbers fact
  low-last fact bound h =
      let e : bound ≡ number_of numbers fact + 1 + (bound - (number_of numbers fact + 1)) = omega arith in
      ap (λ b. low_nodes system numbers b fact) e ∙ low-stays fact (number_of numbers fact + 1) (bound - (number_of numbers fact + 1)) (omega arith)

  pub unrolled-none : (nodes : List Node) → length nodes ≡ length system.facts → ((fact : ℕ) → node_in nodes fact ≡ Never) → AreUnrolled system numbers (low_nodes system numbers zero) nodes []
  unrolled-none nodes long none =
      record {
        long = long;
        nodes_are = λ fact. none fact ∙ sym (low-zero system numbers fact);
        gates = tt;
        ordered = tt;
        known = λ fact. subst (IsKnown (length system.events) []) (sym (none fact)) tt;
      }

  -- when all blocks are done
  pub unrolling-of : (count : ℕ) → All (λ fact. number_of numbers fact < 4294967295 → number_of numbers fact < count) facts → (nodes : List Node) (lines : List Line) → AreUnrolled system numbers (low_nodes system numbers count) nodes lines → IsUnrolling system facts numbers nodes lines
  unrolling-of count above nodes lines is =
      record {
        last = λ fact inside. is.nodes_are fact ∙ low-last fact count (below fact inside);
        gates = is.gates;
        ordered = is.ordered;
        known = is.known;
      } where
        below : (fact : ℕ) → Contains facts fact → number_of numbers fact < count
        below fact inside = subst (λ (n : ℕ). number_of numbers n < 4294967295 → number_of numbers n < count) inside.2 (above inside.0 fact inside.1) ((blocks.inside fact).0 inside)
