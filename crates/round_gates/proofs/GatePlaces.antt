-- What each gate of a stage is like: its place, its inputs and their number; and no two gates of all stages have one name.
use Rattle.std.proofs.Common.{ℕ, zero, suc, ◌+◌, ◌-◌, ◌≡◌, ◌≢◌, ◌<◌, ◌≤◌, ◌⊎◌, Bool, true, false, List, [], ◌∷◌, length, slice_get, Option, Some, None, inl, inr, ⊎_elim, ap, ◌∙◌, sym, subst, refl, arith}
use Rattle.std.proofs.lemmas.Bool.{eqb-true}
use Rattle.std.specs.List.{AllByRecursion}
use Rattle.fault_system.specs.Systems.{System, IsSystem, IsFact}
use Rattle.fault_system.specs.declared.formula.FactInfo.{FactInfo}
use Rattle.fault_system.proofs.Occurrences.{fact-in_range}
use Rattle.dependency_blocks.specs.Blocks.{BlockNumbers, number_of, size_of}
use Rattle.round_gates.specs.declared.node.GateKey.{GateKey}
use Rattle.round_gates.specs.declared.node.Line.{Line}
use Rattle.round_gates.specs.declared.node.Node.{Node}
use Rattle.round_gates.specs.declared.node.Node.TheVariants.{Basic, Gate}
use Rattle.round_gates.specs.declared.node.Stage.{Stage}
use Rattle.round_gates.specs.Stages.{in_block, formula_walk, stage_nodes, low_nodes, looks_of, IsStage, IsAmong, gates_of, IsGateOf}
use Rattle.round_gates.specs.inner.Targets.{MayHave}
use Rattle.round_gates.specs.Walks.{key_at, walk, places}
use Rattle.round_gates.proofs.Basics.{all-map}
use Rattle.round_gates.proofs.Once.{From}
use Rattle.round_gates.proofs.OnceStages.{stage-keys, low-keys}
use Rattle.round_gates.proofs.Placed.{IsPlaced, Placed, PlacesOnce, walk-placed}
use Rattle.round_gates.proofs.StageTruth.{stage-out, stage-first, stage-in, low-zero, low-suc, among-all}

pub key-inner : (a b : GateKey) → Gate a ≡ Gate b → a ≡ b
key-inner a b h = cc

-- two gates of a list at one place are one
once-among : (lines : List Line) → PlacesOnce lines → (a b : Line) → IsAmong a lines → IsAmong b lines → a.key.place ≡ b.key.place → a ≡ b
once-among [] once a b x y e = absurd x
once-among (l ∷ lines) once a b x y e =
    ⊎_elim
    (λ here. ⊎_elim (λ there. here ∙ sym there) (λ later. absurd (among-all (λ other. l.key.place ≢ other.key.place) lines b once.0 later (ap (λ (z : Line). z.key.place) (sym here) ∙ e))) y)
    (λ later. ⊎_elim
    (λ there. absurd (among-all (λ other. l.key.place ≢ other.key.place) lines a once.0 later (ap (λ (z : Line). z.key.place) (sym there) ∙ sym e)))
    (λ also. once-among lines once.1 a b later also e) y)
    x

-- a gate comes later than another: its fact is in a higher block, or it is of a later stage of the block, or it stands before it in a stage
abbrev pub ComesLater : BlockNumbers → GateKey → GateKey → Type 0
ComesLater numbers later key =
    (number_of numbers key.fact < number_of numbers later.fact)
    ⊎ ((number_of numbers key.fact ≡ number_of numbers later.fact)
    × ((key.stage < later.stage) ⊎ ((key.fact ≡ later.fact) × (key.stage ≡ later.stage) × (later.place < key.place))))

module _ (system : System) (is_system : IsSystem system) (numbers : BlockNumbers) where
  -- an event is one of the system
  abbrev pub Ranged : Node → Type 0
  Ranged node = (n : ℕ) → node ≡ Basic n → n < length system.events

  foreign : (block stage fact : ℕ) → number_of numbers fact ≡ block → (n p : ℕ) → stage_nodes system numbers (low_nodes system numbers block) block stage n ≡ Gate (key_at (record { fact = fact; stage = suc stage }) p) → ⊥
  foreign block stage fact same n p e = ⊎_elim (λ less. omega arith) (λ later. omega (arith, later.1)) (stage-keys system numbers block (low-keys system numbers block) stage n _ e)

  stage-ranged : (block : ℕ) → ((n : ℕ) → Ranged (low_nodes system numbers block n)) → (stage n : ℕ) → Ranged (stage_nodes system numbers (low_nodes system numbers block) block stage n)
  stage-ranged block low zero n = by (in_block numbers block n) refl
    where
      by : (b : Bool) → in_block numbers block n ≡ b → Ranged (stage_nodes system numbers (low_nodes system numbers block) block zero n)
      by true is = subst Ranged (sym (stage-first system numbers (low_nodes system numbers block) block n is)) (λ m e. cc)
      by false is = subst Ranged (sym (stage-out system numbers (low_nodes system numbers block) block zero n is)) (low n)
  stage-ranged block low (suc stage) n = by (in_block numbers block n) refl (stage-ranged block low stage)
    where
      walked : number_of numbers n ≡ block → ((m : ℕ) → Ranged (stage_nodes system numbers (low_nodes system numbers block) block stage m)) → (found : Option FactInfo) → slice_get system.facts n ≡ found
          → Ranged (formula_walk (record { fact = n; stage = suc stage }) (stage_nodes system numbers (low_nodes system numbers block) block stage) found).node
      walked same before None at = λ m e. cc
      walked same before (Some info) at =
          (walk-placed (record { fact = n; stage = suc stage }) Ranged (λ p m e. cc) (λ m e. cc) (λ m e. cc) (stage_nodes system numbers (low_nodes system numbers block) block stage) (foreign block stage n same) before
          (length system.facts) (length system.events) (λ m fits k e. let is : m ≡ k = cc in omega arith) info.formula (fact-in_range system is_system n info at) 0).node.1

      by : (b : Bool) → in_block numbers block n ≡ b → ((m : ℕ) → Ranged (stage_nodes system numbers (low_nodes system numbers block) block stage m)) → Ranged (stage_nodes system numbers (low_nodes system numbers block) block (suc stage) n)
      by true is before = subst Ranged (sym (stage-in system numbers (low_nodes system numbers block) block stage n is)) (walked (eqb-true _ _ is) before (slice_get system.facts n) refl)
      by false is before = subst Ranged (sym (stage-out system numbers (low_nodes system numbers block) block (suc stage) n is)) (low n)

  pub low-ranged : (block n : ℕ) → Ranged (low_nodes system numbers block n)
  low-ranged zero n = subst Ranged (sym (low-zero system numbers n)) (λ m e. cc)
  low-ranged (suc block) n = subst Ranged (sym (low-suc system numbers block n)) (stage-ranged block (low-ranged block) (size_of numbers block) n)

  -- what may be an input in a stage: a gate of the stage, or one of an earlier stage or of a lower block; an event of the system
  abbrev Mixed : Stage → Node → Type 0
  Mixed stage node =
      ((key : GateKey) → node ≡ Gate key → (key ≡ key_at stage key.place) ⊎ ((number_of numbers key.fact < number_of numbers stage.fact) ⊎ ((number_of numbers key.fact ≡ number_of numbers stage.fact) × (key.stage ≤ stage.stage - 1))))
      × Ranged node

  own-mixed : (stage : Stage) (p : ℕ) → Mixed stage (Gate (key_at stage p))
  own-mixed stage p = ((λ key e. inl (own key (key-inner (key_at stage p) key e))), (λ m e. cc))
    where
      own : (key : GateKey) → key_at stage p ≡ key → key ≡ key_at stage key.place
      own key e = sym e ∙ ap (λ (k : GateKey). key_at stage k.place) e

  looks-foreign : (stage : Stage) → IsStage numbers stage → (n p : ℕ) → looks_of system numbers stage n ≡ Gate (key_at stage p) → ⊥
  looks-foreign stage is n p e = ⊎_elim (λ less. omega arith) (λ same. omega (arith, same.1, is.from_one))
      (stage-keys system numbers (number_of numbers stage.fact) (low-keys system numbers (number_of numbers stage.fact)) (stage.stage - 1) n (key_at stage p) e)

  stage-placed : (stage : Stage) → IsStage numbers stage → (info : FactInfo) → IsFact system stage.fact info → Placed stage (Mixed stage) (own-mixed stage) (walk stage (looks_of system numbers stage) info.formula 0) 0 (places info.formula)
  stage-placed stage is info at =
      walk-placed stage (Mixed stage) (own-mixed stage) ((λ k e. cc), (λ m e. cc)) ((λ k e. cc), (λ m e. cc)) (looks_of system numbers stage) (looks-foreign stage is)
      (λ n. (
        (λ key e. inr (stage-keys system numbers (number_of numbers stage.fact) (low-keys system numbers (number_of numbers stage.fact)) (stage.stage - 1) n key e)),
        stage-ranged (number_of numbers stage.fact) (low-ranged (number_of numbers stage.fact)) (stage.stage - 1) n,
      ))
      (length system.facts) (length system.events) (λ m fits. ((λ k e. cc), (λ k e. let is_m : m ≡ k = cc in omega arith))) info.formula (fact-in_range system is_system stage.fact info at) 0

  -- the name of a stage
  abbrev stage_of : GateKey → Stage
  stage_of key = record { fact = key.fact; stage = key.stage }

  -- what each gate of a stage is like
  pub record IsGateAt (line : Line) : Type 0 where
    pub info : FactInfo
    pub at : IsFact system line.key.fact info
    pub stage : IsStage numbers (record { fact = line.key.fact; stage = line.key.stage })
    pub place_in : line.key.place < places info.formula
    pub ranged : AllByRecursion (λ node. (n : ℕ) → node ≡ Basic n → n < length system.events) line.inputs
    pub falls : AllByRecursion (λ node. (key : GateKey) → node ≡ Gate key → ComesLater numbers line.key key) line.inputs
    pub few : length line.inputs ≤ places info.formula
    pub count : MayHave line.kind (length line.inputs)

  stage-is : (stage : Stage) (key : GateKey) → key ≡ key_at stage key.place → stage ≡ stage_of key
  stage-is stage key e = ap stage_of (sym e)

  pub gate-at : (line : Line) → IsGateOf system numbers line → IsGateAt line
  gate-at line (stage, is, among) = by (slice_get system.facts stage.fact) refl
    where
      -- an input that is a gate comes earlier
      falls : stage.fact ≡ line.key.fact → stage.stage ≡ line.key.stage → (high : ℕ) → (node : Node) → From stage (line.key.place + 1) high node × Mixed stage node → (key : GateKey) → node ≡ Gate key → ComesLater numbers line.key key
      falls same_fact same_stage high node h key e =
          let number : number_of numbers stage.fact ≡ number_of numbers line.key.fact = ap (number_of numbers) same_fact in
          ⊎_elim
          (λ (own : key ≡ key_at stage key.place).
          let fact : key.fact ≡ line.key.fact = ap (λ (k : GateKey). k.fact) own ∙ same_fact in
          let at_stage : key.stage ≡ line.key.stage = ap (λ (k : GateKey). k.stage) own ∙ same_stage in
          let range = h.0 key.place (e ∙ ap Gate own) in
          inr (ap (number_of numbers) fact, inr (fact, at_stage, omega (arith, range.0))))
          (λ earlier. ⊎_elim (λ less. inl (omega (arith, less))) (λ block. inr (block.0 ∙ number, inl (omega (arith, block.1, is.from_one)))) earlier)
          (h.1.0 key e)

      made : (info : FactInfo) → IsFact system stage.fact info → IsPlaced stage (Mixed stage) (own-mixed stage) 0 (0 + places info.formula) line → stage ≡ stage_of line.key → IsGateAt line
      made info at placed same =
          record {
            info = info;
            at = subst (λ (s : Stage). IsFact system s.fact info) same at;
            stage = subst (IsStage numbers) same is;
            place_in = omega (arith, placed.high_is);
            ranged = all-map (λ node. From stage (line.key.place + 1) (0 + places info.formula) node × Mixed stage node) (λ node. (n : ℕ) → node ≡ Basic n → n < length system.events) (λ node h. h.1.1) line.inputs placed.inputs;
            falls = all-map (λ node. From stage (line.key.place + 1) (0 + places info.formula) node × Mixed stage node) (λ node. (key : GateKey) → node ≡ Gate key → ComesLater numbers line.key key) (falls (ap (λ (s : Stage). s.fact) same) (ap (λ (s : Stage). s.stage) same) (0 + places info.formula)) line.inputs placed.inputs;
            few = omega (arith, placed.few);
            count = placed.count;
          }

      by : (found : Option FactInfo) → slice_get system.facts stage.fact ≡ found → IsGateAt line
      by None at = absurd (subst (λ found. IsAmong line (formula_walk stage (looks_of system numbers stage) found).lines) at among)
      by (Some info) at =
          let whole = stage-placed stage is info at in
          let there : IsAmong line (walk stage (looks_of system numbers stage) info.formula 0).lines = subst (λ found. IsAmong line (formula_walk stage (looks_of system numbers stage) found).lines) at among in
          let placed = among-all (IsPlaced stage (Mixed stage) (own-mixed stage) 0 (walk stage (looks_of system numbers stage) info.formula 0).next) _ line whole.lines there in
          made info at (subst (λ (n : ℕ). IsPlaced stage (Mixed stage) (own-mixed stage) 0 n line) whole.next placed) (stage-is stage line.key placed.key_is)

  -- two gates of stages that have one name are one
  pub one-gate : (a b : Line) → IsGateOf system numbers a → IsGateOf system numbers b → a.key ≡ b.key → a ≡ b
  one-gate a b (stage, is, among) (other, also, there) e =
      let same : stage ≡ other = stage-is stage a.key (key-is stage is a among) ∙ ap stage_of e ∙ sym (stage-is other b.key (key-is other also b there)) in
      once-among (gates_of system numbers stage) (gates-once stage is) a b among (subst (λ (s : Stage). IsAmong b (gates_of system numbers s)) (sym same) there) (ap (λ (k : GateKey). k.place) e)
    where
      gates-once : (s : Stage) → IsStage numbers s → PlacesOnce (gates_of system numbers s)
      gates-once s is_stage = by (slice_get system.facts s.fact) refl
        where
          by : (found : Option FactInfo) → slice_get system.facts s.fact ≡ found → PlacesOnce (gates_of system numbers s)
          by None at = subst (λ found. PlacesOnce (formula_walk s (looks_of system numbers s) found).lines) (sym at) tt
          by (Some info) at = subst (λ found. PlacesOnce (formula_walk s (looks_of system numbers s) found).lines) (sym at) (stage-placed s is_stage info at).once

      key-is : (s : Stage) → IsStage numbers s → (line : Line) → IsAmong line (gates_of system numbers s) → line.key ≡ key_at s line.key.place
      key-is s is_stage line among = by (slice_get system.facts s.fact) refl
        where
          by : (found : Option FactInfo) → slice_get system.facts s.fact ≡ found → line.key ≡ key_at s line.key.place
          by None at = absurd (subst (λ found. IsAmong line (formula_walk s (looks_of system numbers s) found).lines) at among)
          by (Some info) at =
              let whole = stage-placed s is_stage info at in
              let there : IsAmong line (walk s (looks_of system numbers s) info.formula 0).lines = subst (λ found. IsAmong line (formula_walk s (looks_of system numbers s) found).lines) at among in
              (among-all (IsPlaced s (Mixed s) (own-mixed s) 0 (walk s (looks_of system numbers s) info.formula 0).next) _ line whole.lines there).key_is
