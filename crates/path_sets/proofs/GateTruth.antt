-- The system of a tree's gates: what holds in it is what the tree says, no fact reaches itself, and its path sets are the target's.
use Rattle.std.proofs.Common.{ℕ, zero, suc, ◌≡◌, ◌↔◌, ◌<◌, Bool, true, List, [], ◌∷◌, map, length, All, slice_get, Some, ⊎_elim, ap, ◌∙◌, sym, subst, refl}
use Rattle.std.proofs.lemmas.Bool.{false≢true}
use Rattle.std.proofs.lemmas.List.Elements.{All-from_recursion}
use Rattle.std.proofs.lemmas.Option.{slice_get-map, slice_get_cases}
use Rattle.std.specs.List.{AllByRecursion}
use Rattle.std.specs.Option.{option_map}
use lib.ListN.{length-map}
use Rattle.fault_system.specs.Truth.{NumberSet, in_range, occurs, truth}
use Rattle.fault_system.specs.Systems.{System, IsSystem, IsFact, NamesDiffer, IsClosed, Holds}
use Rattle.fault_system.specs.CutSets.{IsCutSet}
use Rattle.fault_system.specs.declared.formula.FactInfo.{FactInfo}
use Rattle.fault_system.proofs.NumberSets.{member-map, member-past}
use Rattle.backward_slice.specs.Slices.{DependsOn}
use Rattle.round_gates.specs.declared.tree.Gate.{Gate}
use Rattle.round_gates.specs.declared.tree.Tree.{Tree}
use Rattle.round_gates.specs.inner.Targets.{IsWellMade, IsWellMadeGate}
use Rattle.round_gates.specs.Trees.{LeadsTo, has_gate}
use Rattle.round_gates.specs.inner.Trees.{IsClosedTree, TreeHolds}
use Rattle.round_gates.proofs.GateFormulas.{kind-occurs, kind-range, kind-truth}
use Rattle.galileo_writer.specs.TreeText.{gate_name}
use Rattle.path_sets.specs.inner.Duals.{IsWithoutFeedback}
use Rattle.path_sets.specs.PathSets.{IsPathSet, IsMinimalPathSet}
use Rattle.path_sets.specs.GateSystems.{gate_fact, gate_system_of}
use Rattle.path_sets.specs.inner.GateSystems.{GateHolds}
use Rattle.path_sets.proofs.PathLaws.{paths-carry}

-- the gate of which the fact of a number was made
gate-from : (system : System) (gates : List Gate) (n : ℕ) (fact : FactInfo) → slice_get (map (gate_fact system) gates) n ≡ Some fact → (gate : Gate) × (slice_get gates n ≡ Some gate) × (gate_fact system gate ≡ fact)
gate-from system [] n fact at = cc
gate-from system (gate ∷ gates) zero fact at = (gate, refl, cc)
gate-from system (gate ∷ gates) (suc n) fact at = gate-from system gates n fact at

-- ---- it is a system

ranged : (system : System) (count : ℕ) (gates : List Gate) → AllByRecursion (IsWellMadeGate system count) gates → AllByRecursion (λ (fact : FactInfo). in_range count (length system.events) fact.formula ≡ true) (map (gate_fact system) gates)
ranged system count [] all = tt
ranged system count (gate ∷ gates) all = (kind-range count (length system.events) gate.kind gate.inputs all.0.inputs_in, ranged system count gates all.1)

names-of : (system : System) (gates : List Gate) → map (gate_name system) gates ≡ map (λ fact. fact.name) (map (gate_fact system) gates)
names-of system [] = refl
names-of system (gate ∷ gates) = ap (λ names. gate_name system gate ∷ names) (names-of system gates)

pub gates-system : (system : System) (tree : Tree) → IsSystem system → IsWellMade system tree → NamesDiffer (map (gate_name system) tree.gates) → IsSystem (gate_system_of system tree)
gates-system system tree is made named =
    record {
      ranged = subst (λ count. All (λ (fact : FactInfo). in_range count (length system.events) fact.formula ≡ true) (map (gate_fact system) tree.gates)) (sym (length-map tree.gates (gate_fact system)))
          (All-from_recursion (λ (fact : FactInfo). in_range (length tree.gates) (length system.events) fact.formula ≡ true) (map (gate_fact system) tree.gates)
          (ranged system (length tree.gates) tree.gates made.gates));
      facts_named = subst NamesDiffer (names-of system tree.gates) named;
      events_named = is.events_named;
    }

pub top-inside : (system : System) (tree : Tree) → IsWellMade system tree → tree.top < length (gate_system_of system tree).facts
top-inside system tree made = subst (λ count. tree.top < count) (sym (length-map tree.gates (gate_fact system))) made.top_in

-- ---- closed sets are closed sets

module _ (system : System) (tree : Tree) (es set : NumberSet) where
  abbrev says : FactInfo → Bool
  says fact = truth es set fact.formula

  gate-at : (n : ℕ) (gate : Gate) → slice_get tree.gates n ≡ Some gate → IsFact (gate_system_of system tree) n (gate_fact system gate)
  gate-at n gate at = slice_get-map (gate_fact system) tree.gates n ∙ ap (option_map (gate_fact system)) at

  to-tree : IsClosed (gate_system_of system tree) es set → IsClosedTree tree.gates es set
  to-tree closed n gate at e =
      closed n (member-map says (gate_system_of system tree).facts n (gate_fact system gate) (gate-at n gate at) ∙ kind-truth es set gate.kind gate.inputs ∙ e)

  to-system : IsClosedTree tree.gates es set → IsClosed (gate_system_of system tree) es set
  to-system closed n e = ⊎_elim
      (λ (gate, fits, at, same).
      closed n gate at (sym (kind-truth es set gate.kind gate.inputs) ∙ sym (member-map says (gate_system_of system tree).facts n (gate_fact system gate) (gate-at n gate at)) ∙ e))
      (λ past. absurd (false≢true (sym (member-past says (gate_system_of system tree).facts n (slice_get-map (gate_fact system) tree.gates n ∙ ap (option_map (gate_fact system)) past.1)) ∙ e)))
      (slice_get_cases tree.gates n).1

pub gates-hold : (system : System) (tree : Tree) (es : NumberSet) (n : ℕ) → Holds (gate_system_of system tree) es n ↔ GateHolds tree es n
gates-hold system tree es n = (
  (λ holds set closed. holds set (to-system system tree es set closed)),
  (λ holds set closed. holds set (to-tree system tree es set closed)),
)

-- ---- no fact reaches itself

module _ (system : System) (tree : Tree) where
  -- a fact that occurs in the formula of another is an input of that one's gate
  input-gate : (n m : ℕ) (fact : FactInfo) → IsFact (gate_system_of system tree) n fact → occurs m fact.formula ≡ true → (gate : Gate) × (slice_get tree.gates n ≡ Some gate) × (has_gate gate.inputs m ≡ true)
  input-gate n m fact at o =
      let (gate, here, same) = gate-from system tree.gates n fact at in
      (gate, here, sym (kind-occurs m gate.kind gate.inputs) ∙ ap (λ (f : FactInfo). occurs m f.formula) same ∙ o)

  leads : (m n : ℕ) → DependsOn (gate_system_of system tree) m n → LeadsTo tree.gates m n
  leads m n depends set has own = depends set (λ a b fact in_set at o.
      let (gate, here, input) = input-gate a b fact at o in has a b gate in_set here input) own

  pub gates-free : IsWellMade system tree → IsWithoutFeedback (gate_system_of system tree)
  gates-free made n m fact at o depends =
      let (gate, here, input) = input-gate n m fact at o in made.acyclic n m gate here input (leads m n depends)

-- ---- its path sets are those of the target

module _ (system : System) (tree : Tree) (target : ℕ) (tells : (es : NumberSet) → TreeHolds tree es ↔ Holds system es target) where
  cut-to : (cut : List ℕ) → IsCutSet system target cut → IsCutSet (gate_system_of system tree) tree.top cut
  cut-to cut (rises, holds) = (rises, (gates-hold system tree _ tree.top).1 ((tells _).1 holds))

  cut-from : (cut : List ℕ) → IsCutSet (gate_system_of system tree) tree.top cut → IsCutSet system target cut
  cut-from cut (rises, holds) = (rises, (tells _).0 ((gates-hold system tree _ tree.top).0 holds))

  path-to : (set : List ℕ) → IsPathSet (gate_system_of system tree) tree.top set → IsPathSet system target set
  path-to = paths-carry (gate_system_of system tree) system tree.top target (λ set e. e) cut-to

  path-from : (set : List ℕ) → IsPathSet system target set → IsPathSet (gate_system_of system tree) tree.top set
  path-from = paths-carry system (gate_system_of system tree) target tree.top (λ set e. e) cut-from

  pub gates-paths : (set : List ℕ) → IsMinimalPathSet (gate_system_of system tree) tree.top set ↔ IsMinimalPathSet system target set
  gates-paths set = (
    (λ (path, least). (path-to set path, λ other is part. least other (path-from other is) part)),
    (λ (path, least). (path-from set path, λ other is part. least other (path-to other is) part)),
  )
