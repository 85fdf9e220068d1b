-- What is tested of a merged tree before it is handed out.
use Rattle.std.specs.Prelude.{ℕ, ◌+◌, ◌≡◌, ◌≢◌, ◌<◌, ◌≤◌, ◌^◌, ◌&&◌, Bool, true, false, List, [], ◌∷◌, ◌++◌, length, map, slice_get, slice_index_or, Option, Some, None}
use Rattle.std.specs.List.{AllByRecursion, flat_map}
use Rattle.std.specs.declared.cmp.Ordering.TheVariants.{Less}
use Rattle.std.specs.Int.{to_be_bytes, w32}
use Rattle.fault_system.specs.Systems.{System, NamesDiffer}
use Rattle.fault_system.specs.Truth.{member}
use Rattle.round_gates.specs.declared.node.GateKind.{GateKind}
use Rattle.round_gates.specs.declared.node.GateKind.TheVariants.{And, Or, AtLeast}
use Rattle.round_gates.specs.declared.tree.Gate.{Gate}
use Rattle.round_gates.specs.declared.tree.Input.{Input}
use Rattle.round_gates.specs.declared.tree.Input.TheVariants as inputs
use Rattle.round_gates.specs.declared.tree.Tree.{Tree}
use Rattle.round_gates.specs.Trees.{events_in, key_cmp, key_of, LeadsTo}
use Rattle.round_gates.specs.inner.Targets.{IsWellMadeGate}
use Rattle.merged_gates.specs.Merged.{HasInput, HasKindOf, HasOtherParent, InputsRise, IsCountedTwice, IsReached, MayHaveOne, comes_before, has_input, joins}

-- the number at a place of a list, and 0 behind its end
abbrev pub number_at : List ℕ → ℕ → ℕ
number_at numbers n = slice_index_or numbers n 0

-- an input has a greater rank than its gate
abbrev pub IsLater : List ℕ → ℕ → Input → Type 0
IsLater ranks own (inputs.Event n) = Unit {0}
IsLater ranks own (inputs.Gate n) = (own < number_at ranks n) × (number_at ranks n < 2 ^ 32)

-- The inputs of each gate have greater ranks, and are gates that are there.
pub record AllLater (gates : List Gate) (ranks : List ℕ) : Type 0 where
  pub short : length ranks ≤ length gates
  pub later : (n : ℕ) (gate : Gate) → slice_get gates n ≡ Some gate → AllByRecursion (IsLater ranks (number_at ranks n)) gate.inputs

-- an input under the number that its gate had before
abbrev pub moved : List ℕ → Input → Input
moved from (inputs.Event n) = inputs.Event n
moved from (inputs.Gate n) = inputs.Gate (number_at from n)

-- A gate is one of some gates, with other numbers.
pub record IsCopy (gates : List Gate) (from : List ℕ) (n : ℕ) (gate : Gate) : Type 0 where
  pub old : Gate
  pub at : slice_get gates (number_at from n) ≡ Some old
  pub kind : gate.kind ≡ old.kind
  pub inputs : map (moved from) gate.inputs ≡ old.inputs

-- A gate has the name of a written gate, and its kind.
pub record HasSource (written : List Gate) (from : List ℕ) (n : ℕ) (gate : Gate) : Type 0 where
  pub source : Gate
  pub at : slice_get written (number_at from n) ≡ Some source
  pub key : key_of gate ≡ key_of source
  pub kind : HasKindOf gate source

-- whether the last input, if there is one, comes before all inputs of a list, and each of these before the next
abbrev pub rises_from : Option Input → List Input → Bool
rises_from last [] = true
rises_from None (input ∷ inputs) = rises_from (Some input) inputs
rises_from (Some last) (input ∷ inputs) = comes_before last input && rises_from (Some input) inputs

-- an input that is a gate of a kind that may be joined has another parent
abbrev pub StaysApart : List Gate → ℕ → GateKind → Input → Type 0
StaysApart gates n kind (inputs.Event m) = Unit {0}
StaysApart gates n kind (inputs.Gate m) = (inner : Gate) → slice_get gates m ≡ Some inner → joins kind inner.kind ≡ true → HasOtherParent gates n m

-- parents of gates, by the position of the gate
abbrev pub AreParents : List Gate → List (Option ℕ) → Type 0
AreParents gates parents = (m p : ℕ) → slice_get parents m ≡ Some (Some p) → HasInput gates p m

-- gates with one input that are counted beside it
abbrev pub AreCounted : List Gate → List Bool → Type 0
AreCounted gates marks =
    (n : ℕ) → member marks n ≡ true → (gate : Gate) (input : Input) → slice_get gates n ≡ Some gate → gate.inputs ≡ input ∷ [] → IsCountedTwice gates n input

-- gates that are reached from one
abbrev pub AreReachedFrom : List Gate → ℕ → List Bool → Type 0
AreReachedFrom gates top marks = (n : ℕ) → member marks n ≡ true → LeadsTo gates top n

-- the name of a gate comes before that of the next
abbrev pub names_rise_from : Option Gate → List Gate → Type 0
names_rise_from last [] = Unit {0}
names_rise_from None (gate ∷ gates) = names_rise_from (Some gate) gates
names_rise_from (Some last) (gate ∷ gates) = (key_cmp (key_of last) (key_of gate) ≡ Less) × names_rise_from (Some gate) gates

-- another gate than one of a number is noted as a parent
abbrev pub IsParent : List (Option ℕ) → ℕ → ℕ → Type 0
IsParent parents n m = (p : ℕ) × (slice_get parents m ≡ Some (Some p)) × (p ≢ n)

-- A gate is among some inputs, and where it has one input, that is one of them too.
pub record CountsBoth (gates : List Gate) (list : List Input) (n : ℕ) (among : Bool) : Type 0 where
  pub has : among ≡ true
  pub beside : (gate : Gate) (input : Input) → slice_get gates n ≡ Some gate → gate.inputs ≡ input ∷ [] → has_input list input ≡ true

-- an input as bytes
abbrev pub input_text : Input → List ℕ
input_text (inputs.Event n) = 0 ∷ to_be_bytes w32 n
input_text (inputs.Gate n) = 1 ∷ to_be_bytes w32 n

-- a kind as bytes
abbrev pub kind_text : GateKind → List ℕ
kind_text And = 0 ∷ []
kind_text Or = 1 ∷ []
kind_text (AtLeast k) = 2 ∷ to_be_bytes w32 k

-- the kind and the inputs of a gate as bytes
abbrev pub shape_text : Gate → List ℕ
shape_text gate = kind_text gate.kind ++ flat_map input_text gate.inputs

-- gates rise by their names from one position to the next
abbrev pub RisesAt : List Gate → ℕ → Type 0
RisesAt gates n = (a b : Gate) → slice_get gates n ≡ Some a → slice_get gates (n + 1) ≡ Some b → key_cmp (key_of a) (key_of b) ≡ Less

-- What is right about a gate of a merged tree.
pub record IsRight (system : System) (written gates : List Gate) (from : List ℕ) (tree : Tree) (n : ℕ) (gate : Gate) : Type 0 where
  pub made : IsWellMadeGate system (length tree.gates) gate
  pub rise : InputsRise gate.inputs
  pub copy : IsCopy gates from n gate
  pub source : HasSource written from n gate
  pub apart : AllByRecursion (StaysApart tree.gates n gate.kind) gate.inputs
  pub one : (input : Input) → gate.inputs ≡ input ∷ [] → MayHaveOne tree n input

-- What is right about the gates of a merged tree.
pub record AreRight (system : System) (written gates : List Gate) (from : List ℕ) (tree : Tree) (ranks : List ℕ) : Type 0 where
  pub right : (n : ℕ) (gate : Gate) → slice_get tree.gates n ≡ Some gate → IsRight system written gates from tree n gate
  pub rise : (n : ℕ) → n < length tree.gates → RisesAt tree.gates n
  pub later : AllLater tree.gates ranks

-- What is right about a merged tree.
pub record IsTested (system : System) (written gates : List Gate) (top : ℕ) (from : List ℕ) (tree : Tree) : Type 0 where
  pub right : (n : ℕ) (gate : Gate) → slice_get tree.gates n ≡ Some gate → IsRight system written gates from tree n gate
  pub rise : (n : ℕ) → n < length tree.gates → RisesAt tree.gates n
  pub differ : NamesDiffer (map shape_text tree.gates)
  pub reached : IsReached tree
  pub ranks : List ℕ
  pub later : AllLater tree.gates ranks
  pub top_in : tree.top < length tree.gates
  pub top_is : number_at from tree.top ≡ top

-- A tree that was tested, with its events.
pub record IsMerging (system : System) (written gates : List Gate) (top : ℕ) (tree : Tree) : Type 0 where
  pub from : List ℕ
  pub tested : IsTested system written gates top from tree
  pub events : tree.events ≡ events_in (length system.events) tree.gates

-- The top of a tree is a gate, and there are ranks by which the inputs of each gate have greater ones.
pub record IsRanked (tree : Tree) : Type 0 where
  pub top_in : tree.top < length tree.gates
  pub ranks : List ℕ
  pub later : AllLater tree.gates ranks

-- whether an input is an event
abbrev pub is_an_event : Input → Bool
is_an_event (inputs.Event n) = true
is_an_event (inputs.Gate n) = false

-- For each gate its first and its last parent, and the gates that are counted beside their input.
pub record AreParentsOf (gates : List Gate) (first last : List (Option ℕ)) (twice : List Bool) : Type 0 where
  pub firsts : AreParents gates first
  pub lasts : AreParents gates last
  pub counted : AreCounted gates twice
