-- Worked rows: an association that applies to `^lane1@fault`, and one that applies to a state, by both profiles.
use Rattle.std.proofs.Common.{ℕ, ◌≡◌, false, List, [], ◌∷◌, codes, Some, None, refl}
use Rattle.plain_values.specs.declared.spot.Spot.{Spot}
use Rattle.profiles.specs.declared.profile.Profile.TheVariants.{First, Second}
use Rattle.aadl_syntax.specs.declared.core_model.Decl.{Decl}
use Rattle.aadl_syntax.specs.declared.core_model.PackageUnit.{PackageUnit}
use Rattle.aadl_syntax.specs.declared.error_model.Association.{Association}
use Rattle.aadl_syntax.specs.declared.error_model.Condition.TheVariants.{Atom}
use Rattle.aadl_syntax.specs.declared.error_model.Emv2Clause.{Emv2Clause}
use Rattle.aadl_syntax.specs.declared.error_model.EventKind.TheVariants.{Error}
use Rattle.aadl_syntax.specs.declared.error_model.MachineDecl.{MachineDecl}
use Rattle.aadl_syntax.specs.declared.error_model.OtherTarget.{OtherTarget}
use Rattle.aadl_syntax.specs.declared.error_model.StateDecl.{StateDecl}
use Rattle.aadl_syntax.specs.declared.error_model.StateRef.{StateRef}
use Rattle.fault_system.specs.declared.formula.EventInfo.{EventInfo}
use Rattle.component_extension.specs.Chain.{chain_from}
use Rattle.instantiator.specs.Effectives.{effective_of}
use Rattle.instantiator.specs.Whole.{Instance}
use Rattle.event_rates.specs.Associations.{association_of, first_said, last_fitting}
use Rattle.event_rates.specs.Unused.{event_names, unused_targets}

abbrev spot : Spot
spot = record { file = 0; at = 5 }

-- the event `fault` of the part `lane1`
abbrev event : List (List ℕ)
event = codes "lane1" ∷ codes "fault" ∷ []

abbrev path : OtherTarget
path = record { text = codes "^lane1@fault"; names = Some event }

abbrev association : Association
association = record { name = codes "emv2" ∷ codes "occurrencedistribution" ∷ []; spot = spot; value = []; targets = []; others = path ∷ [] }

-- by the first profile it counts for no event, and its path is told
first-fits-none : last_fitting First event (association ∷ []) ≡ None
first-fits-none = refl

first-is-told : unused_targets First (event ∷ []) [] association ≡ (codes "^lane1@fault" ∷ []) ∷ []
first-is-told = refl

-- by the second it counts for the event, and its path is not told
second-fits : last_fitting Second event (association ∷ []) ≡ Some association
second-fits = refl

second-is-silent : unused_targets Second (event ∷ []) [] association ≡ []
second-is-silent = refl

-- a path whose names name no event is told by the second too
second-is-told : unused_targets Second [] [] association ≡ (codes "^lane1@fault" ∷ []) ∷ []
second-is-told = refl

-- ---- an association that applies to a state

abbrev applying_to : List ℕ → Association
applying_to name = record { name = codes "emv2" ∷ codes "occurrencedistribution" ∷ []; spot = spot; value = []; targets = (name ∷ []) ∷ []; others = [] }

abbrev state : List ℕ → StateDecl
state name = record { name = name; spot = spot; initial = false; set = None }

abbrev to_state : List ℕ → StateRef
to_state name = record { name = name; spot = spot; set = None }

-- a machine whose event `fail` alone leads to its state `failed`
abbrev machine : MachineDecl
machine = record {
  name = codes "m";
  spot = spot;
  extends = None;
  uses = [];
  transforms = None;
  events = record { name = codes "fail"; spot = spot; kind = Error; set = None } ∷ [];
  states = state (codes "working") ∷ state (codes "failed") ∷ [];
  transitions = record {
    name = None;
    spot = spot;
    source = record { state = Some (to_state (codes "working")); spot = spot };
    condition = Atom (record { inward = false; names = codes "fail" ∷ []; spot = spot; set = None });
    targets = to_state (codes "failed") ∷ [];
  } ∷ [];
  associations = [];
}

-- a device with this machine and these associations
abbrev clause : List Association → Emv2Clause
clause associations = record {
  spot = spot;
  uses = [];
  machine = Some (record { names = codes "p" ∷ codes "m" ∷ []; item = None; spot = spot });
  mappings = [];
  points = [];
  flows = [];
  events = [];
  transitions = [];
  outgoing = [];
  composites = [];
  connection_errors = [];
  user_points = [];
  user_paths = [];
  associations = associations;
}

abbrev device : List Association → Decl
device associations = record {
  category = record { word = codes "device"; second = None };
  name = codes "d";
  item = None;
  spot = spot;
  extends = None;
  binds = None;
  prototypes = None;
  features = [];
  subcomponents = [];
  connections = [];
  clauses = clause associations ∷ [];
  properties = [];
}

abbrev unit : List Association → PackageUnit
unit associations = record { name = codes "p" ∷ []; spot = spot; aliases = []; decls = device associations ∷ []; library = record { blocks = []; machines = machine ∷ [] } }

-- that device as the whole model
abbrev model : List Association → Instance
model associations = record {
  packages = unit associations ∷ [];
  components = record { path = []; classifier = Some (record { «package» = 0; decl = 0 }) } ∷ [];
  kinds = record { «package» = 0; decl = 0 } ∷ [];
}

abbrev fail : EventInfo
fail = record { name = codes "fail"; owner = 0; key = codes "fail" ∷ [] }

abbrev on_state : Association
on_state = applying_to (codes "failed")

abbrev on_event : Association
on_event = applying_to (codes "fail")

-- by the first profile an association that applies to the state does not count for the event
first-counts-none : association_of First (model (on_state ∷ [])) fail ≡ None
unfolding effective_of chain_from
first-counts-none = refl

-- one that applies to the event itself comes first, though the other stands behind it
own-comes-first : association_of Second (model (on_event ∷ on_state ∷ [])) fail ≡ Some on_event
unfolding effective_of chain_from
own-comes-first = refl

-- by the second profile an association that applies to the state of a further key counts; of two further keys the first by which something is said
-- counts, and the key of another event says nothing
abbrev two : Instance
two = model (on_state ∷ applying_to (codes "worse") ∷ [])

first-key-counts : first_said Second two 0 (codes "fail" ∷ []) (record { event = codes "other"; names = codes "worse" ∷ [] } ∷ record { event = codes "fail"; names = codes "failed" ∷ [] } ∷ record { event = codes "fail"; names = codes "worse" ∷ [] } ∷ [])
    ≡ Some on_state
unfolding effective_of chain_from
first-key-counts = refl

-- by the first profile the event has one whole name
first-names : event_names First (model []) fail ≡ (codes "fail" ∷ []) ∷ []
unfolding effective_of chain_from
first-names = refl
