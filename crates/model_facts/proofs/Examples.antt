-- A model of a root and two devices, where the first sends to the second; its facts, its events and their names.
use Rattle.std.proofs.Common.{ℕ, true, false, List, [], ◌∷◌, ◌≡◌, codes, Some, None, refl}
use Rattle.package_index.specs.declared.id.ClassifierId.{ClassifierId}
use Rattle.profiles.specs.declared.profile.Profile.TheVariants.{First}
use Rattle.error_libraries.specs.Libraries.{table_of}
use Rattle.error_libraries.proofs.Sample.{library_unit}
use Rattle.propagation_points.specs.declared.held.Held.TheVariants as held
use Rattle.propagation_points.specs.declared.side.Reach.TheVariants.{Whole}
use Rattle.propagation_points.specs.declared.side.Side.TheVariants as side
use Rattle.propagation_points.specs.States.{Sort}
use Rattle.error_flows.specs.declared.meaning.FlowMeaning.TheVariants as flow
use Rattle.instantiator.specs.declared.path.Component.{Component}
use Rattle.instantiator.proofs.Sample.{id}
use Rattle.error_models.specs.declared.model.ErrorModel.{ErrorModel}
use Rattle.propagation_links.proofs.Sample.{link, point_of}
use Rattle.model_facts.specs.Assembly.{Assembly, no_model, universe_of}
use Rattle.model_facts.specs.Facts.{event_in, event_number, events_of, fact_in, fact_number, facts_of}
use Rattle.model_facts.specs.Limits.{events_refusal, facts_refusal}
use Rattle.model_facts.specs.Names.{event_key, event_name, fact_name}
use Rattle.model_facts.specs.declared.keys.EventKind.TheVariants.{Arrival, Declared, Source}
use Rattle.model_facts.specs.declared.keys.FactKind.TheVariants.{Enters, Exits, State}

-- ---- the model

-- a state or an event without a set
abbrev plain : List ℕ → Sort
plain name = record { name = name; first = 0; types = None }

-- the root has two states, of which the second is declared with the types 1 and 2
abbrev root_model : ErrorModel
root_model = record no_model {
  states = record { sorts = plain (codes "up") ∷ record { name = codes "down"; first = 1; types = Some (1 ∷ 2 ∷ []) } ∷ []; initial = true ∷ false ∷ []; always = true ∷ false ∷ false ∷ [] };
}

-- A device has a point i, into which the types 0 and 2 go, and a point o, at whose outward side all types may be; an event e, a
-- source f at o, and a source g of a state.
abbrev device_model : ErrorModel
device_model = record no_model {
  points = point_of (codes "i") (side.Declared (0 ∷ 2 ∷ [])) side.Absent ∷ point_of (codes "o") side.Absent side.Free ∷ [];
  behavior = record { events = record { name = codes "e"; first = 0; types = Some (0 ∷ []) } ∷ []; steps = []; emissions = [] };
  flows = flow.State (held.One 0) (record { point = 1; types = Whole }) ∷ flow.Event (codes "f") (record { point = 1; types = Whole }) ∷ [];
}

abbrev at_path : List (List ℕ) → ClassifierId → Component
at_path path classifier = record { path = path; classifier = Some classifier }

-- the root, its devices a and b, and a part c without a classifier
abbrev model : Assembly
model = record {
  instance = record {
    packages = library_unit ∷ [];
    components = at_path [] (id 1) ∷ at_path (codes "a" ∷ []) (id 0) ∷ at_path (codes "b" ∷ []) (id 0) ∷ record { path = codes "c" ∷ []; classifier = None } ∷ [];
    kinds = id 1 ∷ id 0 ∷ [];
  };
  types = table_of First (library_unit ∷ []);
  models = root_model ∷ device_model ∷ [];
  links = link 1 1 true 2 0 false ∷ [];
}

-- ---- facts

declared : universe_of model ≡ 0 ∷ 2 ∷ []
declared = refl

facts : facts_of model (universe_of model)
    ≡ fact_in 0 (State 0) ∷ fact_in 0 (State 1) ∷ fact_in 0 (State 2) ∷ fact_in 1 (Enters 0 0) ∷ fact_in 1 (Enters 0 2) ∷ fact_in 1 (Exits 1 0) ∷ fact_in 1 (Exits 1 2)
    ∷ fact_in 2 (Enters 0 0) ∷ fact_in 2 (Enters 0 2) ∷ fact_in 2 (Exits 1 0) ∷ fact_in 2 (Exits 1 2) ∷ []
facts = refl

few_facts : facts_refusal model ≡ None
few_facts = refl

number : fact_number (facts_of model (universe_of model)) (fact_in 2 (Enters 0 2)) ≡ Some 8
number = refl

no_number : fact_number (facts_of model (universe_of model)) (fact_in 1 (Enters 0 1)) ≡ None
no_number = refl

-- ---- events

-- what arrives at b comes from a, and not from outside
events : events_of model
    ≡ event_in 1 (Declared 0) ∷ event_in 1 (Source 1) ∷ event_in 1 (Arrival 0 0) ∷ event_in 1 (Arrival 0 2) ∷ event_in 2 (Declared 0) ∷ event_in 2 (Source 1) ∷ []
events = refl

few_events : events_refusal model ≡ None
few_events = refl

event_place : event_number (events_of model) (event_in 2 (Source 1)) ≡ Some 5
event_place = refl

-- ---- names

state_name : fact_name model (fact_in 0 (State 0)) ≡ codes "root/state:up"
state_name = refl

typed_state : fact_name model (fact_in 0 (State 2)) ≡ codes "root/state:down{l::late}"
typed_state = refl

entering : fact_name model (fact_in 2 (Enters 0 2)) ≡ codes "root.b/in:i{l::late}"
entering = refl

exiting : fact_name model (fact_in 1 (Exits 1 0)) ≡ codes "root.a/out:o{l::serviceerror}"
exiting = refl

event : event_name model (event_in 1 (Declared 0)) ≡ codes "root.a/e{l::serviceerror}"
event = refl

source : event_name model (event_in 2 (Source 1)) ≡ codes "root.b/source:f"
source = refl

arriving : event_name model (event_in 1 (Arrival 0 2)) ≡ codes "root.a/in:i{l::late}"
arriving = refl

event_rate : event_key model (event_in 1 (Declared 0)) ≡ codes "e" ∷ []
event_rate = refl

source_rate : event_key model (event_in 2 (Source 1)) ≡ codes "f" ∷ []
source_rate = refl

arrival_rate : event_key model (event_in 1 (Arrival 0 2)) ≡ codes "i" ∷ codes "late" ∷ []
arrival_rate = refl
