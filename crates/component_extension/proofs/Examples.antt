-- Small examples of the definitions, each proved by computing it.
use Rattle.std.proofs.Common.{ℕ, ◌≡◌, Bool, true, false, List, [], ◌∷◌, map, codes, Option, Some, None, Ok, Err, refl, option_map}
use Rattle.aadl_syntax.specs.declared.core_model.Connection.{Connection}
use Rattle.aadl_syntax.specs.declared.core_model.ConnectionKind.TheVariants.{Plain}
use Rattle.aadl_syntax.specs.declared.core_model.Decl.{Decl}
use Rattle.aadl_syntax.specs.declared.core_model.PackageUnit.{PackageUnit}
use Rattle.aadl_syntax.specs.declared.core_model.Subcomponent.{Subcomponent}
use Rattle.aadl_syntax.specs.declared.error_model.Condition.TheVariants.{Atom}
use Rattle.aadl_syntax.specs.declared.error_model.Emv2Clause.{Emv2Clause}
use Rattle.aadl_syntax.specs.declared.error_model.EventDecl.{EventDecl}
use Rattle.aadl_syntax.specs.declared.error_model.EventKind.TheVariants.{Error}
use Rattle.aadl_syntax.specs.declared.error_model.Transition.{Transition}
use Rattle.aadl_syntax.specs.declared.place.Ref.{Ref}
use Rattle.plain_values.specs.declared.spot.Spot.{Spot}
use Rattle.plain_values.specs.declared.refusal.Code.TheVariants.{CyclicExtends, DuplicateName, Prototype, UnknownClassifier, UnknownMember}
use Rattle.plain_values.specs.declared.refusal.Place.TheVariants.{At}
use Rattle.package_index.specs.declared.id.ClassifierId.{ClassifierId}
use Rattle.plain_values.specs.Refusal.{refusal}
use Rattle.component_extension.specs.Chain.{chain_from, chain_of}
use Rattle.component_extension.specs.Items.{classes_of, clauses_of, gathered, machine_of, perhaps_named}
use Rattle.component_extension.specs.Members.{Member, connections, member_refusals, members_along, subcomponents}
use Rattle.component_extension.specs.Rows.{named}

abbrev spot : ℕ → Spot
spot at = record { file = 0; at = at }

abbrev name_at : ℕ → List ℕ → Option (List ℕ) → Ref
name_at at name item = record { names = name ∷ []; item = item; spot = spot at }

abbrev decl_at : ℕ → List ℕ → Option (List ℕ) → Option Ref → Decl
decl_at at name item extends = record {
  category = record { word = codes "device"; second = None };
  name = name;
  item = item;
  spot = spot at;
  extends = extends;
  binds = None;
  prototypes = None;
  features = [];
  subcomponents = [];
  connections = [];
  clauses = [];
  properties = [];
}

abbrev package_of : List Decl → List PackageUnit
package_of decls = record { name = codes "q" ∷ []; spot = spot 0; aliases = []; decls = decls; library = record { blocks = []; machines = [] } } ∷ []

abbrev id : ℕ → ClassifierId
id decl = record { «package» = 0; decl = decl }

abbrev subcomponent_at : ℕ → List ℕ → Bool → Option Ref → Subcomponent
subcomponent_at at name refined classifier = record { name = name; spot = spot at; refined = refined; classifier = classifier; array = None; binds = None; tail = [] }

abbrev connection_at : ℕ → List ℕ → Connection
connection_at at name = record { name = name; spot = spot at; refined = false; kind = Plain; ends = None; tail = [] }

abbrev event_at : ℕ → List ℕ → EventDecl
event_at at name = record { name = name; spot = spot at; kind = Error; set = None }

-- a transition of a name, on an event
abbrev transition_at : ℕ → List ℕ → List ℕ → Transition
transition_at at name event = record {
  name = Some name;
  spot = spot at;
  source = record { state = None; spot = spot at };
  condition = Atom (record { inward = false; names = event ∷ []; spot = spot at; set = None });
  targets = [];
}

abbrev clause_of : Option Ref → List EventDecl → List Transition → Emv2Clause
clause_of machine events transitions = record {
  spot = spot 0;
  uses = [];
  machine = machine;
  mappings = [];
  points = [];
  flows = [];
  events = events;
  transitions = transitions;
  outgoing = [];
  composites = [];
  connection_errors = [];
  user_points = [];
  user_paths = [];
  associations = [];
}

-- device u, with a machine and a transition k on its event e
abbrev device_u : Decl
device_u = record (decl_at 1 (codes "u") None None) { clauses = clause_of (Some (name_at 2 (codes "m") None)) [] (transition_at 3 (codes "k") (codes "e") ∷ []) ∷ [] }

abbrev system_s : Decl
system_s = decl_at 10 (codes "s") None None

-- system implementation s.i, with a and b of device u and two connections
abbrev system_s_i : Decl
system_s_i = record (decl_at 20 (codes "s") (Some (codes "i")) None) {
  subcomponents = subcomponent_at 21 (codes "a") false (Some (name_at 22 (codes "u") None)) ∷ subcomponent_at 23 (codes "b") false (Some (name_at 24 (codes "u") None)) ∷ [];
  connections = connection_at 25 (codes "c1") ∷ connection_at 26 (codes "c2") ∷ [];
}

-- device v extends u, with an event x and the transition k on it
abbrev device_v : Decl
device_v = record (decl_at 30 (codes "v") None (Some (name_at 31 (codes "u") None))) { clauses = clause_of None (event_at 32 (codes "x") ∷ []) (transition_at 33 (codes "k") (codes "x") ∷ []) ∷ [] }

-- system implementation s.j extends s.i, with b of device v
abbrev system_s_j : List Subcomponent → Decl
system_s_j more = record (decl_at 40 (codes "s") (Some (codes "j")) (Some (name_at 41 (codes "s") (Some (codes "i"))))) { subcomponents = subcomponent_at 42 (codes "b") true (Some (name_at 43 (codes "v") None)) ∷ more }

abbrev packages_with : List Subcomponent → List PackageUnit
packages_with more = package_of (device_u ∷ system_s ∷ system_s_i ∷ device_v ∷ system_s_j more ∷ [])

-- ---- chains

-- s.j, s.i and then the type s
chain_of_implementation : chain_of (packages_with []) (id 4) ≡ Ok (id 4 ∷ id 2 ∷ id 1 ∷ [])
unfolding chain_from
chain_of_implementation = refl

chain_of_type : chain_of (packages_with []) (id 3) ≡ Ok (id 3 ∷ id 0 ∷ [])
unfolding chain_from
chain_of_type = refl

-- device a extends b and device b extends a: N4 where b names a
cyclic : chain_of (package_of (decl_at 1 (codes "a") None (Some (name_at 33 (codes "b") None)) ∷ decl_at 2 (codes "b") None (Some (name_at 60 (codes "a") None)) ∷ [])) (id 0) ≡ Err (refusal CyclicExtends (At 0 60))
unfolding chain_from
cyclic = refl

-- a type that extends an implementation
other_sort : chain_of (package_of (decl_at 1 (codes "a") None (Some (name_at 33 (codes "b") (Some (codes "i")))) ∷ decl_at 2 (codes "b") (Some (codes "i")) None ∷ [])) (id 0) ≡ Err (refusal UnknownClassifier (At 0 33))
unfolding chain_from
other_sort = refl

-- an implementation without a type is refused at its own name, after its prototypes
no_type : chain_of (package_of (decl_at 7 (codes "a") (Some (codes "i")) None ∷ [])) (id 0) ≡ Err (refusal UnknownClassifier (At 0 7))
unfolding chain_from
no_type = refl

prototypes_first : chain_of (package_of (record (decl_at 7 (codes "a") (Some (codes "i")) None) { prototypes = Some (spot 9) } ∷ [])) (id 0) ≡ Err (refusal Prototype (At 0 9))
unfolding chain_from
prototypes_first = refl

-- ---- members

-- the name of each member, and the names of the classifier that it has
abbrev told : Member Subcomponent → List ℕ × Option (Option (List (List ℕ)))
told member = (member.nearest.item.name, option_map (λ stated. option_map (λ name. name.names) stated.item.classifier) member.stated)

-- a keeps device u, and b has device v at its old place
members_of_s_j : map told (members_along subcomponents (classes_of (packages_with []) (id 4 ∷ id 2 ∷ id 1 ∷ []))) ≡ (codes "a", Some (Some (codes "u" ∷ []))) ∷ (codes "b", Some (Some (codes "v" ∷ []))) ∷ []
members_of_s_j = refl

connections_of_s_j : map (λ member. member.nearest.item.name) (members_along connections (classes_of (packages_with []) (id 4 ∷ id 2 ∷ id 1 ∷ []))) ≡ codes "c1" ∷ codes "c2" ∷ []
connections_of_s_j = refl

accepted : member_refusals (classes_of (packages_with []) (id 4 ∷ id 2 ∷ id 1 ∷ [])) ≡ []
accepted = refl

-- z: refined to device v
unknown_member : member_refusals (classes_of (packages_with (subcomponent_at 50 (codes "z") true None ∷ [])) (id 4 ∷ id 2 ∷ id 1 ∷ [])) ≡ refusal UnknownMember (At 0 50) ∷ []
unknown_member = refl

-- a second declaration of a name, of another kind: c1 is a connection
duplicate_name : member_refusals (classes_of (packages_with (subcomponent_at 50 (codes "c1") false None ∷ [])) (id 4 ∷ id 2 ∷ id 1 ∷ [])) ≡ refusal DuplicateName (At 0 50) ∷ []
duplicate_name = refl

-- a member of the same classifier is not inherited
refined_in_place : member_refusals (classes_of (packages_with (subcomponent_at 50 (codes "z") false None ∷ subcomponent_at 60 (codes "z") true None ∷ [])) (id 4 ∷ id 2 ∷ id 1 ∷ [])) ≡ refusal UnknownMember (At 0 60) ∷ []
refined_in_place = refl

-- ---- error model items

-- device v has its own event, one transition k on it, and the machine of device u
events_of_v : map (λ scoped. scoped.item.name) (gathered (λ clause. clause.events) (λ event. Some (named event.name)) (clauses_of (classes_of (packages_with []) (id 3 ∷ id 0 ∷ [])))) ≡ codes "x" ∷ []
events_of_v = refl

transitions_of_v : map (λ scoped. scoped.item) (gathered (λ clause. clause.transitions) (λ transition. perhaps_named transition.name) (clauses_of (classes_of (packages_with []) (id 3 ∷ id 0 ∷ [])))) ≡ transition_at 33 (codes "k") (codes "x") ∷ []
transitions_of_v = refl

machine_of_v : machine_of (clauses_of (classes_of (packages_with []) (id 3 ∷ id 0 ∷ []))) ≡ Some (record { scope = 0; item = name_at 2 (codes "m") None })
machine_of_v = refl
