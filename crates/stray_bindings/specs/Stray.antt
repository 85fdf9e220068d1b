-- Bindings that a profile reads, and that name what is not there (AADL: deployment properties).
use Rattle.std.specs.Prelude.{ℕ, Bool, true, false, cond, ◌&&◌, ◌||◌, is_some, not, nat_eq, List, [], ◌∷◌, ◌++◌, codes, filter, flat_map, map, Option, None, Some, option_and_then}
use Rattle.std.specs.List.{list_any}
use Rattle.std.specs.Option.{option_map_or}
use Rattle.aadl_syntax.specs.declared.core_model.Binding.{Binding}
use Rattle.aadl_syntax.specs.declared.core_model.BindingKind.{BindingKind}
use Rattle.aadl_syntax.specs.declared.core_model.BindingKind.TheVariants.{Connection as OfConnection, Function, Memory, Processor}
use Rattle.aadl_syntax.specs.declared.core_model.Category.{Category}
use Rattle.aadl_syntax.specs.declared.core_model.Connection.{Connection}
use Rattle.plain_values.specs.Name.{is_same_text}
use Rattle.plain_values.specs.Numbered.{numbered_from}
use Rattle.plain_values.specs.declared.spot.Spot.{Spot}
use Rattle.profiles.specs.declared.profile.Profile.{Profile}
use Rattle.profiles.specs.Profiles.{is_first}
use Rattle.package_index.specs.Lookup.{decl_of}
use Rattle.package_index.specs.Names.{front, last}
use Rattle.component_extension.specs.Members.{Member}
use Rattle.component_extension.specs.declared.effective.Effective.{Effective}
use Rattle.instantiator.specs.Components.{component_below}
use Rattle.instantiator.specs.Whole.{Instance, classifier_at, effective_in}
use Rattle.instantiator.specs.declared.path.Component.{Component}
use Rattle.stray_bindings.specs.declared.stray.StrayBinding.{StrayBinding}

-- ---- connections

-- A connection by the number of its component, and its name.
abbrev pub Wire : Type 0
Wire = ℕ × List ℕ

-- whether a member is the connection of a key, where it is one of the component of a number
abbrev pub is_wire : Wire → ℕ → Member Connection → Bool
is_wire key number member = nat_eq number key.0 && is_same_text member.nearest.item.name key.1

-- whether one of the connections of the component of a number is that of a key
abbrev pub is_wire_in : Wire → Instance → ℕ → Component → List Bool
is_wire_in key instance number component = list_any (is_wire key number) (effective_in instance number).members.connections ∷ []

-- whether an instance has a connection
abbrev pub has_wire : Instance → Wire → Bool
has_wire instance key = list_any (λ found. found) (numbered_from (is_wire_in key instance) 0 instance.components)

-- the component of a number, if it has a connection of this name
abbrev pub owner_named : Instance → ℕ → List ℕ → Option ℕ
owner_named instance owner name = cond (has_wire instance (owner, name)) (Some owner) None

-- the component of the connection to which a path leads: through that to one of its connections
abbrev pub wire_owner : Instance → ℕ → List (List ℕ) → Option ℕ
wire_owner instance number path = option_and_then (λ owner. option_and_then (owner_named instance owner) (last path)) (component_below instance.components number (front path))

-- whether a path leads to a connection
abbrev pub is_connection : Instance → ℕ → List (List ℕ) → Bool
is_connection instance number path = is_some (wire_owner instance number path)

-- ---- components

-- whether a path leads to a component
abbrev pub is_part : Instance → ℕ → List (List ℕ) → Bool
is_part instance number path = is_some (component_below instance.components number path)

-- whether a category is that of virtual buses
abbrev pub is_virtual_bus : Category → Bool
is_virtual_bus category = is_same_text category.word (codes "virtual") && option_map_or (λ second. is_same_text second (codes "bus")) category.second false

-- whether the component of a number is a virtual bus
abbrev pub is_carrier : Instance → ℕ → Bool
is_carrier instance number = option_map_or (λ decl. is_virtual_bus decl.category) (option_and_then (decl_of instance.packages) (classifier_at instance number)) false

-- whether a path leads to a virtual bus
abbrev pub leads_to_carrier : Instance → ℕ → List (List ℕ) → Bool
leads_to_carrier instance number path = option_map_or (is_carrier instance) (component_below instance.components number path) false

-- ---- what is not there

-- whether a path leads to what may be bound: to a component, or of a binding of connections to a connection or a virtual bus
abbrev pub is_bindable : Instance → BindingKind → ℕ → List (List ℕ) → Bool
is_bindable instance Processor number path = is_part instance number path
is_bindable instance Memory number path = is_part instance number path
is_bindable instance Function number path = is_part instance number path
is_bindable instance OfConnection number path = is_connection instance number path || leads_to_carrier instance number path

-- the targets of a binding of the component of a number that lead to nothing that may be bound, and then the references that lead to no component
abbrev pub stray_paths : Instance → ℕ → Binding → List (List (List ℕ))
stray_paths instance number binding =
    filter (λ path. not (is_bindable instance binding.kind number path)) binding.targets
    ++ filter (λ path. not (is_part instance number path)) binding.references

-- whether a binding is one of components, which each profile reads
abbrev pub is_of_components : BindingKind → Bool
is_of_components Processor = true
is_of_components Memory = true
is_of_components OfConnection = false
is_of_components Function = false

-- the same, of a binding of a section, where a profile reads it
abbrev pub section_paths : Profile → Instance → ℕ → Binding → List (List (List ℕ))
section_paths profile instance number binding = cond (not (is_first profile) || is_of_components binding.kind) (stray_paths instance number binding) []

-- the same of a binding in braces, which the second profile alone reads
abbrev pub braced_paths : Profile → Instance → ℕ → Binding → List (List (List ℕ))
braced_paths profile instance number binding = cond (is_first profile) [] (stray_paths instance number binding)

-- paths in a binding that stands at this place, of the component of a number
abbrev pub strays_at : ℕ → Spot → List (List (List ℕ)) → List StrayBinding
strays_at number spot paths = map (λ path. record { component = number; path = path; spot = spot }) paths

-- those of a binding of a section
abbrev pub section_strays : Profile → Instance → ℕ → Binding → List StrayBinding
section_strays profile instance number binding = strays_at number binding.spot (section_paths profile instance number binding)

-- those of a binding in braces
abbrev pub braced_strays : Profile → Instance → ℕ → Binding → List StrayBinding
braced_strays profile instance number binding = strays_at number binding.spot (braced_paths profile instance number binding)

-- those of an effective classifier
abbrev pub stray_in : Profile → Instance → ℕ → Effective → List StrayBinding
stray_in profile instance number effective = flat_map (section_strays profile instance number) effective.bindings ++ flat_map (braced_strays profile instance number) effective.braced

-- those of the component of a number
abbrev pub stray_of : Profile → Instance → ℕ → Component → List StrayBinding
stray_of profile instance number component = stray_in profile instance number (effective_in instance number)

-- The paths in bindings that a profile reads which lead to nothing that may be bound, or to no component where something is bound to it, one component
-- after the other: of each binding the targets, and then the references; those of sections, and then those in braces.
abbrev pub stray_bindings : Profile → Instance → List StrayBinding
stray_bindings profile instance = numbered_from (stray_of profile instance) 0 instance.components
