-- What components, connections and functions are bound to (AADL: the properties Actual_Processor_Binding, Actual_Memory_Binding,
-- Actual_Connection_Binding and Actual_Function_Binding).
use Rattle.std.specs.Prelude.{ℕ, zero, suc, Bool, true, false, cond, ◌&&◌, ◌||◌, ◌==◌, not, is_some, List, [], ◌∷◌, ◌++◌, filter, flat_map, length, slice_get, take, codes, Option, Some, None, option_and_then, option_map}
use Rattle.std.specs.List.{last_or, list_any}
use Rattle.std.specs.Option.{option_map_or, option_or}
use Rattle.aadl_syntax.specs.declared.core_model.Binding.{Binding}
use Rattle.aadl_syntax.specs.declared.core_model.BindingKind.{BindingKind}
use Rattle.aadl_syntax.specs.declared.core_model.BindingKind.TheVariants.{Connection as OfConnection, Function, Memory, Processor}
use Rattle.aadl_syntax.specs.declared.core_model.Category.{Category}
use Rattle.aadl_syntax.specs.declared.core_model.Connection.{Connection}
use Rattle.component_extension.specs.declared.effective.Effective.{Effective}
use Rattle.component_extension.specs.Members.{Member}
use Rattle.package_index.specs.Lookup.{decl_of}
use Rattle.package_index.specs.Names.{front, is_same_name}
use Rattle.plain_values.specs.Name.{is_same_text}
use Rattle.plain_values.specs.Numbered.{numbered_from}
use Rattle.profiles.specs.declared.profile.Profile.{Profile}
use Rattle.profiles.specs.declared.profile.Profile.TheVariants.{First, Second}
use Rattle.instantiator.specs.Components.{component_below}
use Rattle.instantiator.specs.Whole.{Instance, classifier_at, effective_in}
use Rattle.propagation_links.specs.declared.bound.BoundTo.{BoundTo}
use Rattle.propagation_links.specs.Stated.{Carried, Stated}

-- ---- one component

-- a number for each kind of binding, by which they are told apart
abbrev pub kind_number : BindingKind → ℕ
kind_number Processor = 0
kind_number Memory = 1
kind_number OfConnection = 2
kind_number Function = 3

-- whether a binding is of a kind
abbrev pub is_of : BindingKind → Binding → Bool
is_of kind binding = kind_number kind == kind_number binding.kind

-- whether a binding is of this kind, and these names are one of its targets
abbrev pub binds : BindingKind → List (List ℕ) → Binding → Bool
binds kind names binding = is_of kind binding && list_any (λ target. is_same_name target names) binding.targets

-- The last of these bindings of a kind that binds what these names lead to.
abbrev pub last_binding : BindingKind → List (List ℕ) → List Binding → Option Binding
last_binding kind names bindings = last_or None (filter (binds kind names) bindings)

-- the bindings that stand in braces behind members, or those of `properties` sections
abbrev pub bindings_by : Bool → Effective → List Binding
bindings_by true effective = effective.braced
bindings_by false effective = effective.bindings

-- ---- a model

-- the last binding of the component of a number, in braces or in sections as is asked, that binds what these names lead to from there
abbrev pub stated_among : Bool → Instance → BindingKind → ℕ → List (List ℕ) → Option Stated
stated_among braced instance kind number names =
    option_map (λ binding. record { component = number; references = binding.references; further = braced }) (last_binding kind names (bindings_by braced (effective_in instance number)))

-- what stands in braces, which the second profile alone reads
abbrev pub stated_braced : Profile → Instance → BindingKind → ℕ → List (List ℕ) → Option Stated
stated_braced First instance kind number names = None
stated_braced Second instance kind number names = stated_among true instance kind number names

-- The last binding of the component of a number that binds what these names lead to from there: those in braces come before all of sections.
abbrev pub stated_in : Profile → Instance → BindingKind → ℕ → List (List ℕ) → Option Stated
stated_in profile instance kind number names = option_or (stated_among false instance kind number names) (stated_braced profile instance kind number names)

-- The binding that counts for what a path leads to, a component or a connection: that of the outermost component on the way, from
-- the one of this number on, that has one of which a target is what is left of the path.
abbrev pub counting_along : Profile → Instance → BindingKind → Option ℕ → List (List ℕ) → Option Stated
counting_along profile instance kind None path = None
counting_along profile instance kind (Some number) [] = None
counting_along profile instance kind (Some number) (name ∷ path) =
    option_or (stated_in profile instance kind number (name ∷ path)) (counting_along profile instance kind (component_below instance.components number (name ∷ [])) path)

-- the binding that counts for what a path leads to from the root
abbrev pub counting : Profile → Instance → BindingKind → List (List ℕ) → Option Stated
counting profile instance kind path = counting_along profile instance kind (Some 0) path

-- the path of the component of a number
abbrev pub path_in : Instance → ℕ → List (List ℕ)
path_in instance number = option_map_or (λ component. component.path) (slice_get instance.components number) []

-- the binding of a kind that counts for the component of a number
abbrev pub bound_in : Profile → Instance → BindingKind → ℕ → BoundTo
bound_in profile instance kind number = record { component = number; kind = kind; stated = counting profile instance kind (path_in instance number) }

-- What the component of a number is bound to by the first profile: the binding to a processor and the one to a memory that count for it.
abbrev pub bounds_in : Instance → ℕ → List BoundTo
bounds_in instance number = bound_in First instance Processor number ∷ bound_in First instance Memory number ∷ []

-- What each component is bound to, in order.
abbrev pub all_bounds : Instance → List BoundTo
all_bounds instance = numbered_from (λ number component. bounds_in instance number) 0 instance.components

-- ---- virtual processors and buses

-- whether a category is this word alone
abbrev pub is_plain : List ℕ → Category → Bool
is_plain word category = not (is_some category.second) && is_same_text category.word word

-- whether a category is `virtual` and this word
abbrev pub is_virtual : List ℕ → Category → Bool
is_virtual word category = is_same_text category.word (codes "virtual") && option_map_or (λ second. is_same_text second word) category.second false

-- whether a category is this word, alone or behind `virtual`
abbrev pub is_plain_or_virtual : List ℕ → Category → Bool
is_plain_or_virtual word category = is_plain word category || is_virtual word category

-- whether what is of a category is bound by this kind of binding to what it stands in: a virtual processor as to a processor, and a virtual
-- bus as a connection is
abbrev pub is_guest : BindingKind → Category → Bool
is_guest Processor category = is_virtual (codes "processor") category
is_guest Memory category = false
is_guest OfConnection category = is_virtual (codes "bus") category
is_guest Function category = false

-- whether what stands in something of a category may be bound to it so
abbrev pub is_host : BindingKind → Category → Bool
is_host Processor category = is_plain_or_virtual (codes "processor") category
is_host Memory category = false
is_host OfConnection category = is_plain_or_virtual (codes "bus") category || is_plain_or_virtual (codes "processor") category
is_host Function category = false

-- the category of the component of a number, if it has a classifier
abbrev pub category_in : Instance → ℕ → Option Category
category_in instance number = option_map (λ decl. decl.category) (option_and_then (decl_of instance.packages) (classifier_at instance number))

-- whether there is a component, and it is a guest
abbrev pub is_guest_in : Instance → BindingKind → Option ℕ → Bool
is_guest_in instance kind None = false
is_guest_in instance kind (Some number) = option_map_or (is_guest kind) (category_in instance number) false

-- what a guest has of its host: the empty path from there
abbrev pub of_host : Instance → BindingKind → Option ℕ → Option Stated
of_host instance kind None = None
of_host instance kind (Some host) =
    cond (option_map_or (is_host kind) (category_in instance host) false) (Some (record { component = host; references = [] ∷ []; further = true })) None

-- What the component of a path is bound to because it stands in that: a virtual processor or bus to the component around it.
abbrev pub standing : Instance → BindingKind → List (List ℕ) → Option Stated
standing instance kind [] = None
standing instance kind (name ∷ path) =
    cond (is_guest_in instance kind (component_below instance.components 0 (name ∷ path))) (of_host instance kind (component_below instance.components 0 (front (name ∷ path)))) None

-- ---- what holds for what is inside (AADL: inherit)

-- the binding that counts for the component of a path by the second profile, or else what it is bound to because it stands in that
abbrev pub said : Instance → BindingKind → List (List ℕ) → Option Stated
said instance kind path = option_or (counting Second instance kind path) (standing instance kind path)

-- What is said of the component of the first so many names of a path, or else of the nearest component around it of which anything is.
abbrev pub nearest : Instance → BindingKind → List (List ℕ) → ℕ → Option Stated
nearest instance kind path zero = None
nearest instance kind path (suc count) = option_or (said instance kind (take (suc count) path)) (nearest instance kind path count)

-- whether the first profile reads bindings of a kind
abbrev pub is_of_first : BindingKind → Bool
is_of_first Processor = true
is_of_first Memory = true
is_of_first OfConnection = false
is_of_first Function = false

-- what holds for a component by the second profile alone: the binding that counts for it, where the first profile does not read that, or
-- what holds around it, where none counts
abbrev pub beyond_first : BindingKind → Option Stated → Option Stated → Option Stated
beyond_first kind (Some own) around = cond (is_of_first kind && not own.further) None (Some own)
beyond_first kind None around = around

-- what holds for the component of a path by the second profile alone
abbrev pub held : Instance → BindingKind → List (List ℕ) → Option Stated
held instance kind path = beyond_first kind (counting Second instance kind path) (nearest instance kind path (length path))

abbrev pub held_in : Instance → BindingKind → ℕ → BoundTo
held_in instance kind number = record { component = number; kind = kind; stated = held instance kind (path_in instance number) }

-- what holds for the component of a number as for a connection, if it is a virtual bus
abbrev pub held_as_bus : Instance → ℕ → List BoundTo
held_as_bus instance number = cond (is_guest_in instance OfConnection (Some number)) (held_in instance OfConnection number ∷ []) []

-- what holds for the component of a number: a processor, a memory, and of a virtual bus what carries it
abbrev pub all_held_in : Instance → ℕ → List BoundTo
all_held_in instance number = held_in instance Processor number ∷ held_in instance Memory number ∷ held_as_bus instance number

-- What holds for each component by the second profile alone, in order.
abbrev pub all_held : Instance → List BoundTo
all_held instance = numbered_from (λ number component. all_held_in instance number) 0 instance.components

-- ---- functions

-- What performs the function of each component, in order.
abbrev pub all_functions : Instance → List BoundTo
all_functions instance = numbered_from (λ number component. bound_in Second instance Function number ∷ []) 0 instance.components

-- ---- connections

-- a connection of the component of a number with the binding that counts for it, if there is one
abbrev pub carried_with : ℕ → Member Connection → Option Stated → List Carried
carried_with number connection None = []
carried_with number connection (Some stated) = record { component = number; connection = connection; stated = stated } ∷ []

-- a connection with the binding that counts for it: its path is that of its component, and then its name
abbrev pub carried_by : Instance → ℕ → Member Connection → List Carried
carried_by instance number connection = carried_with number connection (counting Second instance OfConnection (path_in instance number ++ connection.nearest.item.name ∷ []))

-- those of the component of a number
abbrev pub carried_in : Instance → ℕ → List Carried
carried_in instance number = flat_map (carried_by instance number) (effective_in instance number).members.connections

-- The connections of all components for which a binding counts, with that, one component after the other.
abbrev pub all_carried : Instance → List Carried
all_carried instance = numbered_from (λ number component. carried_in instance number) 0 instance.components
