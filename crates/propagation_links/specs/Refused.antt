-- What is refused of the links of an instance.
use Rattle.std.specs.Prelude.{ℕ, ◌+◌, Bool, true, false, cond, ◌&&◌, ◌||◌, not, nat_le, is_some, List, [], ◌∷◌, ◌++◌, length, map, sum, flat_map, slice_get, Option, Some, None, option_to_list}
use Rattle.std.specs.Option.{option_map_or, option_or}
use Rattle.aadl_syntax.specs.declared.core_model.Connection.{Connection}
use Rattle.aadl_syntax.specs.declared.core_model.Ends.{Ends}
use Rattle.aadl_syntax.specs.declared.error_model.UserPath.{UserPath}
use Rattle.aadl_syntax.specs.declared.place.End.{End}
use Rattle.plain_values.specs.declared.refusal.Code.TheVariants.{ConnectionError, FeatureGroup, TooManyLinks, UnknownEnd}
use Rattle.plain_values.specs.declared.refusal.Place.TheVariants.{Words}
use Rattle.plain_values.specs.declared.refusal.Refusal.{Refusal}
use Rattle.plain_values.specs.Order.{least}
use Rattle.plain_values.specs.Refusal.{refused_so}
use Rattle.noted_refusals.specs.Groups.{first_group, or_group}
use Rattle.package_index.specs.Names.{front, last}
use Rattle.plain_values.specs.Numbered.{numbered_from}
use Rattle.profiles.specs.declared.profile.Profile.{Profile}
use Rattle.profiles.specs.declared.profile.Profile.TheVariants.{First, Second}
use Rattle.component_extension.specs.declared.effective.Effective.{Effective}
use Rattle.component_extension.specs.Items.{Scoped}
use Rattle.component_extension.specs.Members.{Member}
use Rattle.propagation_points.specs.Points.{Point, place_named}
use Rattle.instantiator.specs.declared.path.Component.{Component}
use Rattle.instantiator.specs.Components.{component_below}
use Rattle.plain_values.specs.Refusal.{over_limit}
use Rattle.instantiator.specs.Whole.{Instance, effective_in}
use Rattle.propagation_links.specs.declared.bound.BoundTo.{BoundTo}
use Rattle.propagation_links.specs.Bound.{all_bounds, all_carried, all_functions, all_held}
use Rattle.propagation_links.specs.Ends.{Pointed, is_access, is_called_as_word, is_point_word, is_subcomponent, points_at}
use Rattle.propagation_links.specs.Links.{ends_of, is_apart}
use Rattle.propagation_links.specs.Stated.{Carried, Stated}

-- ---- ends

-- whether a name is that of a point of a component, or a word
abbrev pub is_point : Pointed → ℕ → List ℕ → Bool
is_point pointed component name = is_some (place_named (points_at pointed component) name) || is_point_word name

-- Whether names mean a point of the component of a number, or of one below it: the names before the last lead there.
abbrev pub means_point : Pointed → ℕ → List (List ℕ) → Bool
means_point pointed number names =
    option_map_or (λ component. option_map_or (is_point pointed component) (last names) false) (component_below pointed.instance.components number (front names)) false

-- N14 at an end of a user path that means no point
abbrev pub path_end_refusals : Pointed → ℕ → End → List Refusal
path_end_refusals pointed number end = refused_so (not (means_point pointed number end.names)) UnknownEnd end.spot

-- whether an end of a connection means something: a point, or in an access connection a subcomponent alone
abbrev pub means_end : Pointed → ℕ → Bool → List (List ℕ) → Bool
means_end pointed number access names =
    cond (is_called_as_word pointed number names) access (means_point pointed number names || (access && is_subcomponent pointed number names))

-- N14 at an end of a connection that means nothing
abbrev pub unknown_end : Pointed → ℕ → Bool → End → List Refusal
unknown_end pointed number access end = refused_so (not (means_end pointed number access end.names)) UnknownEnd end.spot

-- P3 at an end of a connection with three names or more, and else N14 unless the connection is apart from the model
abbrev pub connection_end_refusals : Pointed → ℕ → Bool → Bool → End → List Refusal
connection_end_refusals pointed number access apart end =
    cond (nat_le 3 (length end.names)) (refused_so true FeatureGroup end.spot) (cond apart [] (unknown_end pointed number access end))

-- ---- connections and paths

-- the refusals of the ends of a connection, if it has any
abbrev pub ends_refusals : Pointed → ℕ → Bool → Option Ends → List Refusal
ends_refusals pointed number access None = []
ends_refusals pointed number access (Some ends) =
    connection_end_refusals pointed number access (is_apart ends) ends.from ++ connection_end_refusals pointed number access (is_apart ends) ends.to

abbrev pub connection_refusals : Pointed → ℕ → Member Connection → List Refusal
connection_refusals pointed number member = ends_refusals pointed number (is_access member.nearest.item.kind) (ends_of member)

abbrev pub path_refusals : Pointed → ℕ → Scoped UserPath → List Refusal
path_refusals pointed number scoped = path_end_refusals pointed number scoped.item.from ++ path_end_refusals pointed number scoped.item.to

-- ---- all refusals

-- The refusals of the component of a number with this effective classifier: those of the ends of its connections and paths,
-- and P9 at each block of connection errors.
abbrev pub refusals_in : Pointed → ℕ → Effective → List Refusal
refusals_in pointed number effective =
    flat_map (connection_refusals pointed number) effective.members.connections
    ++ (flat_map (path_refusals pointed number) effective.propagations.user_paths ++ flat_map (refused_so true ConnectionError) effective.others.connection_errors)

-- the first refusal of the component of a number, if it has one
abbrev pub component_fault : Pointed → ℕ → Component → List Refusal
component_fault pointed number component = option_to_list (least (refusals_in pointed number (effective_in pointed.instance number)))

-- how many connections and user paths a component has
abbrev pub count_in : Effective → ℕ
count_in effective = length effective.members.connections + length effective.propagations.user_paths

-- how many connections and user paths all components have, also those without effect
abbrev pub count_links : Instance → ℕ
count_links instance = sum (numbered_from (λ number component. count_in (effective_in instance number) ∷ []) 0 instance.components)

-- how many references the binding has that counts, if there is one
abbrev pub count_stated : Option Stated → ℕ
count_stated None = 0
count_stated (Some stated) = length stated.references

-- how many references the binding of a component has that counts, also those that lead nowhere
abbrev pub count_bound : BoundTo → ℕ
count_bound bound = count_stated bound.stated

-- how many references the binding of a connection has that counts, also those that lead nowhere
abbrev pub count_carried : Carried → ℕ
count_carried carried = length carried.stated.references

-- how many references the bindings have that count under the second profile alone
abbrev pub count_extra : Instance → ℕ
count_extra instance = sum (map count_bound (all_held instance)) + (sum (map count_bound (all_functions instance)) + sum (map count_carried (all_carried instance)))

-- of these what a profile counts
abbrev pub count_further : Profile → Instance → ℕ
count_further First instance = 0
count_further Second instance = count_extra instance

-- how many connections and user paths all components have, and references of the bindings that count
abbrev pub count_all : Profile → Pointed → ℕ
count_all profile pointed = count_links pointed.instance + (sum (map count_bound (all_bounds pointed.instance)) + count_further profile pointed.instance)

-- the refusal of the first component that has one
abbrev pub first_fault : Pointed → Option Refusal
first_fault pointed = slice_get (numbered_from (component_fault pointed) 0 pointed.instance.components) 0

-- M14 where there are more than 1,048,576 connections, user paths and references of bindings
abbrev pub limit_refusal : Profile → Pointed → Option Refusal
limit_refusal profile pointed = over_limit (nat_le 1048577 (count_all profile pointed)) TooManyLinks Words

-- The refusal of the links of an instance with these points, under a profile: M14, and else that of the first component that has one.
abbrev pub links_refusal : Profile → Instance → List (List Point) → Option Refusal
links_refusal profile instance points =
    let pointed : Pointed = record { instance = instance; points = points } in option_or (limit_refusal profile pointed) (first_fault pointed)

-- ---- groups

-- the refusals of the component of a number, as a group
abbrev pub component_groups : Pointed → ℕ → Component → List (List Refusal)
component_groups pointed number component = refusals_in pointed number (effective_in pointed.instance number) ∷ []

-- the group of the first component of which anything is refused
abbrev pub faults_group : Pointed → List Refusal
faults_group pointed = first_group (numbered_from (component_groups pointed) 0 pointed.instance.components)

-- The group of the links of an instance with these points, under a profile: M14 alone, and else that of the first component of which
-- anything is refused.
abbrev pub links_group : Profile → Instance → List (List Point) → List Refusal
links_group profile instance points =
    let pointed : Pointed = record { instance = instance; points = points } in or_group (option_to_list (limit_refusal profile pointed)) (faults_group pointed)
