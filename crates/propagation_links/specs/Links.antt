-- The links of an instance: from which side of which point errors propagate to which (EMV2: propagation along connections
-- and paths).
use Rattle.std.specs.Prelude.{ℕ, Bool, true, false, cond, ◌&&◌, ◌||◌, not, List, [], ◌∷◌, ◌++◌, flat_map, codes, Option, Some, None, option_and_then, nat_eq}
use Rattle.plain_values.specs.Name.{is_same_text}
use Rattle.aadl_syntax.specs.declared.core_model.BindingKind.{BindingKind}
use Rattle.aadl_syntax.specs.declared.core_model.BindingKind.TheVariants.{Connection as OfConnection, Function, Memory, Processor}
use Rattle.aadl_syntax.specs.declared.core_model.Connection.{Connection}
use Rattle.aadl_syntax.specs.declared.core_model.Ends.{Ends}
use Rattle.aadl_syntax.specs.declared.error_model.UserPath.{UserPath}
use Rattle.plain_values.specs.Numbered.{numbered_from}
use Rattle.profiles.specs.declared.profile.Profile.{Profile}
use Rattle.profiles.specs.declared.profile.Profile.TheVariants.{First, Second}
use Rattle.component_extension.specs.declared.effective.Effective.{Effective}
use Rattle.component_extension.specs.Items.{Scoped}
use Rattle.component_extension.specs.Members.{Member}
use Rattle.instantiator.specs.Components.{component_below}
use Rattle.instantiator.specs.declared.path.Component.{Component}
use Rattle.propagation_points.specs.Points.{Point}
use Rattle.instantiator.specs.Whole.{Instance, effective_in}
use Rattle.propagation_links.specs.declared.bound.BoundTo.{BoundTo}
use Rattle.propagation_links.specs.declared.link.Link.{Link}
use Rattle.propagation_links.specs.declared.link.PointAt.{PointAt}
use Rattle.propagation_links.specs.declared.ends.FoundEnd.{FoundEnd}
use Rattle.propagation_links.specs.Bound.{all_bounds, all_carried, all_functions, all_held}
use Rattle.propagation_links.specs.Ends.{Pointed, connection_end, is_access, is_there, path_end, point_of}
use Rattle.propagation_links.specs.Stated.{Carried, Stated}

-- ---- one link

-- a from-end takes its outward side, unless it is the component's own: what comes in from outside goes on from there
abbrev pub from_side : FoundEnd → PointAt
from_side end = record { component = end.component; point = end.point; outward = not end.own }

-- a to-end takes its inward side, unless it is the component's own: what comes there goes on to the outside
abbrev pub to_side : FoundEnd → PointAt
to_side end = record { component = end.component; point = end.point; outward = end.own }

-- the link between two sides, where both are there
abbrev pub link_between : Pointed → PointAt → PointAt → List Link
link_between pointed from to = cond (is_there pointed from && is_there pointed to) (record { from = from; to = to } ∷ []) []

-- the link between two ends, where both are found
abbrev pub link_of : Pointed → Option FoundEnd → Option FoundEnd → List Link
link_of pointed None to = []
link_of pointed (Some from) None = []
link_of pointed (Some from) (Some to) = link_between pointed (from_side from) (to_side to)

-- ---- connections and paths

-- whether the names begin with a word that no error goes along
abbrev pub begins_apart : List (List ℕ) → Bool
begins_apart [] = false
begins_apart (name ∷ names) = is_same_text (codes "processor") name || is_same_text (codes "self") name

-- whether one of the ends does
abbrev pub is_apart : Ends → Bool
is_apart ends = begins_apart ends.from.names || begins_apart ends.to.names

-- the link in the written direction, and then the other where it goes both ways
abbrev pub links_both : Pointed → Bool → Option FoundEnd → Option FoundEnd → List Link
links_both pointed both from to = link_of pointed from to ++ cond both (link_of pointed to from) []

-- The links of a connection with these ends in the component of a number. Connections of accesses go both ways; one with an
-- end at a processor or in the component's own text has none.
abbrev pub links_between : Pointed → ℕ → Bool → Ends → List Link
links_between pointed number access ends =
    cond (is_apart ends) [] (links_both pointed (ends.both || access) (connection_end pointed number access ends.from.names) (connection_end pointed number access ends.to.names))

-- the ends of a connection: those of the nearest declaration that states them
abbrev pub ends_of : Member Connection → Option Ends
ends_of member = option_and_then (λ declared. declared.item.ends) member.stated

-- the links of the ends that a connection has, if it has any
abbrev pub links_at_ends : Pointed → ℕ → Bool → Option Ends → List Link
links_at_ends pointed number access None = []
links_at_ends pointed number access (Some ends) = links_between pointed number access ends

-- the links of a connection in the component of a number
abbrev pub connection_links : Pointed → ℕ → Member Connection → List Link
connection_links pointed number member = links_at_ends pointed number (is_access member.nearest.item.kind) (ends_of member)

-- the link of a user path in the component of a number
abbrev pub path_links : Pointed → ℕ → Scoped UserPath → List Link
path_links pointed number scoped = link_of pointed (path_end pointed number scoped.item.from.names) (path_end pointed number scoped.item.to.names)

-- ---- connections and paths of all components

-- the links of the component of a number with this effective classifier: those of its connections, and then of its paths
abbrev pub links_in : Pointed → ℕ → Effective → List Link
links_in pointed number effective =
    flat_map (connection_links pointed number) effective.members.connections ++ flat_map (path_links pointed number) effective.propagations.user_paths

-- the links that a component gives
abbrev pub component_links : Pointed → ℕ → Component → List Link
component_links pointed number component = links_in pointed number (effective_in pointed.instance number)

-- the links of the connections and paths of all components, one component after the other
abbrev pub connected : Pointed → List Link
connected pointed = numbered_from (component_links pointed) 0 pointed.instance.components

-- ---- bindings

-- the point of a component that is bound: errors of what it is bound to come in there
abbrev pub bound_word : BindingKind → List ℕ
bound_word Processor = codes "processor"
bound_word Memory = codes "memory"
bound_word OfConnection = codes "connection"
bound_word Function = codes "binding"

-- whether the component of a number is the one to which it is bound, where none may be bound to itself
abbrev pub is_left_out : Bool → ℕ → ℕ → Bool
is_left_out itself number target = not itself && nat_eq target number

-- The links of the component of a number and one to which it is bound, if there is one, and where it may be itself: from the point
-- `bindings` of that to its own point of the word, and then the other way.
abbrev pub target_links : Pointed → Bool → BindingKind → ℕ → Option ℕ → List Link
target_links pointed itself kind number None = []
target_links pointed itself kind number (Some target) =
    cond (is_left_out itself number target) [] (links_both pointed true (point_of pointed false target (codes "bindings")) (point_of pointed false number (bound_word kind)))

-- The links of the component of a number by the binding that counts for it, if there is one: those of each reference in order, which is
-- a path from the component that states the binding. A path that leads nowhere gives none.
abbrev pub stated_links : Pointed → Bool → BindingKind → ℕ → Option Stated → List Link
stated_links pointed itself kind number None = []
stated_links pointed itself kind number (Some stated) =
    flat_map (λ reference. target_links pointed itself kind number (component_below pointed.instance.components stated.component reference)) stated.references

-- the links of a component by its binding of a kind
abbrev pub bound_links : Pointed → Bool → BoundTo → List Link
bound_links pointed itself bound = stated_links pointed itself bound.kind bound.component bound.stated

-- ---- bindings of connections

-- the point `connection` of the component at an end, if that is found
abbrev pub connection_point : Pointed → Option FoundEnd → Option FoundEnd
connection_point pointed None = None
connection_point pointed (Some end) = point_of pointed false end.component (codes "connection")

-- The links of one direction of a connection and the component that carries it: what goes out at the point `bindings` of that comes
-- to the to-end, and then to the point `connection` of the component at the to-end; and what leaves the from-end comes in at `bindings`.
abbrev pub carried_one_way : Pointed → ℕ → Option FoundEnd → Option FoundEnd → List Link
carried_one_way pointed carrier from to =
    link_of pointed (point_of pointed false carrier (codes "bindings")) to
    ++ (link_of pointed (point_of pointed false carrier (codes "bindings")) (connection_point pointed to) ++ link_of pointed from (point_of pointed false carrier (codes "bindings")))

-- the links of a connection and a component that carries it, if there is one: those of the written direction, and then of the other
-- where the connection goes both ways
abbrev pub carrier_links : Pointed → Bool → Option FoundEnd → Option FoundEnd → Option ℕ → List Link
carrier_links pointed both from to None = []
carrier_links pointed both from to (Some carrier) = carried_one_way pointed carrier from to ++ cond both (carried_one_way pointed carrier to from) []

-- the links of a connection with these ends and each component to which the references of a binding lead
abbrev pub carried_between : Pointed → Stated → Bool → Option FoundEnd → Option FoundEnd → List Link
carried_between pointed stated both from to =
    flat_map (λ reference. carrier_links pointed both from to (component_below pointed.instance.components stated.component reference)) stated.references

-- The links of the ends that a bound connection of the component of a number has, if it has any. Connections of accesses go both ways;
-- one with an end at a processor or in the component's own text has none.
abbrev pub carried_ends : Pointed → Stated → ℕ → Bool → Option Ends → List Link
carried_ends pointed stated number access None = []
carried_ends pointed stated number access (Some ends) =
    cond (is_apart ends) []
    (carried_between pointed stated (ends.both || access) (connection_end pointed number access ends.from.names) (connection_end pointed number access ends.to.names))

-- the links of a connection by the binding that counts for it
abbrev pub carried_links : Pointed → Carried → List Link
carried_links pointed carried = carried_ends pointed carried.stated carried.component (is_access carried.connection.nearest.item.kind) (ends_of carried.connection)

-- ---- all links of an instance

-- The links of the connections and paths of all components, and behind them those of their bindings to processors and memories.
abbrev pub all_links : Pointed → List Link
all_links pointed = connected pointed ++ flat_map (bound_links pointed true) (all_bounds pointed.instance)

-- The links of the second profile alone: those of what holds by braces, by what is around and for what is virtual, by which nothing is bound
-- to itself, then those of functions, and then those of connections and what carries them.
abbrev pub extra_links : Pointed → List Link
extra_links pointed =
    flat_map (bound_links pointed false) (all_held pointed.instance)
    ++ (flat_map (bound_links pointed true) (all_functions pointed.instance) ++ flat_map (carried_links pointed) (all_carried pointed.instance))

-- what the second profile alone has
abbrev pub only_second : {A : Type 0} → Profile → List A → List A
only_second First items = []
only_second Second items = items

-- the links of an instance with its points, under a profile
abbrev pub links_under : Profile → Pointed → List Link
links_under profile pointed = all_links pointed ++ only_second profile (extra_links pointed)

-- The links of an instance with these points, a list for each of its kinds, under a profile.
abbrev pub links_of : Profile → Instance → List (List Point) → List Link
links_of profile instance points = links_under profile (record { instance = instance; points = points })
