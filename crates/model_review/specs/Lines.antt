-- The lines of a review.
use Rattle.std.specs.Prelude.{ℕ, Bool, true, false, cond, List, [], ◌∷◌, ◌++◌, codes, decimal, filter, flat_map, slice_get, Option, option_map}
use Rattle.std.specs.Option.{option_map_or}
use Rattle.aadl_syntax.specs.declared.error_model.Flow.{Flow}
use Rattle.aadl_syntax.specs.declared.error_model.FlowKind.{FlowKind}
use Rattle.aadl_syntax.specs.declared.error_model.FlowKind.TheVariants as kind
use Rattle.component_extension.specs.Items.{Scoped}
use Rattle.component_extension.specs.declared.effective.Effective.{Effective}
use Rattle.error_libraries.specs.Libraries.{Table}
use Rattle.instantiator.specs.Whole.{effective_in}
use Rattle.propagation_links.specs.declared.link.PointAt.{PointAt}
use Rattle.propagation_links.specs.declared.unlinked.Unlinked.{Unlinked}
use Rattle.unread_parts.specs.declared.unread.Part.{Part}
use Rattle.model_facts.specs.Assembly.{Assembly, model_at}
use Rattle.model_facts.specs.Facts.{fact_in}
use Rattle.model_facts.specs.Names.{behind, fact_name as its_fact_name, path_at, path_text, point_name, type_text}
use Rattle.model_facts.specs.declared.keys.FactKind.TheVariants.{State}
use Rattle.fault_system.specs.Systems.{System, event_name, fact_name}
use Rattle.model_review.specs.Seen.{Seen}
use Rattle.model_review.specs.declared.finding.Finding.{Finding}
use Rattle.model_review.specs.declared.finding.Finding.TheVariants.{Always, AlwaysState, CoreRate, Dry, GoesNowhere, HiddenLink, HiddenPath, HiddenSource, HiddenTransitions, InLoop, InModes, Never, NeverState, NoEffect, NoLink, NoSingle, NoSource, NotDeclared, Open, Quiet, SinkLeaves, StopsHere, StrayPath, StrayRate, TwoWays, TypeRoot, Unlike, UnreachedEvents, UnreadBinding, UnusedEvent, UnusedState}
use Rattle.model_review.specs.declared.finding.TypesAt.{TypesAt}

-- ---- sides

-- the direction of a side
abbrev pub direction : Bool → List ℕ
direction false = codes "in:"
direction true = codes "out:"

-- a side: `root.a/out:p`
abbrev pub side_text : Assembly → PointAt → List ℕ
side_text assembly side = behind assembly side.component (direction side.outward ++ point_name (model_at assembly side.component) side.point)

-- types, each behind a comma
abbrev pub further_types : Table → List ℕ → List ℕ
further_types types others = flat_map (λ type. codes "," ++ type_text types type) others

-- types, with a comma between each two
abbrev pub type_list : Table → List ℕ → List ℕ
type_list types [] = []
type_list types (type ∷ others) = type_text types type ++ further_types types others

-- types at a side: `root.a/out:p{lib::t,lib::u}`
abbrev pub types_text : Assembly → TypesAt → List ℕ
types_text assembly at = side_text assembly at.side ++ (codes "{" ++ (type_list assembly.types at.types ++ codes "}"))

-- ---- flows

-- whether a flow is a source or a path
abbrev pub is_no_sink : FlowKind → Bool
is_no_sink (kind.Source point set state) = true
is_no_sink (kind.Sink point set) = false
is_no_sink (kind.Path from from_set to to_set mapping) = true

-- the source or path of a place among the sources and paths, which all have a meaning in a model that is not refused
abbrev pub flow_at : ℕ → List (Scoped Flow) → Option Flow
flow_at number flows = option_map (λ flow. flow.item) (slice_get (filter (λ flow. is_no_sink flow.item.kind) flows) number)

-- The name of a source or a path of a component, behind that of the component: `root.a/f`.
abbrev pub flow_text : Assembly → ℕ → ℕ → List ℕ
flow_text assembly owner number =
    option_map_or (λ flow. behind assembly owner flow.name) (flow_at number (effective_in assembly.instance owner).propagations.flows) []

-- ---- connections and user paths

-- the name of the connection of a place
abbrev pub connection_name : Effective → ℕ → List ℕ
connection_name effective number = option_map_or (λ member. member.nearest.item.name) (slice_get effective.members.connections number) []

-- the name of the user path of a place
abbrev pub user_path_name : Effective → ℕ → List ℕ
user_path_name effective number = option_map_or (λ path. path.item.name) (slice_get effective.propagations.user_paths number) []

-- the name of a connection or a user path that gives no link
abbrev pub unlinked_name : Effective → Unlinked → List ℕ
unlinked_name effective one = cond one.is_path (user_path_name effective one.number) (connection_name effective one.number)

-- The same, behind that of its component: `root.a/c1`.
abbrev pub unlinked_text : Assembly → Unlinked → List ℕ
unlinked_text assembly one = behind assembly one.component (unlinked_name (effective_in assembly.instance one.component) one)

-- ---- parts

-- names, each behind a dot
abbrev pub further_names : List (List ℕ) → List ℕ
further_names others = flat_map (λ name. codes "." ++ name) others

-- names, with a dot between each two
abbrev pub dotted : List (List ℕ) → List ℕ
dotted [] = []
dotted (name ∷ others) = name ++ further_names others

-- a part of a component, behind the component's name: `root.a/c1`
abbrev pub part_text : Assembly → Part → List ℕ
part_text assembly part = behind assembly part.component part.name

-- ---- events

-- the names of events, each behind a blank
abbrev pub event_names : System → List ℕ → List ℕ
event_names system events = flat_map (λ event. codes " " ++ event_name system event) events

-- ---- lines

-- what a line says
abbrev pub finding_text : Seen → Finding → List ℕ
finding_text seen (HiddenSource owner number at) = codes "hidden-source " ++ (flow_text seen.numbered.assembly owner number ++ (codes " at " ++ types_text seen.numbered.assembly at))
finding_text seen (HiddenPath owner number at) = codes "hidden-path " ++ (flow_text seen.numbered.assembly owner number ++ (codes " at " ++ types_text seen.numbered.assembly at))
finding_text seen (HiddenLink from at) = codes "hidden-link " ++ (side_text seen.numbered.assembly from ++ (codes " -> " ++ types_text seen.numbered.assembly at))
finding_text seen (HiddenTransitions owner count) = codes "hidden-transitions " ++ (path_text (path_at seen.numbered.assembly owner) ++ (codes " " ++ decimal count))
finding_text seen (NotDeclared at to) = codes "not-declared " ++ (types_text seen.numbered.assembly at ++ (codes " -> " ++ side_text seen.numbered.assembly to))
finding_text seen (StopsHere at) = codes "stops-here " ++ types_text seen.numbered.assembly at
finding_text seen (SinkLeaves at) = codes "sink-leaves " ++ types_text seen.numbered.assembly at
finding_text seen (GoesNowhere at) = codes "goes-nowhere " ++ types_text seen.numbered.assembly at
finding_text seen (NoLink one) = codes "no-link " ++ unlinked_text seen.numbered.assembly one
finding_text seen (TwoWays link) = codes "two-ways " ++ (side_text seen.numbered.assembly link.from ++ (codes " -> " ++ side_text seen.numbered.assembly link.to))
finding_text seen (Open at) = codes "open " ++ types_text seen.numbered.assembly at
finding_text seen (Dry at) = codes "dry " ++ types_text seen.numbered.assembly at
finding_text seen (NoSource side) = codes "no-source " ++ side_text seen.numbered.assembly side
finding_text seen (Never at) = codes "never " ++ types_text seen.numbered.assembly at
finding_text seen (NeverState state) = codes "never " ++ its_fact_name seen.numbered.assembly (fact_in 0 (State state))
finding_text seen (Always at) = codes "always " ++ types_text seen.numbered.assembly at
finding_text seen (AlwaysState owner state) = codes "always " ++ its_fact_name seen.numbered.assembly (fact_in owner (State state))
finding_text seen (UnusedState owner state) = codes "unused-state " ++ its_fact_name seen.numbered.assembly (fact_in owner (State state))
finding_text seen (Unlike one) = codes "unlike " ++ (fact_name seen.system one.state ++ (codes " in " ++ fact_name seen.system one.fact))
finding_text seen (Quiet one) = codes "quiet " ++ (fact_name seen.system one.state ++ (codes " at " ++ side_text seen.numbered.assembly one.side))
finding_text seen (InModes part) = codes "in-modes " ++ part_text seen.numbered.assembly part
finding_text seen (UnreadBinding part) = codes "unread-binding " ++ (path_text (path_at seen.numbered.assembly part.component) ++ (codes " " ++ part.name))
finding_text seen (StrayPath stray) = codes "stray-binding " ++ (path_text (path_at seen.numbered.assembly stray.component) ++ (codes " " ++ dotted stray.path))
finding_text seen (StrayRate rate) = codes "unused-rate " ++ (path_text (path_at seen.numbered.assembly rate.component) ++ (codes " " ++ dotted rate.target))
finding_text seen (CoreRate part) = codes "unused-rate " ++ (path_text (path_at seen.numbered.assembly part.component) ++ (codes " core:" ++ part.name))
finding_text seen (TypeRoot one) = codes "type-root root " ++ one.name
finding_text seen (InLoop loop) = codes "loop " ++ (decimal loop.size ++ (codes " " ++ fact_name seen.system loop.first))
finding_text seen (UnusedEvent event) = codes "unused-event " ++ event_name seen.system event
finding_text seen (NoSingle event) = codes "no-single " ++ event_name seen.system event
finding_text seen NoEffect = codes "no-effect root"
finding_text seen (UnreachedEvents events) = codes "unreached-event" ++ event_names seen.system events
