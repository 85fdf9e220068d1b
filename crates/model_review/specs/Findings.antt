-- What a review tells of a model but for its loops and its events: what it leaves without effect, and where its errors stop (EMV2).
use Rattle.std.specs.Prelude.{ℕ, Bool, true, false, cond, ◌&&◌, ◌||◌, ◌==◌, not, nat_eq, List, [], ◌∷◌, ◌++◌, filter, flat_map, length, map, slice_index_or}
use Rattle.std.specs.Bool.{beq}
use Rattle.std.specs.List.{list_any}
use Rattle.std.specs.Option.{option_map_or}
use Rattle.aadl_syntax.specs.declared.error_model.FlowKind.{FlowKind}
use Rattle.aadl_syntax.specs.declared.error_model.FlowKind.TheVariants as kind
use Rattle.plain_values.specs.Name.{is_same_text}
use Rattle.plain_values.specs.Numbered.{numbered_from, numbers_below}
use Rattle.package_index.specs.Names.{only}
use Rattle.error_libraries.specs.Search.{is_number_in}
use Rattle.propagation_points.specs.Points.{Point}
use Rattle.propagation_points.specs.States.{all_variants, held_numbers}
use Rattle.propagation_points.specs.declared.side.Side.{Side}
use Rattle.propagation_points.specs.declared.side.Side.TheVariants.{Absent, Free, Declared}
use Rattle.propagation_points.specs.Uses.{covers}
use Rattle.propagation_points.specs.declared.uses.ReachedPoint.{ReachedPoint}
use Rattle.error_flows.specs.declared.meaning.FlowMeaning.{FlowMeaning}
use Rattle.error_flows.specs.declared.meaning.FlowMeaning.TheVariants as flow
use Rattle.error_behavior.specs.declared.steps.Step.{Step}
use Rattle.error_models.specs.declared.model.ErrorModel.{ErrorModel}
use Rattle.instantiator.specs.Whole.{effective_in}
use Rattle.event_rates.specs.Unused.{unused_rates}
use Rattle.stray_bindings.specs.Stray.{stray_bindings}
use Rattle.uneven_parts.specs.Quiet.{quiet_states}
use Rattle.uneven_parts.specs.TwoWays.{two_ways}
use Rattle.uneven_parts.specs.Unlike.{unlike_states}
use Rattle.unread_parts.specs.Root.{root_implementations}
use Rattle.unread_parts.specs.Unread.{unread_parts}
use Rattle.unread_parts.specs.declared.unread.What.TheVariants as what
use Rattle.propagation_links.specs.Unlinked.{unlinked_of}
use Rattle.propagation_links.specs.declared.link.Link.{Link}
use Rattle.propagation_links.specs.declared.link.PointAt.{PointAt}
use Rattle.model_facts.specs.Assembly.{model_at, points_in}
use Rattle.model_facts.specs.Facts.{inward_of, is_linked, outward_of}
use Rattle.fact_formulas.specs.Formulas.{end_of}
use Rattle.model_review.specs.Seen.{Seen, declared_for, is_always, is_lost_event, is_lost_fact, is_used, may_come, number_at, side_in, source_number, state_number, states_of, stops, types_in}
use Rattle.model_review.specs.declared.finding.Finding.{Finding}
use Rattle.model_review.specs.declared.finding.Finding.TheVariants.{Always, AlwaysState, CoreRate, Dry, GoesNowhere, HiddenLink, HiddenPath, HiddenSource, HiddenTransitions, InModes, Never, NeverState, NoLink, NoSource, NotDeclared, Open, Quiet, SinkLeaves, StopsHere, StrayPath, StrayRate, TwoWays, TypeRoot, Unlike, UnreadBinding, UnusedState}
use Rattle.model_review.specs.declared.finding.TypesAt.{TypesAt}

-- types at a side
abbrev pub types_at : PointAt → List ℕ → TypesAt
types_at side types = record { side = side; types = types }

-- what is told of some types, if there are any
abbrev pub if_any : (List ℕ → Finding) → List ℕ → List Finding
if_any tells types = cond (length types == 0) [] (tells types ∷ [])

-- the types of a side of which a test holds
abbrev pub types_where : Seen → PointAt → (ℕ → Bool) → List ℕ
types_where seen side test = filter test (types_in seen side)

-- what is told of each component, one after the other
abbrev pub of_components : Seen → (ℕ → ErrorModel → List Finding) → List Finding
of_components seen tells = numbered_from (λ owner component. tells owner (model_at seen.numbered.assembly owner)) 0 seen.numbered.assembly.instance.components

-- ---- hidden sources and paths

-- Whether what a flow of a component says of a type that it covers has no effect: its event, its state, or a type that may enter
-- where it begins may come about, and does not make the fact hold by itself, also not by way of the states of the component.
abbrev pub is_hidden_flow : Seen → List ℕ → ℕ → ℕ → ℕ → ℕ → FlowMeaning → Bool
is_hidden_flow seen among owner number type target (flow.Event name reached) = covers reached.types type && is_lost_event seen target (source_number seen owner number)
is_hidden_flow seen among owner number type target (flow.State held reached) =
    covers reached.types type && list_any (λ state. is_lost_fact seen among target (state_number seen owner state)) (held_numbers held)
is_hidden_flow seen among owner number type target (flow.Carry start end) =
    covers start.types type && is_lost_fact seen among target (number_at seen (inward_of owner start.point) type)
is_hidden_flow seen among owner number type target (flow.Change start end types) =
    is_number_in types type && list_any (λ other. covers start.types other && is_lost_fact seen among target (number_at seen (inward_of owner start.point) other)) (types_in seen (inward_of owner start.point))

-- the types that a flow covers without effect
abbrev pub hidden_types : Seen → List ℕ → ℕ → ℕ → FlowMeaning → List ℕ
hidden_types seen among owner number flow =
    types_where seen (outward_of owner (end_of flow)) (λ type. option_map_or (λ target. is_hidden_flow seen among owner number type target flow) (number_at seen (outward_of owner (end_of flow)) type) false)

-- whether a flow is a path
abbrev pub is_path : FlowMeaning → Bool
is_path (flow.Event name reached) = false
is_path (flow.State held reached) = false
is_path (flow.Carry start end) = true
is_path (flow.Change start end types) = true

-- A source is told with the types that it covers without effect, if there are any.
abbrev pub hidden_source : Seen → List ℕ → ℕ → ℕ → FlowMeaning → List Finding
hidden_source seen among owner number flow =
    cond (is_path flow) [] (if_any (λ types. HiddenSource owner number (types_at (outward_of owner (end_of flow)) types)) (hidden_types seen among owner number flow))

-- A path is told so.
abbrev pub hidden_path : Seen → List ℕ → ℕ → ℕ → FlowMeaning → List Finding
hidden_path seen among owner number flow =
    cond (is_path flow) (if_any (λ types. HiddenPath owner number (types_at (outward_of owner (end_of flow)) types)) (hidden_types seen among owner number flow)) []

-- a flow, where paths are told, or sources
abbrev pub hidden_flow : Bool → Seen → List ℕ → ℕ → ℕ → FlowMeaning → List Finding
hidden_flow paths seen among owner number flow = cond paths (hidden_path seen among owner number flow) (hidden_source seen among owner number flow)

-- the sources or the paths of a component
abbrev pub hidden_flows : Bool → Seen → ℕ → ErrorModel → List Finding
hidden_flows paths seen owner model = numbered_from (hidden_flow paths seen (states_of seen owner) owner) 0 model.flows

-- ---- hidden links

-- whether what a link brings of a type to an outward side has no effect there, also not by way of these
abbrev pub is_hidden_link : Seen → List ℕ → Link → ℕ → Bool
is_hidden_link seen among link type = option_map_or (λ target. is_lost_fact seen among target (number_at seen link.from type)) (number_at seen link.to type) false

-- the types that a link brings without effect
abbrev pub hidden_along : Seen → List ℕ → Link → List ℕ
hidden_along seen among link = types_where seen link.to (is_hidden_link seen among link)

-- A link to an outward side is told with the types that it brings without effect, if there are any.
abbrev pub hidden_link : Seen → Link → List Finding
hidden_link seen link = cond link.to.outward (if_any (λ types. HiddenLink link.from (types_at link.to types)) (hidden_along seen (states_of seen link.to.component) link)) []

-- ---- hidden transitions

-- whether a transition leads to a state that is not initial
abbrev pub leads_on : ErrorModel → Step → Bool
leads_on model step = list_any (λ target. not (slice_index_or model.states.always target false)) step.targets

-- how many transitions lead to states that are not initial
abbrev pub count_steps : ErrorModel → ℕ
count_steps model = length (filter (leads_on model) model.behavior.steps)

-- A component that has clauses of composite states is told with the number of its transitions, if it has any.
abbrev pub hidden_transitions : ℕ → ErrorModel → List Finding
hidden_transitions owner model = cond (model.is_composite && not (count_steps model == 0)) (HiddenTransitions owner (count_steps model) ∷ []) []

-- ---- types that are not declared

-- the types that may come along a link, and are not among these
abbrev pub others_along : Seen → Link → List ℕ → List ℕ
others_along seen link declared = types_where seen link.from (λ type. may_come seen (number_at seen link.from type) && not (is_number_in declared type))

-- A link to a side with declared types is told with those that may come along it and are not declared there, if there are any.
abbrev pub not_declared : Seen → Link → List Finding
not_declared seen link =
    option_map_or (λ declared. if_any (λ types. NotDeclared (types_at link.from types) link.to) (others_along seen link declared)) (declared_for (side_in seen link.to)) []

-- ---- where errors stop

-- whether a flow is a sink that names the point of a name
abbrev pub is_sink_at : List ℕ → FlowKind → Bool
is_sink_at name (kind.Source point set state) = false
is_sink_at name (kind.Sink point set) = option_map_or (λ other. is_same_text other name) (only point.names) false
is_sink_at name (kind.Path from from_set to to_set mapping) = false

-- whether a sink of a component names a point
abbrev pub has_sink : Seen → ℕ → Point → Bool
has_sink seen owner point = list_any (λ flow. is_sink_at point.name flow.item.kind) (effective_in seen.numbered.assembly.instance owner).propagations.flows

-- Whether a path takes a type that comes in at a point to a type of the side at its end: one that carries each type to this type, and
-- one that makes types to one of those.
abbrev pub takes : Seen → ℕ → ℕ → ℕ → FlowMeaning → Bool
takes seen owner number type (flow.Event name reached) = false
takes seen owner number type (flow.State held reached) = false
takes seen owner number type (flow.Carry start end) =
    (nat_eq start.point number && covers start.types type) && is_number_in (types_in seen (outward_of owner end)) type
takes seen owner number type (flow.Change start end types) =
    (nat_eq start.point number && covers start.types type) && list_any (is_number_in types) (types_in seen (outward_of owner end))

-- whether a type may come in at a point, occurs in no formula, and is taken by no path
abbrev pub is_stopped : Seen → ℕ → ℕ → ℕ → Bool
is_stopped seen owner number type =
    stops seen (number_at seen (inward_of owner number) type) && not (list_any (takes seen owner number type) (model_at seen.numbered.assembly owner).flows)

-- A point without a sink is told with the types that stop there, if there are any.
abbrev pub stop_at : Seen → ℕ → ℕ → Point → List Finding
stop_at seen owner number point =
    cond (has_sink seen owner point) [] (if_any (λ types. StopsHere (types_at (inward_of owner number) types)) (types_where seen (inward_of owner number) (is_stopped seen owner number)))

abbrev pub stops_of : Seen → ℕ → ErrorModel → List Finding
stops_of seen owner model = numbered_from (stop_at seen owner) 0 model.points

-- ---- what the sinks of a point leave

-- whether a sink takes a type that comes in at a point
abbrev pub sink_takes : ℕ → ℕ → ReachedPoint → Bool
sink_takes number type sink = nat_eq sink.point number && covers sink.types type

-- whether a type stops at a point, and no sink takes it there
abbrev pub is_left : Seen → ℕ → ℕ → ℕ → Bool
is_left seen owner number type =
    is_stopped seen owner number type && not (list_any (sink_takes number type) (model_at seen.numbered.assembly owner).sinks)

-- A point that a sink names is told with the types that stop there and that no sink takes there, if there are any.
abbrev pub leave_at : Seen → ℕ → ℕ → Point → List Finding
leave_at seen owner number point =
    cond (has_sink seen owner point) (if_any (λ types. SinkLeaves (types_at (inward_of owner number) types)) (types_where seen (inward_of owner number) (is_left seen owner number))) []

abbrev pub leaves_of : Seen → ℕ → ErrorModel → List Finding
leaves_of seen owner model = numbered_from (leave_at seen owner) 0 model.points

-- What is told of where errors stop: the points without a sink, and then those with one.
abbrev pub stops_told : Seen → List Finding
stops_told seen = of_components seen (stops_of seen) ++ of_components seen (leaves_of seen)

-- ---- what comes out and leads nowhere

-- the types that may come out of a side, and occur in no formula
abbrev pub lost_types : Seen → PointAt → List ℕ
lost_types seen side = types_where seen side (λ type. stops seen (number_at seen side type))

-- these types at a side, if there are any
abbrev pub nowhere_with : Seen → PointAt → List Finding
nowhere_with seen side = if_any (λ types. GoesNowhere (types_at side types)) (lost_types seen side)

-- A point of a part is told with the types that may come out of it and occur in no formula, if there are any.
abbrev pub nowhere_at : Seen → ℕ → ℕ → Point → List Finding
nowhere_at seen owner number point = cond (owner == 0) [] (nowhere_with seen (outward_of owner number))

abbrev pub nowhere_out : Seen → ℕ → ErrorModel → List Finding
nowhere_out seen owner model = numbered_from (nowhere_at seen owner) 0 model.points

-- ---- connections and user paths without a link

-- Each connection and each user path is told that gives no link, where types are declared for a point that it names.
abbrev pub no_links : Seen → List Finding
no_links seen = map NoLink (unlinked_of seen.numbered.assembly.instance (points_in seen.numbered.assembly.models))

-- the same, and then each link by which a side leads to a further side of a component to which it leads already
abbrev pub ways_told : Seen → List Finding
ways_told seen = no_links seen ++ map TwoWays (two_ways seen.numbered.assembly.links)

-- ---- open ends

-- A point is told with the types that are declared for its inward side, if no link leads there.
abbrev pub open_at : Seen → ℕ → ℕ → Point → List Finding
open_at seen owner number point =
    cond (is_linked seen.numbered.assembly.links (inward_of owner number)) [] (option_map_or (λ types. if_any (λ types. Open (types_at (inward_of owner number) types)) types) (declared_for point.inward) [])

abbrev pub open_ends : Seen → ℕ → ErrorModel → List Finding
open_ends seen owner model = numbered_from (open_at seen owner) 0 model.points

-- ---- sides to which nothing comes

-- these types at a side, if there are any, and none of them may come there
abbrev pub dry_with : Seen → PointAt → List ℕ → List Finding
dry_with seen side types =
    cond (list_any (λ type. may_come seen (number_at seen side type)) types) [] (if_any (λ types. Dry (types_at side types)) types)

-- A point is told with the types that are declared for its inward side, if a link leads there, and none of them may come.
abbrev pub dry_at : Seen → ℕ → ℕ → Point → List Finding
dry_at seen owner number point =
    cond (is_linked seen.numbered.assembly.links (inward_of owner number)) (option_map_or (dry_with seen (inward_of owner number)) (declared_for point.inward) []) []

abbrev pub dry_sides : Seen → ℕ → ErrorModel → List Finding
dry_sides seen owner model = numbered_from (dry_at seen owner) 0 model.points

-- ---- sides without a source

-- whether a side is one for which no types are declared
abbrev pub is_free : Side → Bool
is_free Absent = false
is_free Free = true
is_free (Declared types) = false

-- whether types are declared for a side
abbrev pub has_types : Seen → PointAt → Bool
has_types seen side = option_map_or (λ types. true) (declared_for (side_in seen side)) false

-- a link, turned round
abbrev pub turned : Link → Link
turned link = record { from = link.to; to = link.from }

-- the links that lead to sides with declared types, or those that lead to sides without, turned round
abbrev pub turned_links : Seen → Bool → List Link
turned_links seen declared = map turned (filter (λ link. beq (has_types seen link.to) declared) seen.numbered.assembly.links)

-- whether a link leads from a side to one with declared types, or to one without
abbrev pub leads_to : Seen → Bool → PointAt → Bool
leads_to seen declared side = is_linked (turned_links seen declared) side

-- whether a type that may be at a side occurs there in a formula
abbrev pub is_used_side : Seen → PointAt → Bool
is_used_side seen side = list_any (λ type. is_used seen (number_at seen side type)) (types_in seen side)

-- Whether something looks at a side: a link leads from it to one with declared types; or it occurs in a formula, and no link leads from it to
-- one without.
abbrev pub is_asked : Seen → PointAt → Bool
is_asked seen side = leads_to seen true side || (not (leads_to seen false side) && is_used_side seen side)

-- A point is told if no types are declared for its inward side, no link leads there, and something looks at it.
abbrev pub no_source_at : Seen → ℕ → ℕ → Point → List Finding
no_source_at seen owner number point =
    cond ((is_free point.inward && not (is_linked seen.numbered.assembly.links (inward_of owner number))) && is_asked seen (inward_of owner number)) (NoSource (inward_of owner number) ∷ []) []

abbrev pub no_sources : Seen → ℕ → ErrorModel → List Finding
no_sources seen owner model = numbered_from (no_source_at seen owner) 0 model.points

-- ---- what never comes about

-- A point is told with the types that are declared for its outward side and never come out, if there are any.
abbrev pub never_at : Seen → ℕ → ℕ → Point → List Finding
never_at seen owner number point =
    option_map_or (λ types. if_any (λ types. Never (types_at (outward_of owner number) types)) (filter (λ type. not (may_come seen (number_at seen (outward_of owner number) type))) types)) (declared_for point.outward) []

abbrev pub never_out : Seen → ℕ → ErrorModel → List Finding
never_out seen owner model = numbered_from (never_at seen owner) 0 model.points

-- whether a state of the root is not initial, and it is never in it
abbrev pub is_never : Seen → ErrorModel → ℕ → Bool
is_never seen model state = not (slice_index_or model.states.always state false) && not (may_come seen (state_number seen 0 state))

-- a state of the root, if it is not initial, and the root is never in it
abbrev pub never_state : Seen → ErrorModel → ℕ → List Finding
never_state seen model state = cond (is_never seen model state) (NeverState state ∷ []) []

-- the states of the root that are not initial, and in which it never is
abbrev pub never_states : Seen → ErrorModel → List Finding
never_states seen model = flat_map (never_state seen model) (numbers_below (length (all_variants model.states.sorts)))

-- ---- what always holds

-- the types that come out of a side where no event occurs
abbrev pub always_types : Seen → PointAt → List ℕ
always_types seen side = types_where seen side (λ type. is_always seen (number_at seen side type))

-- these types at a side, if there are any
abbrev pub always_with : Seen → PointAt → List Finding
always_with seen side = if_any (λ types. Always (types_at side types)) (always_types seen side)

-- A point is told with the types that come out of it where no event occurs, if there are any.
abbrev pub always_at : Seen → ℕ → ℕ → Point → List Finding
always_at seen owner number point = always_with seen (outward_of owner number)

abbrev pub always_out : Seen → ℕ → ErrorModel → List Finding
always_out seen owner model = numbered_from (always_at seen owner) 0 model.points

-- whether a state of a component is not initial, and the component is in it where no event occurs
abbrev pub is_always_state : Seen → ℕ → ErrorModel → ℕ → Bool
is_always_state seen owner model state = not (slice_index_or model.states.always state false) && is_always seen (state_number seen owner state)

-- a state of a component, if it is one
abbrev pub always_state : Seen → ℕ → ErrorModel → ℕ → List Finding
always_state seen owner model state = cond (is_always_state seen owner model state) (AlwaysState owner state ∷ []) []

-- those of a component
abbrev pub always_states : Seen → ℕ → ErrorModel → List Finding
always_states seen owner model = flat_map (always_state seen owner model) (numbers_below (length (all_variants model.states.sorts)))

-- What is told of what holds where no event occurs: at the outward sides of points, and of states that are not initial.
abbrev pub always_told : Seen → List Finding
always_told seen = of_components seen (always_out seen) ++ of_components seen (always_states seen)

-- ---- states that nothing looks at

-- whether a component that is not the root may be in a state that is not initial, and the state occurs in no formula
abbrev pub is_unused_state : Seen → ℕ → ErrorModel → ℕ → Bool
is_unused_state seen owner model state = (not (owner == 0) && not (slice_index_or model.states.always state false)) && stops seen (state_number seen owner state)

-- a state of a component, if it is one
abbrev pub unused_state : Seen → ℕ → ErrorModel → ℕ → List Finding
unused_state seen owner model state = cond (is_unused_state seen owner model state) (UnusedState owner state ∷ []) []

-- those of a component
abbrev pub unused_states : Seen → ℕ → ErrorModel → List Finding
unused_states seen owner model = flat_map (unused_state seen owner model) (numbers_below (length (all_variants model.states.sorts)))

-- ---- states

-- What is told of states of parts that do not occur in a formula of the component around them, though the same state of a part of the same kind does,
-- and of states that give nothing at an outward side of their component, though they give something at another one.
abbrev pub uneven_told : Seen → List Finding
uneven_told seen =
    map Unlike (unlike_states seen.numbered.assembly.instance seen.system seen.numbered.facts)
    ++ map Quiet (quiet_states seen.numbered.assembly seen.system seen.numbered.facts)

-- What is told of states: those of the root in which it never is, behind them what always holds, those of parts that occur in no formula, and those
-- that are used otherwise than others.
abbrev pub states_told : Seen → List Finding
states_told seen =
    never_states seen (model_at seen.numbered.assembly 0)
    ++ (always_told seen
    ++ (of_components seen (unused_states seen)
    ++ uneven_told seen))

-- ---- text that is not looked at

-- What is told of bindings: those that the profile of the model does not read, and the paths in those that it reads which lead to nothing.
abbrev pub bindings_told : Seen → List Finding
bindings_told seen =
    map UnreadBinding (unread_parts (what.Unread seen.numbered.assembly.types.profile) seen.numbered.assembly.instance)
    ++ map StrayPath (stray_bindings seen.numbered.assembly.types.profile seen.numbered.assembly.instance)

-- What is told of rates: those in error model text that are said of no event, and those in core text, which count for no event.
abbrev pub rates_told : Seen → List Finding
rates_told seen =
    map StrayRate (unused_rates seen.numbered.assembly.types.profile seen.numbered.assembly.instance seen.system.events)
    ++ map CoreRate (unread_parts what.Rates seen.numbered.assembly.instance)

-- What is told of the text: what stands in modes, bindings, rates, and the implementations of a root that is a component type.
abbrev pub text_findings : Seen → List Finding
text_findings seen =
    map InModes (unread_parts what.InModes seen.numbered.assembly.instance)
    ++ (bindings_told seen
    ++ (rates_told seen
    ++ map TypeRoot (root_implementations seen.numbered.assembly.instance)))

-- ---- in order

-- What is told of a model but for its loops and its events, in this order: what is hidden, where errors stop, what never comes
-- about, states that nothing looks at, and text that is not looked at.
abbrev pub model_findings : Seen → List Finding
model_findings seen =
    of_components seen (hidden_flows false seen)
    ++ (of_components seen (hidden_flows true seen)
    ++ (flat_map (hidden_link seen) seen.numbered.assembly.links
    ++ (of_components seen hidden_transitions
    ++ (flat_map (not_declared seen) seen.numbered.assembly.links
    ++ (stops_told seen
    ++ (of_components seen (nowhere_out seen)
    ++ (ways_told seen
    ++ (of_components seen (open_ends seen)
    ++ (of_components seen (dry_sides seen)
    ++ (of_components seen (no_sources seen)
    ++ (of_components seen (never_out seen)
    ++ (states_told seen
    ++ text_findings seen))))))))))))
