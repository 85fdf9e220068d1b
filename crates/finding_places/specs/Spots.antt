-- Where that stands which a line of a review names.
use Rattle.std.specs.Prelude.{ℕ, cond, List, Option, Some, option_and_then, option_map, slice_get}
use Rattle.plain_values.specs.declared.spot.Spot.{Spot}
use Rattle.package_index.specs.Lookup.{decl_of}
use Rattle.component_extension.specs.declared.effective.Effective.{Effective}
use Rattle.instantiator.specs.Whole.{Instance, classifier_at, effective_in}
use Rattle.propagation_links.specs.declared.unlinked.Unlinked.{Unlinked}
use Rattle.model_facts.specs.Assembly.{Assembly}
use Rattle.fact_formulas.specs.Numbered.{Numbered}
use Rattle.event_origins.specs.Origins.{origin_of}
use Rattle.event_origins.specs.Places.{fact_spot, side_spot, state_spot}
use Rattle.model_review.specs.Lines.{flow_at}
use Rattle.model_review.specs.declared.finding.Finding.{Finding}
use Rattle.model_review.specs.declared.finding.Finding.TheVariants.{Always, AlwaysState, CoreRate, Dry, GoesNowhere, HiddenLink, HiddenPath, HiddenSource, HiddenTransitions, InLoop, InModes, Never, NeverState, NoEffect, NoLink, NoSingle, NoSource, NotDeclared, Open, Quiet, SinkLeaves, StopsHere, StrayPath, StrayRate, TwoWays, TypeRoot, Unlike, UnreachedEvents, UnreadBinding, UnusedEvent, UnusedState}

-- ---- parts of a component

-- the source or path of a place among those of a component
abbrev pub flow_spot : Assembly → ℕ → ℕ → Option Spot
flow_spot assembly owner number = option_map (λ flow. flow.spot) (flow_at number (effective_in assembly.instance owner).propagations.flows)

-- the first clause of composite states of a component
abbrev pub clause_spot : Assembly → ℕ → Option Spot
clause_spot assembly owner = option_map (λ scoped. scoped.item.spot) (slice_get (effective_in assembly.instance owner).behavior.composites 0)

-- the connection of a place of a component, by its nearest declaration
abbrev pub connection_spot : Effective → ℕ → Option Spot
connection_spot effective number = option_map (λ member. member.nearest.item.spot) (slice_get effective.members.connections number)

-- the user path of a place of a component
abbrev pub user_path_spot : Effective → ℕ → Option Spot
user_path_spot effective number = option_map (λ path. path.item.spot) (slice_get effective.propagations.user_paths number)

-- a connection or a user path that gives no link
abbrev pub unlinked_spot : Assembly → Unlinked → Option Spot
unlinked_spot assembly one =
    cond one.is_path (user_path_spot (effective_in assembly.instance one.component) one.number) (connection_spot (effective_in assembly.instance one.component) one.number)

-- the classifier of a component
abbrev pub classifier_spot : Instance → ℕ → Option Spot
classifier_spot instance component = option_map (λ decl. decl.spot) (option_and_then (decl_of instance.packages) (classifier_at instance component))

-- ---- facts and events

-- of which the fact of a number is
abbrev pub numbered_fact_spot : Numbered → ℕ → Option Spot
numbered_fact_spot numbered fact = option_and_then (fact_spot numbered.assembly) (slice_get numbered.facts fact)

-- the declaration of the event of a number
abbrev pub numbered_event_spot : Numbered → ℕ → Option Spot
numbered_event_spot numbered event = option_and_then (λ key. (origin_of numbered.assembly key).spot) (slice_get numbered.events event)

-- the declaration of the first of some events
abbrev pub first_event_spot : Numbered → List ℕ → Option Spot
first_event_spot numbered events = option_and_then (numbered_event_spot numbered) (slice_get events 0)

-- ---- findings

-- Where that stands which a finding is about: a flow, the second side of a link, a side, the first clause of composite states, a connection or
-- a user path, a state, a member or a property, an implementation, the first fact of a loop, an event or the first of some, or the classifier of the
-- root.
abbrev pub finding_spot : Numbered → Finding → Option Spot
finding_spot numbered (HiddenSource owner number at) = flow_spot numbered.assembly owner number
finding_spot numbered (HiddenPath owner number at) = flow_spot numbered.assembly owner number
finding_spot numbered (HiddenLink from at) = side_spot numbered.assembly at.side
finding_spot numbered (HiddenTransitions owner count) = clause_spot numbered.assembly owner
finding_spot numbered (NotDeclared at to) = side_spot numbered.assembly to
finding_spot numbered (StopsHere at) = side_spot numbered.assembly at.side
finding_spot numbered (SinkLeaves at) = side_spot numbered.assembly at.side
finding_spot numbered (GoesNowhere at) = side_spot numbered.assembly at.side
finding_spot numbered (NoLink one) = unlinked_spot numbered.assembly one
finding_spot numbered (TwoWays link) = side_spot numbered.assembly link.to
finding_spot numbered (Open at) = side_spot numbered.assembly at.side
finding_spot numbered (Dry at) = side_spot numbered.assembly at.side
finding_spot numbered (NoSource side) = side_spot numbered.assembly side
finding_spot numbered (Never at) = side_spot numbered.assembly at.side
finding_spot numbered (NeverState state) = state_spot numbered.assembly 0 state
finding_spot numbered (Always at) = side_spot numbered.assembly at.side
finding_spot numbered (AlwaysState owner state) = state_spot numbered.assembly owner state
finding_spot numbered (UnusedState owner state) = state_spot numbered.assembly owner state
finding_spot numbered (Unlike one) = numbered_fact_spot numbered one.state
finding_spot numbered (Quiet one) = numbered_fact_spot numbered one.state
finding_spot numbered (InModes part) = Some part.spot
finding_spot numbered (UnreadBinding part) = Some part.spot
finding_spot numbered (StrayPath stray) = Some stray.spot
finding_spot numbered (StrayRate rate) = Some rate.spot
finding_spot numbered (CoreRate part) = Some part.spot
finding_spot numbered (TypeRoot one) = Some one.spot
finding_spot numbered (InLoop loop) = numbered_fact_spot numbered loop.first
finding_spot numbered (UnusedEvent event) = numbered_event_spot numbered event
finding_spot numbered (NoSingle event) = numbered_event_spot numbered event
finding_spot numbered NoEffect = classifier_spot numbered.assembly.instance 0
finding_spot numbered (UnreachedEvents events) = first_event_spot numbered events
