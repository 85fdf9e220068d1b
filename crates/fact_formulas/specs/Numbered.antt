-- A model whose facts and events are numbered, and one of its components.
use Rattle.std.specs.Prelude.{ℕ, false, List, [], filter, map, slice_get}
use Rattle.std.specs.Option.{option_map_or}
use Rattle.propagation_points.specs.declared.side.Side.{Side}
use Rattle.propagation_points.specs.declared.side.Side.TheVariants.{Absent}
use Rattle.propagation_points.specs.declared.uses.ReachedPoint.{ReachedPoint}
use Rattle.propagation_points.specs.Points.{side_of}
use Rattle.propagation_points.specs.Uses.{covers, side_types}
use Rattle.error_models.specs.declared.model.ErrorModel.{ErrorModel}
use Rattle.model_facts.specs.Assembly.{Assembly, model_at, universe_of}
use Rattle.model_facts.specs.Facts.{event_in, event_number, events_of, fact_in, fact_number, facts_of}
use Rattle.model_facts.specs.declared.keys.EventKey.{EventKey}
use Rattle.model_facts.specs.declared.keys.EventKind.{EventKind}
use Rattle.model_facts.specs.declared.keys.FactKey.{FactKey}
use Rattle.model_facts.specs.declared.keys.FactKind.{FactKind}
use Rattle.model_facts.specs.declared.keys.FactKind.TheVariants.{Enters}
use Rattle.fault_system.specs.declared.formula.Formula.{Formula}
use Rattle.fault_system.specs.declared.formula.Formula.TheVariants.{Event, Fact, Or}

-- A model, its universe, and its facts and events in order.
pub record Numbered : Type 0 where
  pub assembly : Assembly
  pub universe : List ℕ
  pub facts : List FactKey
  pub events : List EventKey

-- a model with the facts and events that it has by this universe
abbrev pub numbered_by : Assembly → List ℕ → Numbered
numbered_by assembly universe = record { assembly = assembly; universe = universe; facts = facts_of assembly universe; events = events_of assembly }

-- a model with its facts and events
abbrev pub numbered_of : Assembly → Numbered
numbered_of assembly = numbered_by assembly (universe_of assembly)

-- A component of a model: its number, and its error model.
pub record Site : Type 0 where
  pub numbered : Numbered
  pub owner : ℕ
  pub model : ErrorModel

-- the component of a number
abbrev pub site_of : Numbered → ℕ → Site
site_of numbered owner = record { numbered = numbered; owner = owner; model = model_at numbered.assembly owner }

-- ---- facts and events

-- that a fact holds; what is no fact never does
abbrev pub fact_formula : Numbered → FactKey → Formula
fact_formula numbered fact = option_map_or Fact (fact_number numbered.facts fact) (Or [])

-- that an event occurs; what is no event never does
abbrev pub event_formula : Numbered → EventKey → Formula
event_formula numbered event = option_map_or Event (event_number numbered.events event) (Or [])

-- that a fact of a component holds
abbrev pub own_fact : Site → FactKind → Formula
own_fact site kind = fact_formula site.numbered (fact_in site.owner kind)

-- that an event of a component occurs
abbrev pub own_event : Site → EventKind → Formula
own_event site kind = event_formula site.numbered (event_in site.owner kind)

-- ---- points

-- the inward side of a point of a model; what is no point has none
abbrev pub inward_side : ErrorModel → ℕ → Side
inward_side model point = option_map_or (side_of false) (slice_get model.points point) Absent

-- the types that may be at the inward side of a point
abbrev pub inward_types : Site → ℕ → List ℕ
inward_types site point = side_types site.numbered.universe (inward_side site.model point)

-- the types that are reached at the inward side of a point
abbrev pub reached_inward : Site → ReachedPoint → List ℕ
reached_inward site reached = filter (covers reached.types) (inward_types site reached.point)

-- that a type enters at a point
abbrev pub entering : Site → ℕ → ℕ → Formula
entering site point type = own_fact site (Enters point type)

-- that one of the types that are reached enters there
abbrev pub some_entering : Site → ReachedPoint → Formula
some_entering site reached = Or (map (entering site reached.point) (reached_inward site reached))
