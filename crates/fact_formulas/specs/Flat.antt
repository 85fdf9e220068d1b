-- A model as a system of facts and events, and when it is too large.
use Rattle.std.specs.Prelude.{ℕ, ◌+◌, Bool, false, nat_eq, nat_lt, map, slice_get, sum, Option}
use Rattle.std.specs.Option.{option_map_or, option_or}
use Rattle.plain_values.specs.declared.refusal.Code.TheVariants.{TooManyPlaces}
use Rattle.plain_values.specs.declared.refusal.Place.TheVariants.{Words}
use Rattle.plain_values.specs.declared.refusal.Refusal.{Refusal}
use Rattle.plain_values.specs.Refusal.{over_limit}
use Rattle.model_facts.specs.Assembly.{Assembly}
use Rattle.model_facts.specs.Limits.{events_refusal, facts_refusal}
use Rattle.model_facts.specs.Names.{event_key, event_name, fact_name}
use Rattle.model_facts.specs.declared.keys.EventKey.{EventKey}
use Rattle.model_facts.specs.declared.keys.FactKey.{FactKey}
use Rattle.fault_system.specs.Systems.{System}
use Rattle.fault_system.specs.declared.formula.EventInfo.{EventInfo}
use Rattle.fault_system.specs.declared.formula.FactInfo.{FactInfo}
use Rattle.fault_system.specs.declared.formula.Formula.{Formula, fold-Formula}
use Rattle.fault_system.specs.declared.formula.Formula.TheOpen.{Formula-F, True, Event, Fact, And, Or, AtLeast}
use Rattle.fact_formulas.specs.Numbered.{Numbered, numbered_of}
use Rattle.fact_formulas.specs.Facts.{meaning_of}

-- a fact with its name and what makes it hold
abbrev pub fact_info : Numbered → FactKey → FactInfo
fact_info numbered fact = record { name = fact_name numbered.assembly fact; owner = fact.owner; formula = meaning_of numbered fact }

-- an event with its name
abbrev pub event_info : Assembly → EventKey → EventInfo
event_info assembly event = record { name = event_name assembly event; owner = event.owner; key = event_key assembly event }

-- the system of a model whose facts and events are numbered
abbrev pub system_by : Numbered → System
system_by numbered = record { facts = map (fact_info numbered) numbered.facts; events = map (event_info numbered.assembly) numbered.events }

-- The system of a model: its facts, each with its formula, and its events.
abbrev pub system_of : Assembly → System
system_of assembly = system_by (numbered_of assembly)

-- ---- places

-- one formula, with the number of places of each part in its place
abbrev pub places_step : Formula-F ℕ → ℕ
places_step True = 1
places_step (Event number) = 1
places_step (Fact number) = 1
places_step (And parts) = 1 + sum parts
places_step (Or parts) = 1 + sum parts
places_step (AtLeast least parts) = 1 + sum parts

-- how many places a formula has: itself and those of its parts
abbrev pub places : Formula → ℕ
places = fold-Formula ℕ places_step

-- how many places all formulas of a model have
abbrev pub all_places : Numbered → ℕ
all_places numbered = sum (map (λ fact. places (meaning_of numbered fact)) numbered.facts)

-- how many places there may be
abbrev pub most_places : ℕ
most_places = 4194304

-- M9 where the formulas of a model have too many places
abbrev pub places_refusal : Numbered → Option Refusal
places_refusal numbered = over_limit (nat_lt most_places (all_places numbered)) TooManyPlaces Words

-- The refusal of a model that is too large: M6, or else M7, or else M9.
abbrev pub size_refusal : Assembly → Option Refusal
size_refusal assembly = option_or (facts_refusal assembly) (option_or (events_refusal assembly) (places_refusal (numbered_of assembly)))

-- whether a fact is one of the root, which is the component of the number 0
abbrev pub is_of_root : System → ℕ → Bool
is_of_root system number = option_map_or (λ fact. nat_eq fact.owner 0) (slice_get system.facts number) false
