-- What the line of an event says in an FMEA sheet: what the event is, its rate, and what it makes hold alone.
use Rattle.std.specs.Prelude.{ℕ, ◌==◌, Bool, false, if◌then◌else◌, List, [], ◌∷◌, ◌++◌, codes, filter, slice_get, slice_index_or}
use Rattle.std.specs.List.{flat_map}
use Rattle.std.specs.Option.{option_map_or}
use Rattle.fault_system.specs.Truth.{NumberSet, set_of}
use Rattle.fault_system.specs.Systems.{System, event_name, fact_name}
use Rattle.property_reader.specs.declared.rate.Rate.{Rate}
use Rattle.property_reader.specs.declared.rate.RateKind.{RateKind}
use Rattle.property_reader.specs.declared.rate.RateKind.TheVariants.{Lambda, Prob}
use Rattle.fmea_rows.specs.Rows.{is_reached}
use Rattle.fmea_rows.specs.Text.{component_of, rate_of}
use Rattle.model_phases.specs.declared.flat.FlatModel.{FlatModel}
use Rattle.sheet_model.specs.declared.model.SheetModel.{SheetModel}
use Rattle.sheet_model.specs.declared.part.Part.{Part}

-- ---- what it is

-- the number of the component that has an event
abbrev pub event_owner : System → ℕ → ℕ
event_owner system event = option_map_or (λ info. info.owner) (slice_get system.events event) 0

-- nothing is known of a component that is not there
abbrev pub no_part : Part
no_part = record { category = []; classifier = []; next = [] }

-- what the component of an event is
abbrev pub part_with : SheetModel → ℕ → Part
part_with model event = slice_index_or model.parts (event_owner model.events.flat.system event) no_part

-- the fields on what an event is: its component, the category and the classifier of this, and its own name
abbrev pub event_fields : SheetModel → ℕ → List (List ℕ)
event_fields model event =
    component_of (event_name model.events.flat.system event) ∷ (part_with model event).category ∷ (part_with model event).classifier
    ∷ event_name model.events.flat.system event ∷ []

-- ---- its rate

-- the word of what the number of a rate is
abbrev pub kind_word : RateKind → List ℕ
kind_word Prob = codes "prob"
kind_word Lambda = codes "lambda"

-- the fields of a rate that a model gives: what its number is, and the number
abbrev pub given_fields : Rate → List (List ℕ)
given_fields rate = kind_word rate.kind ∷ rate.text ∷ []

-- the fields of a rate where a model gives none
abbrev pub no_rate_fields : List (List ℕ)
no_rate_fields = codes "none" ∷ [] ∷ []

-- the fields on the rate of an event
abbrev pub rate_fields : SheetModel → ℕ → List (List ℕ)
rate_fields model event = if slice_index_or model.rated event false then given_fields (rate_of model.events.flat.rates event) else no_rate_fields

-- ---- what it makes hold

-- the effects that an event reaches alone, in order: each holds under the event alone, and not without any event
abbrev pub reached_by : FlatModel → ℕ → List ℕ
reached_by model event = filter (is_reached model.system event) model.effects

-- whether a fact is of one of these components
abbrev pub is_of : NumberSet → System → ℕ → Bool
is_of components system fact = option_map_or (λ info. components info.owner) (slice_get system.facts fact) false

-- the facts among some that are of the component of an event
abbrev pub local_facts : SheetModel → ℕ → List ℕ → List ℕ
local_facts model event facts = filter (is_of (λ owner. owner == event_owner model.events.flat.system event) model.events.flat.system) facts

-- those that are of a component in which what goes wrong in that of the event is felt next
abbrev pub next_facts : SheetModel → ℕ → List ℕ → List ℕ
next_facts model event facts = filter (is_of (set_of (part_with model event).next) model.events.flat.system) facts

-- those that are of the root
abbrev pub end_facts : SheetModel → List ℕ → List ℕ
end_facts model facts = filter (is_of (λ owner. owner == 0) model.events.flat.system) facts

-- the names of facts with a blank between each two
abbrev pub names_text : System → List ℕ → List ℕ
names_text system [] = []
names_text system (fact ∷ facts) = fact_name system fact ++ flat_map (λ other. 32 ∷ fact_name system other) facts

-- the same, and words where there are none
abbrev pub end_text : System → List ℕ → List ℕ
end_text system [] = codes "none alone"
end_text system (fact ∷ facts) = names_text system (fact ∷ facts)

-- the fields on what an event makes hold that reaches these effects alone: what of it is of its own component, what is of a component in
-- which it is felt next, and what is of the root
abbrev pub effect_fields : SheetModel → ℕ → List ℕ → List (List ℕ)
effect_fields model event reached =
    names_text model.events.flat.system (local_facts model event reached) ∷ names_text model.events.flat.system (next_facts model event reached)
    ∷ end_text model.events.flat.system (end_facts model reached) ∷ []
