-- The names of facts and of events.
use Rattle.std.specs.Prelude.{ℕ, List, [], ◌∷◌, ◌++◌, codes, flat_map, slice_get, Option, Some, None}
use Rattle.std.specs.Option.{option_map_or}
use Rattle.error_libraries.specs.Libraries.{Table}
use Rattle.error_libraries.specs.Printed.{name_of, printed}
use Rattle.propagation_points.specs.States.{Sort, Variant, all_variants}
use Rattle.error_flows.specs.declared.meaning.FlowMeaning.{FlowMeaning}
use Rattle.error_flows.specs.declared.meaning.FlowMeaning.TheVariants as flow
use Rattle.error_models.specs.declared.model.ErrorModel.{ErrorModel}
use Rattle.model_facts.specs.Assembly.{Assembly, model_at}
use Rattle.model_facts.specs.declared.keys.EventKey.{EventKey}
use Rattle.model_facts.specs.declared.keys.EventKind.{EventKind}
use Rattle.model_facts.specs.declared.keys.EventKind.TheVariants.{Declared, Source, Arrival}
use Rattle.model_facts.specs.declared.keys.FactKey.{FactKey}
use Rattle.model_facts.specs.declared.keys.FactKind.{FactKind}
use Rattle.model_facts.specs.declared.keys.FactKind.TheVariants.{State, Enters, Exits}

-- ---- parts of names

-- the name of a component: `root`, and each name of its path behind a dot
abbrev pub path_text : List (List ℕ) → List ℕ
path_text path = codes "root" ++ flat_map (λ name. codes "." ++ name) path

-- the path of the component of a number
abbrev pub path_at : Assembly → ℕ → List (List ℕ)
path_at assembly number = option_map_or (λ component. component.path) (slice_get assembly.instance.components number) []

-- the name of the point of a number of a model
abbrev pub point_name : ErrorModel → ℕ → List ℕ
point_name model number = option_map_or (λ point. point.name) (slice_get model.points number) []

-- how the type of a number prints
abbrev pub type_text : Table → ℕ → List ℕ
type_text types number = option_map_or printed (name_of types number) []

-- the name of the type of a number alone
abbrev pub type_name : Table → ℕ → List ℕ
type_name types number = option_map_or (λ name. name.name) (name_of types number) []

-- a type in braces: `{lib::t}`
abbrev pub in_braces : Table → ℕ → List ℕ
in_braces types type = codes "{" ++ (type_text types type ++ codes "}")

-- the name of a variant: `s`, or with its type `s{lib::t}`
abbrev pub variant_text : Table → Variant → List ℕ
variant_text types variant = variant.name ++ option_map_or (in_braces types) variant.type []

-- the name of the variant of a number
abbrev pub variant_name : Table → List Sort → ℕ → List ℕ
variant_name types sorts number = option_map_or (variant_text types) (slice_get (all_variants sorts) number) []

-- the name of the state or the event of which the variant of a number is one
abbrev pub bare_name : List Sort → ℕ → List ℕ
bare_name sorts number = option_map_or (λ variant. variant.name) (slice_get (all_variants sorts) number) []

-- a type at a point: `p{lib::t}`
abbrev pub at_point : Table → ErrorModel → ℕ → ℕ → List ℕ
at_point types model point type = point_name model point ++ in_braces types type

-- the name of a flow, where it is a source without a state
abbrev pub source_name : Option FlowMeaning → List ℕ
source_name None = []
source_name (Some (flow.Event name reached)) = name
source_name (Some (flow.State state reached)) = []
source_name (Some (flow.Carry start point)) = []
source_name (Some (flow.Change start point types)) = []

-- ---- names

-- a name of a component's own, behind the component's name
abbrev pub behind : Assembly → ℕ → List ℕ → List ℕ
behind assembly owner text = path_text (path_at assembly owner) ++ (codes "/" ++ text)

-- what a fact of a component with this model is called there: `state:s`, `state:s{lib::t}`, `in:p{lib::t}` or `out:p{lib::t}`
abbrev pub own_fact_name : Table → ErrorModel → FactKind → List ℕ
own_fact_name types model (State state) = codes "state:" ++ variant_name types model.states.sorts state
own_fact_name types model (Enters point type) = codes "in:" ++ at_point types model point type
own_fact_name types model (Exits point type) = codes "out:" ++ at_point types model point type

-- The name of a fact: that of its component, a slash, and what it is called there.
abbrev pub fact_name : Assembly → FactKey → List ℕ
fact_name assembly fact = behind assembly fact.owner (own_fact_name assembly.types (model_at assembly fact.owner) fact.kind)

-- what an event of a component with this model is called there: `e`, `e{lib::t}`, `source:f` or `in:p{lib::t}`
abbrev pub own_event_name : Table → ErrorModel → EventKind → List ℕ
own_event_name types model (Declared event) = variant_name types model.behavior.events event
own_event_name types model (Source number) = codes "source:" ++ source_name (slice_get model.flows number)
own_event_name types model (Arrival point type) = codes "in:" ++ at_point types model point type

-- The name of an event: that of its component, a slash, and what it is called there.
abbrev pub event_name : Assembly → EventKey → List ℕ
event_name assembly event = behind assembly event.owner (own_event_name assembly.types (model_at assembly event.owner) event.kind)

-- by what rates of an event are found: its name, that of its flow, or its point and its type
abbrev pub own_event_key : Table → ErrorModel → EventKind → List (List ℕ)
own_event_key types model (Declared event) = bare_name model.behavior.events event ∷ []
own_event_key types model (Source number) = source_name (slice_get model.flows number) ∷ []
own_event_key types model (Arrival point type) = point_name model point ∷ type_name types type ∷ []

-- By what rates of an event are found.
abbrev pub event_key : Assembly → EventKey → List (List ℕ)
event_key assembly event = own_event_key assembly.types (model_at assembly event.owner) event.kind
