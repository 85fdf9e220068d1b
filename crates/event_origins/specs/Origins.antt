-- Of which kind each event of a model is, and where its declaration stands.
use Rattle.std.specs.Prelude.{ℕ, List, [], ◌∷◌, Option, None, option_and_then}
use Rattle.plain_values.specs.declared.spot.Spot.{Spot}
use Rattle.instantiator.specs.Whole.{Instance, classifier_at}
use Rattle.model_facts.specs.Assembly.{Assembly}
use Rattle.model_facts.specs.Names.{event_key}
use Rattle.model_facts.specs.declared.keys.EventKey.{EventKey}
use Rattle.model_facts.specs.declared.keys.EventKind.{EventKind}
use Rattle.model_facts.specs.declared.keys.EventKind.TheVariants.{Declared, Source as SourceAt, Arrival}
use Rattle.event_origins.specs.declared.kinds.Declarations.{Declarations}
use Rattle.event_origins.specs.declared.origin.EventOrigin.{EventOrigin}
use Rattle.event_origins.specs.declared.origin.OriginKind.{OriginKind}
use Rattle.event_origins.specs.declared.origin.OriginKind.TheVariants.{Error, Source, External}
use Rattle.event_origins.specs.Named.{spot_named}
use Rattle.event_origins.specs.Declarations.{declarations_of}

-- of which kind an event is
abbrev pub kind_of : EventKind → OriginKind
kind_of (Declared number) = Error
kind_of (SourceAt number) = Source
kind_of (Arrival point type) = External

-- where the first declaration of an event of this name stands, among those of its component
abbrev pub named_spot : Declarations → EventKind → List ℕ → Option Spot
named_spot declarations (Declared number) name = spot_named declarations.events name
named_spot declarations (SourceAt number) name = spot_named declarations.flows name
named_spot declarations (Arrival point type) name = spot_named declarations.inward name

-- the same for an event of a key, whose first name is that of the declaration
abbrev pub spot_in : Declarations → EventKind → List (List ℕ) → Option Spot
spot_in declarations kind [] = None
spot_in declarations kind (name ∷ further) = named_spot declarations kind name

-- the same in the component of a number
abbrev pub spot_at : Instance → ℕ → EventKind → List (List ℕ) → Option Spot
spot_at instance owner kind key = option_and_then (λ id. spot_in (declarations_of instance.packages id) kind key) (classifier_at instance owner)

-- Of which kind an event of a model is, and where its declaration stands.
abbrev pub origin_of : Assembly → EventKey → EventOrigin
origin_of assembly event = record { kind = kind_of event.kind; spot = spot_at assembly.instance event.owner event.kind (event_key assembly event) }
