-- Where what a component has is declared: its sides, its states, and the facts of these.
use Rattle.std.specs.Prelude.{ℕ, Bool, true, false, List, Option, None, Some, option_and_then, option_map}
use Rattle.plain_values.specs.declared.spot.Spot.{Spot}
use Rattle.instantiator.specs.Whole.{Instance, classifier_at}
use Rattle.propagation_links.specs.declared.link.PointAt.{PointAt}
use Rattle.model_facts.specs.Assembly.{Assembly, model_at}
use Rattle.model_facts.specs.Facts.{inward_of, outward_of}
use Rattle.model_facts.specs.Names.{bare_name, point_name}
use Rattle.model_facts.specs.declared.keys.FactKey.{FactKey}
use Rattle.model_facts.specs.declared.keys.FactKind.{FactKind}
use Rattle.model_facts.specs.declared.keys.FactKind.TheVariants.{State, Enters, Exits}
use Rattle.event_origins.specs.Declarations.{declarations_of}
use Rattle.event_origins.specs.Named.{Declaration, spot_named}
use Rattle.event_origins.specs.declared.kinds.Declarations.{Declarations}

-- the declarations of the component of a number
abbrev pub declarations_at : Instance → ℕ → Option Declarations
declarations_at instance component = option_map (declarations_of instance.packages) (classifier_at instance component)

-- those of the sides of one direction
abbrev pub sides_of : Bool → Declarations → List Declaration
sides_of true declarations = declarations.outward
sides_of false declarations = declarations.inward

-- the first of two places
abbrev pub or_else : Option Spot → Option Spot → Option Spot
or_else None other = other
or_else (Some spot) other = Some spot

-- where a side of the point of a name is declared: by the first propagation of the point in this direction, or else by the feature or the propagation
-- point of the name
abbrev pub side_named : Bool → List ℕ → Declarations → Option Spot
side_named outward name declarations = or_else (spot_named (sides_of outward declarations) name) (spot_named declarations.features name)

-- where a side of a model is declared
abbrev pub side_spot : Assembly → PointAt → Option Spot
side_spot assembly side =
    option_and_then (side_named side.outward (point_name (model_at assembly side.component) side.point)) (declarations_at assembly.instance side.component)

-- where a state of a component is declared
abbrev pub state_spot : Assembly → ℕ → ℕ → Option Spot
state_spot assembly owner state =
    option_and_then (λ declarations. spot_named declarations.states (bare_name (model_at assembly owner).states.sorts state)) (declarations_at assembly.instance owner)

-- where that is declared of which a fact of a component is
abbrev pub own_spot : Assembly → ℕ → FactKind → Option Spot
own_spot assembly owner (State state) = state_spot assembly owner state
own_spot assembly owner (Enters point type) = side_spot assembly (inward_of owner point)
own_spot assembly owner (Exits point type) = side_spot assembly (outward_of owner point)

-- the same of a fact of a model
abbrev pub fact_spot : Assembly → FactKey → Option Spot
fact_spot assembly fact = own_spot assembly fact.owner fact.kind
