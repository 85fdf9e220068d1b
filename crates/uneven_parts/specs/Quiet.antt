-- States of a component that give nothing at one of its outward sides, though they give something at another one.
use Rattle.std.specs.Prelude.{ℕ, Bool, true, false, cond, ◌&&◌, ◌==◌, not, nat_eq, List, [], ◌∷◌, filter, flat_map, length, map, slice_get}
use Rattle.std.specs.List.{list_any}
use Rattle.std.specs.Option.{option_map_or}
use Rattle.plain_values.specs.Numbered.{numbered_from, numbers_below}
use Rattle.propagation_points.specs.Points.{Point}
use Rattle.propagation_points.specs.States.{all_variants}
use Rattle.propagation_points.specs.declared.side.Side.{Side}
use Rattle.propagation_points.specs.declared.side.Side.TheVariants.{Absent, Free, Declared}
use Rattle.error_models.specs.declared.model.ErrorModel.{ErrorModel}
use Rattle.instantiator.specs.declared.path.Component.{Component}
use Rattle.model_facts.specs.Assembly.{Assembly, model_at}
use Rattle.model_facts.specs.Facts.{fact_in, fact_number, outward_of}
use Rattle.model_facts.specs.declared.keys.FactKey.{FactKey}
use Rattle.model_facts.specs.declared.keys.FactKind.{FactKind}
use Rattle.model_facts.specs.declared.keys.FactKind.TheVariants.{State, Enters, Exits}
use Rattle.fault_system.specs.Systems.{System}
use Rattle.fault_system.specs.declared.formula.FactInfo.{FactInfo}
use Rattle.fault_system.specs.declared.formula.Formula.{Formula}
use Rattle.uneven_parts.specs.Places.{facts_in}
use Rattle.uneven_parts.specs.declared.quiet.QuietState.{QuietState}

-- ---- what states give

-- What is given: a component, a point of it, and a state that occurs in a formula of what exits there.
abbrev pub Given : Type 0
Given = ℕ × ℕ × ℕ

-- whether a fact is that a component is in a state
abbrev pub is_of_state : FactKind → Bool
is_of_state (State state) = true
is_of_state (Enters point type) = false
is_of_state (Exits point type) = false

-- whether the fact of a number is
abbrev pub is_state : List FactKey → ℕ → Bool
is_state facts number = option_map_or (λ fact. is_of_state fact.kind) (slice_get facts number) false

-- the states in a formula, one for each place
abbrev pub states_in : List FactKey → Formula → List ℕ
states_in facts formula = filter (is_state facts) (facts_in formula)

-- what the states in the formula of a fact of a component give, if the fact is that something exits
abbrev pub given_by : List FactKey → ℕ → FactKind → Formula → List Given
given_by facts owner (State state) formula = []
given_by facts owner (Enters point type) formula = []
given_by facts owner (Exits point type) formula = map (λ state. (owner, point, state)) (states_in facts formula)

-- what those in the formula of the fact of a number give
abbrev pub given_in : List FactKey → ℕ → FactInfo → List Given
given_in facts number fact = option_map_or (λ key. given_by facts key.owner key.kind fact.formula) (slice_get facts number) []

-- all that states give
abbrev pub given : System → List FactKey → List Given
given system facts = numbered_from (given_in facts) 0 system.facts

-- whether two are the same
abbrev pub same_given : Given → Given → Bool
same_given a b = (nat_eq a.0 b.0 && nat_eq a.1 b.1) && nat_eq a.2 b.2

-- whether a state gives something at a point of a component
abbrev pub gives : List Given → ℕ → ℕ → ℕ → Bool
gives all owner point state = list_any (λ one. same_given one (owner, point, state)) all

-- a component, and a state
abbrev pub Giver : Type 0
Giver = ℕ × ℕ

-- whether two are the same
abbrev pub same_giver : Giver → Giver → Bool
same_giver a b = nat_eq a.0 b.0 && nat_eq a.1 b.1

-- whether a state gives something at some point of a component
abbrev pub gives_some : List Given → ℕ → ℕ → Bool
gives_some all owner state = list_any (λ one. same_giver (one.0, one.2) (owner, state)) all

-- ---- what is quiet

-- whether types are declared for a side
abbrev pub is_declared : Side → Bool
is_declared Absent = false
is_declared Free = false
is_declared (Declared types) = not (length types == 0)

-- the point of a number, if types are declared for its outward side
abbrev pub declared_side : ℕ → Point → List ℕ
declared_side number point = cond (is_declared point.outward) (number ∷ []) []

-- the points of which this is so
abbrev pub declared_sides : List Point → List ℕ
declared_sides points = numbered_from declared_side 0 points

-- a state at a point of a component, if it gives nothing there
abbrev pub quiet_at : List Given → ℕ → ℕ → ℕ → List QuietState
quiet_at all owner state point = cond (not (gives all owner point state)) (record { state = state; side = outward_of owner point } ∷ []) []

-- a state at those of these points at which it gives nothing, if it gives something at some point
abbrev pub quiet_by : List Given → List ℕ → ℕ → ℕ → List QuietState
quiet_by all sides owner state = cond (gives_some all owner state) (flat_map (quiet_at all owner state) sides) []

-- the same of the state of a component that has this place among its states
abbrev pub quiet_state : List Given → List FactKey → List ℕ → ℕ → ℕ → List QuietState
quiet_state all facts sides owner place = option_map_or (quiet_by all sides owner) (fact_number facts (fact_in owner (State place))) []

-- those of a component, unless it has clauses of composite states
abbrev pub quiet_of : List Given → List FactKey → ℕ → ErrorModel → List QuietState
quiet_of all facts owner model =
    cond model.is_composite [] (flat_map (quiet_state all facts (declared_sides model.points) owner) (numbers_below (length (all_variants model.states.sorts))))

-- those of the component of a number
abbrev pub quiet_in : List Given → Assembly → List FactKey → ℕ → Component → List QuietState
quiet_in all assembly facts owner component = quiet_of all facts owner (model_at assembly owner)

-- The states of components without clauses of composite states that give nothing at an outward side with declared types, and something at another one.
abbrev pub quiet_states : Assembly → System → List FactKey → List QuietState
quiet_states assembly system facts = numbered_from (quiet_in (given system facts) assembly facts) 0 assembly.instance.components
