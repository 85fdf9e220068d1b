-- States of parts that do not occur in a formula of the component around them, though the same state of a part of the same kind does.
use Rattle.std.specs.Prelude.{ℕ, Bool, false, cond, ◌&&◌, not, nat_eq, List, [], ◌∷◌, filter, map, slice_get, slice_index_or, take, Option, Some, None, option_and_then}
use Rattle.std.specs.List.{list_any}
use Rattle.std.specs.Option.{option_map_or}
use Rattle.plain_values.specs.Numbered.{numbered_from}
use Rattle.package_index.specs.Names.{front}
use Rattle.instantiator.specs.Components.{component_below}
use Rattle.instantiator.specs.Whole.{Instance, classifier_at, kind_number}
use Rattle.instantiator.specs.declared.path.Component.{Component}
use Rattle.model_facts.specs.declared.keys.FactKey.{FactKey}
use Rattle.model_facts.specs.declared.keys.FactKind.{FactKind}
use Rattle.model_facts.specs.declared.keys.FactKind.TheVariants.{State, Enters, Exits}
use Rattle.fault_system.specs.Systems.{System}
use Rattle.fault_system.specs.declared.formula.FactInfo.{FactInfo}
use Rattle.fault_system.specs.declared.formula.Formula.{Formula}
use Rattle.uneven_parts.specs.Places.{facts_in}
use Rattle.uneven_parts.specs.declared.unlike.UnlikeState.{UnlikeState}

-- ---- the component around a component

-- the component around that of a path; there is none around the root
abbrev pub around_path : List Component → List (List ℕ) → Option ℕ
around_path components [] = None
around_path components (name ∷ path) = component_below components 0 (front (name ∷ path))

-- the components around those of an instance, in order
abbrev pub arounds : Instance → List (Option ℕ)
arounds instance = map (λ component. around_path instance.components component.path) instance.components

-- the component around that of a number
abbrev pub around : Instance → ℕ → Option ℕ
around instance number = slice_index_or (arounds instance) number None

-- whether a component stands right in another one
abbrev pub stands_in : Instance → ℕ → ℕ → Bool
stands_in instance number other = option_map_or (nat_eq other) (around instance number) false

-- ---- what a formula looks at

-- whether a fact is of a part of a component
abbrev pub is_of_part : Instance → System → ℕ → ℕ → Bool
is_of_part instance system owner number = option_map_or (λ fact. stands_in instance fact.owner owner) (slice_get system.facts number) false

-- the facts in a formula of a component that are of its parts
abbrev pub parts_in : Instance → System → ℕ → Formula → List ℕ
parts_in instance system owner formula = filter (is_of_part instance system owner) (facts_in formula)

-- ---- parts of the same kind

-- What parts have in common: the component around them, their kind, and a state that each has.
abbrev pub Likeness : Type 0
Likeness = ℕ × ℕ × ℕ

-- that of a fact, if it is a state of a part
abbrev pub likeness_in : Option ℕ → Option ℕ → FactKind → Option Likeness
likeness_in None kind fact = None
likeness_in (Some around) None fact = None
likeness_in (Some around) (Some kind) (State state) = Some (around, kind, state)
likeness_in (Some around) (Some kind) (Enters point type) = None
likeness_in (Some around) (Some kind) (Exits point type) = None

abbrev pub likeness : Instance → FactKey → Option Likeness
likeness instance fact = likeness_in (around instance fact.owner) (kind_number instance.kinds (classifier_at instance fact.owner)) fact.kind

-- whether two are the same
abbrev pub same_likeness : Likeness → Likeness → Bool
same_likeness a b = (nat_eq a.0 b.0 && nat_eq a.1 b.1) && nat_eq a.2 b.2

-- that of the fact of a number
abbrev pub likeness_at : Instance → List FactKey → ℕ → Option Likeness
likeness_at instance facts number = option_and_then (likeness instance) (slice_get facts number)

-- whether there is one, and it is this one
abbrev pub is_own : Option Likeness → Likeness → Bool
is_own one other = option_map_or (λ own. same_likeness own other) one false

-- the fact of a number, if it has this in common with others
abbrev pub member_with : Instance → Likeness → ℕ → FactKey → List ℕ
member_with instance one number fact = cond (is_own (likeness instance fact) one) (number ∷ []) []

-- the facts that have this in common
abbrev pub members : Instance → List FactKey → Likeness → List ℕ
members instance facts one = numbered_from (member_with instance one) 0 facts

-- ---- what is unlike

-- the facts that have this in common, and are not among some
abbrev pub missing : Instance → List FactKey → List ℕ → Likeness → List ℕ
missing instance facts places one = filter (λ number. not (list_any (λ place. nat_eq place number) places)) (members instance facts one)

-- these, as what is unlike in the formula of a fact
abbrev pub unlike_with : ℕ → List ℕ → List UnlikeState
unlike_with fact states = map (λ state. record { state = state; fact = fact }) states

-- Of a fact at a place of the formula of a fact, which has this in common with others: those that have it too, and stand at none of its places; but
-- nothing where an earlier place has a fact that has it.
abbrev pub unlike_by : Instance → List FactKey → List ℕ → ℕ → ℕ → Option Likeness → List UnlikeState
unlike_by instance facts places fact place None = []
unlike_by instance facts places fact place (Some one) =
    cond (list_any (λ other. is_own (likeness_at instance facts other) one) (take place places)) [] (unlike_with fact (missing instance facts places one))

-- those of the fact of a number
abbrev pub unlike_at : Instance → List FactKey → List ℕ → ℕ → ℕ → ℕ → List UnlikeState
unlike_at instance facts places fact place number = unlike_by instance facts places fact place (likeness_at instance facts number)

-- those of a formula in which facts of parts stand at these places
abbrev pub unlike_among : Instance → List FactKey → ℕ → List ℕ → List UnlikeState
unlike_among instance facts fact places = numbered_from (unlike_at instance facts places fact) 0 places

-- those of the formula of the fact of a number
abbrev pub unlike_in : Instance → System → List FactKey → ℕ → FactInfo → List UnlikeState
unlike_in instance system facts number fact = unlike_among instance facts number (parts_in instance system fact.owner fact.formula)

-- The states of parts that do not occur in a formula of the component around them, though the same state of a part of the same kind does: for each
-- fact in order, by the places in its formula.
abbrev pub unlike_states : Instance → System → List FactKey → List UnlikeState
unlike_states instance system facts = numbered_from (unlike_in instance system facts) 0 system.facts
