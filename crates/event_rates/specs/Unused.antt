-- The rates of a model that are said of no event.
use Rattle.std.specs.Prelude.{ℕ, Bool, true, cond, ◌&&◌, ◌==◌, not, List, [], ◌∷◌, ◌++◌, codes, filter, flat_map, length, map}
use Rattle.std.specs.List.{list_any}
use Rattle.std.specs.Option.{option_map_or}
use Rattle.profiles.specs.declared.profile.Profile.{Profile}
use Rattle.profiles.specs.declared.profile.Profile.TheVariants.{First, Second}
use Rattle.aadl_syntax.specs.declared.error_model.Association.{Association}
use Rattle.aadl_syntax.specs.declared.error_model.OtherTarget.{OtherTarget}
use Rattle.fault_system.specs.declared.formula.EventInfo.{EventInfo}
use Rattle.plain_values.specs.Numbered.{numbered_from}
use Rattle.plain_values.specs.declared.spot.Spot.{Spot}
use Rattle.package_index.specs.Names.{is_same_name}
use Rattle.error_models.specs.Below.{machine_of}
use Rattle.instantiator.specs.declared.path.Component.{Component}
use Rattle.instantiator.specs.Whole.{Instance, effective_in}
use Rattle.rate_keys.specs.declared.key.RateKey.{RateKey}
use Rattle.event_rates.specs.Associations.{clause_associations, is_distribution, is_of_event, keys_at, machine_associations, path_in}
use Rattle.event_rates.specs.declared.unused.UnusedRate.{UnusedRate}

-- the whole names of the event that has this key among the events of a component: the path of the component, and then each of its keys
abbrev pub names_by_keys : List (List ℕ) → List (List ℕ) → List RateKey → List (List (List ℕ))
names_by_keys path own keys = (path ++ own) ∷ map (λ key. path ++ key.names) (filter (is_of_event own) keys)

-- the whole names of an event
abbrev pub event_names : Profile → Instance → EventInfo → List (List (List ℕ))
event_names profile instance event = names_by_keys (path_in instance event.owner) event.key (keys_at profile instance event.owner)

-- the whole names of events
abbrev pub whole_names : Profile → Instance → List EventInfo → List (List (List ℕ))
whole_names profile instance events = flat_map (event_names profile instance) events

-- whether a name is among names
abbrev pub is_one_of : List (List (List ℕ)) → List (List ℕ) → Bool
is_one_of names name = list_any (λ other. is_same_name other name) names

-- whether a target names no event, from the component of this path on
abbrev pub names_none : List (List (List ℕ)) → List (List ℕ) → List (List ℕ) → Bool
names_none names path target = not (is_one_of names (path ++ target))

-- whether a path that is more than names with single dots between them is said of no event: by the first profile each is; by the second one that
-- has no names, and one whose names name no event
abbrev pub is_of_none : Profile → List (List (List ℕ)) → List (List ℕ) → OtherTarget → Bool
is_of_none First names path other = true
is_of_none Second names path other = option_map_or (names_none names path) other.names true

-- the text of such a path, as it stands, where it is said of no event
abbrev pub other_text : Profile → List (List (List ℕ)) → List (List ℕ) → OtherTarget → List (List (List ℕ))
other_text profile names path other = cond (is_of_none profile names path other) ((other.text ∷ []) ∷ []) []

-- those of an association
abbrev pub other_targets : Profile → List (List (List ℕ)) → List (List ℕ) → List OtherTarget → List (List (List ℕ))
other_targets profile names path others = flat_map (other_text profile names path) others

-- a dash, where an association applies to nothing at all
abbrev pub no_target : Association → List (List (List ℕ))
no_target association = cond ((length association.targets == 0) && (length association.others == 0)) ((codes "-" ∷ []) ∷ []) []

-- the targets of an association that name no event, from the component of this path on; its other paths that are said of none; and a dash where
-- it has neither
abbrev pub said_of_none : Profile → List (List (List ℕ)) → List (List ℕ) → Association → List (List (List ℕ))
said_of_none profile names path association =
    filter (names_none names path) association.targets ++ (other_targets profile names path association.others ++ no_target association)

-- those of an association of rates
abbrev pub unused_targets : Profile → List (List (List ℕ)) → List (List ℕ) → Association → List (List (List ℕ))
unused_targets profile names path association = cond (is_distribution association.name) (said_of_none profile names path association) []

-- targets of an association that stands at this place, of the component of a number
abbrev pub rates_at : ℕ → Spot → List (List (List ℕ)) → List UnusedRate
rates_at number spot targets = map (λ target. record { component = number; target = target; spot = spot }) targets

-- those of an association of the component of a number
abbrev pub unused_said : Profile → List (List (List ℕ)) → ℕ → List (List ℕ) → Association → List UnusedRate
unused_said profile names number path association = rates_at number association.spot (unused_targets profile names path association)

-- those of some associations
abbrev pub unused_among : Profile → List (List (List ℕ)) → ℕ → List (List ℕ) → List Association → List UnusedRate
unused_among profile names number path associations = flat_map (unused_said profile names number path) associations

-- those of the clauses of a component, and then of its machine
abbrev pub unused_in : Profile → List (List (List ℕ)) → Instance → ℕ → List UnusedRate
unused_in profile names instance number =
    unused_among profile names number (path_in instance number) (clause_associations (effective_in instance number))
    ++ unused_among profile names number (path_in instance number) (machine_associations (machine_of instance.packages (effective_in instance number)))

-- those of the component of a number
abbrev pub unused_at : Profile → List (List (List ℕ)) → Instance → ℕ → Component → List UnusedRate
unused_at profile names instance number component = unused_in profile names instance number

-- The targets of associations of rates that name no event of a model, one component after the other (EMV2: `OccurrenceDistribution`).
abbrev pub unused_rates : Profile → Instance → List EventInfo → List UnusedRate
unused_rates profile instance events = numbered_from (unused_at profile (whole_names profile instance events) instance) 0 instance.components
