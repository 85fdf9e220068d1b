-- The associations of rates, and which of them fits an event.
use Rattle.std.specs.Prelude.{ℕ, Bool, true, false, ◌&&◌, List, [], ◌∷◌, ◌++◌, codes, filter, flat_map, map, slice_get, Option, None, Some, cond, option_map}
use Rattle.std.specs.List.{last_or, list_any}
use Rattle.std.specs.Option.{option_or, option_map_or}
use Rattle.plain_values.specs.Name.{is_same_text}
use Rattle.profiles.specs.declared.profile.Profile.{Profile}
use Rattle.profiles.specs.declared.profile.Profile.TheVariants.{First, Second}
use Rattle.aadl_syntax.specs.declared.core_model.PackageUnit.{PackageUnit}
use Rattle.aadl_syntax.specs.declared.error_model.Association.{Association}
use Rattle.aadl_syntax.specs.declared.error_model.MachineDecl.{MachineDecl}
use Rattle.aadl_syntax.specs.declared.error_model.OtherTarget.{OtherTarget}
use Rattle.fault_system.specs.declared.formula.EventInfo.{EventInfo}
use Rattle.package_index.specs.Names.{is_same_name}
use Rattle.component_extension.specs.declared.effective.Effective.{Effective}
use Rattle.error_machines.specs.Machines.{Machine}
use Rattle.error_models.specs.Below.{machine_of}
use Rattle.instantiator.specs.Components.{component_below}
use Rattle.instantiator.specs.Whole.{Instance, effective_in}
use Rattle.rate_keys.specs.declared.key.RateKey.{RateKey}
use Rattle.rate_keys.specs.Keys.{rate_keys}
use Rattle.property_reader.specs.declared.rate.Rate.{Rate}
use Rattle.property_reader.specs.Rates.{association_rate, gives_rate}

-- ---- one text

-- whether there are no names
abbrev pub is_empty : List (List ℕ) → Bool
is_empty [] = true
is_empty (name ∷ names) = false

-- whether two names are `EMV2::OccurrenceDistribution`
abbrev pub is_of_emv2 : List ℕ → List ℕ → Bool
is_of_emv2 first second = is_same_text first (codes "emv2") && is_same_text second (codes "occurrencedistribution")

-- whether a property is that of rates, where this is its first name: `OccurrenceDistribution` alone, or behind `EMV2`
abbrev pub is_distribution_behind : List ℕ → List (List ℕ) → Bool
is_distribution_behind first [] = is_same_text first (codes "occurrencedistribution")
is_distribution_behind first (second ∷ further) = is_empty further && is_of_emv2 first second

-- whether a property is that of rates: `OccurrenceDistribution`, bare or of EMV2
abbrev pub is_distribution : List (List ℕ) → Bool
is_distribution [] = false
is_distribution (first ∷ rest) = is_distribution_behind first rest

-- the names of a path that is more than names with single dots between them, as of `^lane1@fault` the names `lane1` and `fault`, if it has names
abbrev pub other_names : OtherTarget → List (List (List ℕ))
other_names other = option_map_or (λ names. names ∷ []) other.names []

-- The targets of an association: by the first profile the paths that are names with single dots between them; by the second also the names of
-- each other path that has names.
abbrev pub targets_of : Profile → Association → List (List (List ℕ))
targets_of First association = association.targets
targets_of Second association = association.targets ++ flat_map other_names association.others

-- whether an association gives rates, and these names are one of its targets
abbrev pub fits : Profile → List (List ℕ) → Association → Bool
fits profile names association = is_distribution association.name && list_any (λ target. is_same_name target names) (targets_of profile association)

-- The last of these associations that fits.
abbrev pub last_fitting : Profile → List (List ℕ) → List Association → Option Association
last_fitting profile names associations = last_or None (filter (fits profile names) associations)

-- ---- a model

-- the associations of the clauses of a component
abbrev pub clause_associations : Effective → List Association
clause_associations effective = map (λ scoped. scoped.item) effective.others.associations

-- the associations of a machine, if there is one
abbrev pub machine_associations : Option Machine → List Association
machine_associations None = []
machine_associations (Some machine) = machine.item.associations

-- The association that fits an event of the component to which a path leads: that of the outermost component on the way, from the
-- one of this number on, that has one. Its target is what is left of the path, and then the event's key.
abbrev pub fitting_along : Profile → Instance → Option ℕ → List (List ℕ) → List (List ℕ) → Option Association
fitting_along profile instance None path key = None
fitting_along profile instance (Some number) [] key = last_fitting profile key (clause_associations (effective_in instance number))
fitting_along profile instance (Some number) (name ∷ path) key =
    option_or (last_fitting profile (name ∷ path ++ key) (clause_associations (effective_in instance number)))
    (fitting_along profile instance (component_below instance.components number (name ∷ [])) path key)

-- the path of the component of a number
abbrev pub path_in : Instance → ℕ → List (List ℕ)
path_in instance number = option_map_or (λ component. component.path) (slice_get instance.components number) []

-- ---- the keys of an event

-- the declaration of the machine of a component with this effective classifier, if it uses one that is found
abbrev pub machine_decl : List PackageUnit → Effective → Option MachineDecl
machine_decl packages effective = option_map (λ machine. machine.item) (machine_of packages effective)

-- the further keys of the events of a component with this effective classifier: by the first profile there are none
abbrev pub further_keys : Profile → List PackageUnit → Effective → List RateKey
further_keys First packages effective = []
further_keys Second packages effective = rate_keys (machine_decl packages effective) effective

-- the further keys of the events of the component of a number
abbrev pub keys_at : Profile → Instance → ℕ → List RateKey
keys_at profile instance number = further_keys profile instance.packages (effective_in instance number)

-- whether a key is of the event that has this one
abbrev pub is_of_event : List (List ℕ) → RateKey → Bool
is_of_event own key = is_same_name (key.event ∷ []) own

-- ---- the association that counts

-- The association that is said of an event of a component by a key: one that fits on the way from the root to the component, or else one of its
-- machine.
abbrev pub said_of : Profile → Instance → ℕ → List (List ℕ) → Option Association
said_of profile instance owner key =
    option_or (fitting_along profile instance (Some 0) (path_in instance owner) key)
    (last_fitting profile key (machine_associations (machine_of instance.packages (effective_in instance owner))))

-- the same by a further key, if it is of the event that has this one
abbrev pub said_by_key : Profile → Instance → ℕ → List (List ℕ) → RateKey → Option Association
said_by_key profile instance owner own key = cond (is_of_event own key) (said_of profile instance owner key.names) None

-- the first association that is said by some further keys
abbrev pub first_said : Profile → Instance → ℕ → List (List ℕ) → List RateKey → Option Association
first_said profile instance owner own [] = None
first_said profile instance owner own (key ∷ keys) = option_or (said_by_key profile instance owner own key) (first_said profile instance owner own keys)

-- The association that counts for an event: one that is said of it by its key, or else by the first of its further keys by which one is.
abbrev pub association_of : Profile → Instance → EventInfo → Option Association
association_of profile instance event =
    option_or (said_of profile instance event.owner event.key) (first_said profile instance event.owner event.key (keys_at profile instance event.owner))

-- The rate of an event of a model.
abbrev pub rate_in : Profile → Instance → EventInfo → Rate
rate_in profile instance event = association_rate (association_of profile instance event)

-- Whether a model gives an event a rate; the rate of all others is the conservative one.
abbrev pub is_rated_in : Profile → Instance → EventInfo → Bool
is_rated_in profile instance event = gives_rate (association_of profile instance event)
