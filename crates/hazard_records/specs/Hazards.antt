-- The hazards of a model (EMV2, ARP4761, MILSTD882: `Hazards`, `Severity`, `Likelihood`).
use Rattle.std.specs.Prelude.{ℕ, Bool, true, false, cond, ◌&&◌, ◌||◌, ◌==◌, List, [], ◌∷◌, ◌++◌, codes, filter, flat_map, length, map, Option, None, Some, option_map}
use Rattle.std.specs.List.{last_or, list_any}
use Rattle.std.specs.Option.{option_map_or, option_or}
use Rattle.plain_values.specs.Numbered.{numbered_from}
use Rattle.plain_values.specs.declared.spot.Spot.{Spot}
use Rattle.profiles.specs.declared.profile.Profile.{Profile}
use Rattle.aadl_syntax.specs.declared.error_model.Association.{Association}
use Rattle.fault_system.specs.declared.formula.EventInfo.{EventInfo}
use Rattle.fault_system.specs.declared.formula.FactInfo.{FactInfo}
use Rattle.component_extension.specs.declared.effective.Effective.{Effective}
use Rattle.error_machines.specs.Machines.{Machine}
use Rattle.error_models.specs.Below.{machine_of}
use Rattle.instantiator.specs.declared.path.Component.{Component}
use Rattle.instantiator.specs.Whole.{Instance, effective_in}
use Rattle.hazard_values.specs.declared.record.HazardRecord.{HazardRecord}
use Rattle.hazard_values.specs.Records.{records_of}
use Rattle.hazard_values.specs.Texts.{value_text}
use Rattle.hazard_records.specs.declared.hazard.Hazard.{Hazard}
use Rattle.hazard_records.specs.declared.target.Target.{Target}
use Rattle.hazard_records.specs.Meaning.{events_meant, facts_meant, path_in}
use Rattle.hazard_records.specs.Targets.{is_named, says_of, targets_of}

-- A model of which hazards are said: its instance, read by a profile, and its facts and events in order.
pub record Whole : Type 0 where
  pub profile : Profile
  pub instance : Instance
  pub facts : List FactInfo
  pub events : List EventInfo

-- this model
abbrev pub whole_of : Profile → Instance → List FactInfo → List EventInfo → Whole
whole_of profile instance facts events = record { profile = profile; instance = instance; facts = facts; events = events }

-- ---- a component

-- The associations that are said of a component: those of its clauses, and those of its machine.
pub record Said : Type 0 where
  pub clauses : List Association
  pub machine : List Association

-- the associations of the clauses of a component
abbrev pub clause_associations : Effective → List Association
clause_associations effective = map (λ scoped. scoped.item) effective.others.associations

-- the associations of a machine, if there is one
abbrev pub machine_associations : Option Machine → List Association
machine_associations None = []
machine_associations (Some machine) = machine.item.associations

-- the associations that are said of the component of a number
abbrev pub said_in : Instance → ℕ → Said
said_in instance number = record {
  clauses = clause_associations (effective_in instance number);
  machine = machine_associations (machine_of instance.packages (effective_in instance number));
}

-- A component of a model, by its number, and what is said of it.
pub record Site : Type 0 where
  pub model : Whole
  pub number : ℕ
  pub said : Said

-- the component of a number
abbrev pub site_of : Whole → ℕ → Site
site_of model number = record { model = model; number = number; said = said_in model.instance number }

-- ---- severities and likelihoods that stand alone

-- the last of these values of the property of a word that is said of a target
abbrev pub last_said : Profile → List ℕ → List ℕ → List Association → Option (List ℕ)
last_said profile word text associations = option_map (λ association. value_text association.value) (last_or None (filter (says_of profile word text) associations))

-- The value of the property of a word that is said of a target of a component: the last of its clauses, or else the last of its machine.
abbrev pub value_said : List ℕ → Site → List ℕ → Option (List ℕ)
value_said word site text = option_or (last_said site.model.profile word text site.said.clauses) (last_said site.model.profile word text site.said.machine)

-- what a record has, or else what is said of its target, or else nothing
abbrev pub own_or_said : List ℕ → Site → List ℕ → Option (List ℕ) → List ℕ
own_or_said word site text own = option_map_or (λ its. its) (option_or own (value_said word site text)) []

-- ---- hazards

-- the facts that a target means, from a component on
abbrev pub facts_at : Site → Target → List ℕ
facts_at site target = option_map_or (λ names. facts_meant site.model.facts (path_in site.model.instance site.number ++ names)) target.names []

-- the events that a target means, from a component on
abbrev pub events_at : Site → Target → List ℕ
events_at site target = option_map_or (λ names. events_meant site.model.instance site.model.events (path_in site.model.instance site.number ++ names)) target.names []

-- The hazard that a record says of a target of a component; the record stands at this place.
abbrev pub hazard_of : Site → Spot → HazardRecord → Target → Hazard
hazard_of site spot its target = record {
  component = site.number;
  target = target.text;
  facts = facts_at site target;
  events = events_at site target;
  failure = its.failure;
  severity = own_or_said (codes "severity") site target.text its.severity;
  likelihood = own_or_said (codes "likelihood") site target.text its.likelihood;
  phases = its.phases;
  cross_reference = its.cross_reference;
  description = its.description;
  spot = spot;
}

-- those of a record, one for each target
abbrev pub record_hazards : Site → Spot → List Target → HazardRecord → List Hazard
record_hazards site spot targets its = map (hazard_of site spot its) targets

-- those of the records of an association
abbrev pub records_hazards : Site → Association → List Hazard
records_hazards site association = flat_map (record_hazards site association.spot (targets_of site.model.profile association)) (records_of association.value)

-- those of an association, if it is one of `Hazards`
abbrev pub association_hazards : Site → Association → List Hazard
association_hazards site association = cond (is_named (codes "hazards") association.name) (records_hazards site association) []

-- ---- severities of which no record is said

-- whether there are records
abbrev pub has_some : List HazardRecord → Bool
has_some [] = false
has_some (its ∷ records) = true

-- whether an association has a record that is said of a target of this text
abbrev pub has_record : Profile → List ℕ → Association → Bool
has_record profile text association = says_of profile (codes "hazards") text association && has_some (records_of association.value)

-- whether some record is said of a target of this text
abbrev pub is_recorded : Site → List ℕ → Bool
is_recorded site text = list_any (has_record site.model.profile text) site.said.clauses || list_any (has_record site.model.profile text) site.said.machine

-- the record that says nothing
abbrev pub no_record : HazardRecord
no_record = record { failure = []; severity = None; likelihood = None; phases = []; cross_reference = []; description = [] }

-- the hazard of a target that has a severity, if no record is said of it
abbrev pub alone_hazard : Site → Spot → Target → List Hazard
alone_hazard site spot target = cond (is_recorded site target.text) [] (hazard_of site spot no_record target ∷ [])

-- those of an association, if it is one of `Severity`
abbrev pub severity_hazards : Site → Association → List Hazard
severity_hazards site association = cond (is_named (codes "severity") association.name) (flat_map (alone_hazard site association.spot) (targets_of site.model.profile association)) []

-- ---- a model

-- the hazards of the records of the clauses of a component, and of its machine, one for each record and each of its targets
abbrev pub recorded_hazards : Site → List Hazard
recorded_hazards site = flat_map (association_hazards site) site.said.clauses ++ flat_map (association_hazards site) site.said.machine

-- the hazards of the severities of the clauses of a component, and of its machine, whose targets have no record
abbrev pub unrecorded_hazards : Site → List Hazard
unrecorded_hazards site = flat_map (severity_hazards site) site.said.clauses ++ flat_map (severity_hazards site) site.said.machine

-- The hazards of a component: those of records, and then those of severities that stand alone.
abbrev pub site_hazards : Site → List Hazard
site_hazards site = recorded_hazards site ++ unrecorded_hazards site

-- those of the component of a number
abbrev pub component_hazards : Whole → ℕ → Component → List Hazard
component_hazards model number component = site_hazards (site_of model number)

-- The hazards of a model, one component after the other.
abbrev pub hazards_of : Whole → List Hazard
hazards_of model = numbered_from (component_hazards model) 0 model.instance.components

-- Whether a hazard is said of nothing in the model: neither a fact nor an event.
abbrev pub is_unused : Hazard → Bool
is_unused hazard = (length hazard.facts == 0) && (length hazard.events == 0)
