-- The events of a group.
use Rattle.std.specs.Prelude.{ℕ, Bool, List, [], map, filter, length, is_some, unwrap_or, slice_get}
use Rattle.std.specs.List.{list_any}
use Rattle.std.specs.Option.{option_and_then}
use Rattle.plain_values.specs.Name.{is_same_text}
use Rattle.plain_values.specs.Numbered.{numbers_below}
use Rattle.fault_system.specs.Systems.{System, event_name}
use Rattle.requirements.specs.declared.reading.Group.{Group}
use Rattle.requirements.specs.declared.reading.GroupKind.{GroupKind}
use Rattle.requirements.specs.declared.reading.GroupKind.TheVariants.{Parts, Events}
use Rattle.requirement_names.specs.Names.{called, event_named, is_below, place_of}

-- whether an event belongs to a member of a group: it lies below the component, or it is the event
abbrev pub belongs_to : GroupKind → List ℕ → List ℕ → Bool
belongs_to Parts member event = is_below member event
belongs_to Events member event = is_same_text event member

-- whether the event of a number belongs to one of these members
abbrev pub is_in_group : System → GroupKind → List (List ℕ) → ℕ → Bool
is_in_group system kind members number = list_any (λ member. belongs_to kind member (event_name system number)) members

-- The events of a group, in rising order: those that belong to one of its members.
abbrev pub group_events : System → Group → List ℕ
group_events system group = filter (is_in_group system group.kind (map (called (λ word. word)) group.members)) (numbers_below (length system.events))

-- Whether a member of a group is one of the model's: a component has an error event in it or below it, and an event is one.
abbrev pub is_of_model : System → GroupKind → List ℕ → Bool
is_of_model system Parts member = list_any (λ event. is_below member event.name) system.events
is_of_model system Events member = is_some (event_named system member)

-- the names of groups as they are compared
abbrev pub group_names : List Group → List (List ℕ)
group_names groups = map (called (λ group. group.name)) groups

-- the events of each of some groups
abbrev pub group_sets : System → List Group → List (List ℕ)
group_sets system groups = map (group_events system) groups

-- the events of the first group of a name, where these are the names of groups and their events; none where there is no such group
abbrev pub events_named : List (List ℕ) → List (List ℕ) → List ℕ → List ℕ
events_named names sets name = unwrap_or (option_and_then (slice_get sets) (place_of names name)) []
