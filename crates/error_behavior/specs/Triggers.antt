-- What the named parts of a trigger mean (EMV2: error conditions over events and propagations).
use Rattle.std.specs.Prelude.{ℕ, Bool, false, cond, ◌||◌, List, ◌++◌, slice_index_or, Option, Some, None, option_and_then}
use Rattle.std.specs.Option.{option_map_or}
use Rattle.aadl_syntax.specs.declared.error_model.Atom.{Atom}
use Rattle.plain_values.specs.declared.refusal.Refusal.{Refusal}
use Rattle.package_index.specs.Names.{only}
use Rattle.error_libraries.specs.declared.scope.Scope.{Scope}
use Rattle.error_libraries.specs.Libraries.{Table}
use Rattle.propagation_points.specs.Points.{Point}
use Rattle.propagation_points.specs.Settings.{Setting, refusals_in}
use Rattle.propagation_points.specs.States.{Sort, held_by, place_of_sort, sort_refusals, sort_named}
use Rattle.propagation_points.specs.Uses.{atom_use}
use Rattle.error_conditions.specs.declared.cause.Cause.TheVariants.{Event}
use Rattle.error_conditions.specs.Conditions.{Pair, always, held_cause, may_fail, no_error_refusals, point_meaning, says_no_error}
use Rattle.error_machines.specs.declared.states.Events.{Events}

-- Where a trigger stands: the points and the states of the component, the text in which it is read, and the component's events.
pub record TriggerPlace : Type 0 where
  pub setting : Setting
  pub events : Events

-- What the triggers of a component may name: its points, its states and its events.
pub record Vocabulary : Type 0 where
  pub points : List Point
  pub states : List Sort
  pub events : Events

-- the place of a trigger that is read in this text
abbrev pub place_in : Vocabulary → Option Scope → TriggerPlace
place_in words scope = record { setting = record { points = words.points; states = words.states; scope = scope }; events = words.events }

-- the event that a named part names: after `in` none, and a dotted name is that of none
abbrev pub event_named : List Sort → Atom → Option Sort
event_named events atom = cond atom.inward None (option_and_then (sort_named events) (only atom.names))

-- the place of the event that a named part names
abbrev pub event_place : List Sort → Atom → Option ℕ
event_place events atom = cond atom.inward None (option_and_then (place_of_sort events) (only atom.names))

-- whether a named part names an event that is free
abbrev pub names_free : Events → Atom → Bool
names_free events atom = option_map_or (λ place. slice_index_or events.free place false) (event_place events.sorts atom) false

-- What a named part of a trigger means that names this event, which may be free, or else a point: the event happens, and may always
-- stay away, or something comes in at the point. A free event may happen at any time, and an event without an error too.
abbrev pub event_or_point : Table → Setting → Atom → Bool → Option Sort → Pair
event_or_point table setting atom free (Some event) =
    may_fail (cond (free || says_no_error table setting.scope atom.set) always (held_cause Event (held_by table setting.scope event atom.set)))
event_or_point table setting atom free None = point_meaning table setting atom

-- What a named part of a trigger means.
abbrev pub trigger_meaning : TriggerPlace → Table → Atom → Pair
trigger_meaning place table atom = event_or_point table place.setting atom (names_free place.events atom) (event_named place.events.sorts atom)

-- the refusals of a named part that names this event, or else a point
abbrev pub event_or_point_refusals : Table → Setting → Atom → Option Sort → List Refusal
event_or_point_refusals table setting atom (Some event) = sort_refusals table setting.scope (Some event) atom.set
event_or_point_refusals table setting atom None = refusals_in table setting (atom_use atom)

-- The refusals of a named part of a trigger: by the first profile P6 at a `noerror` of its set; of an event N10 at its set; of a
-- point N9 after `in`, else N12, and N10.
abbrev pub trigger_refusals : TriggerPlace → Table → Atom → List Refusal
trigger_refusals place table atom =
    no_error_refusals table.profile atom.set ++ event_or_point_refusals table place.setting atom (event_named place.events.sorts atom)
