-- Sets of events that words name.
use Rattle.std.specs.Prelude.{ℕ, ◌==◌, List, [], ◌∷◌, ◌++◌, cond, codes, filter, length, is_some, Option, None, Some, Bool}
use Rattle.std.specs.List.{list_all, list_any}
use Rattle.plain_values.specs.Name.{is_same_text}
use Rattle.plain_values.specs.Numbered.{numbers_below}
use Rattle.fault_system.specs.Systems.{System, event_name}
use Rattle.requirement_names.specs.declared.sets.Cut.{Cut}
use Rattle.requirement_names.specs.Names.{event_named}

-- nothing is cut yet
abbrev pub nothing_cut : Cut
nothing_cut = record { parts = []; current = [] }

-- one byte more: `+` ends a part, and each other byte is one of it
abbrev pub with_byte : Cut → ℕ → Cut
with_byte cut byte = cond (byte == 43) (record { parts = cut.parts ++ cut.current ∷ []; current = [] }) (record cut { current = cut.current ++ byte ∷ [] })

-- these bytes more
abbrev pub with_bytes : Cut → List ℕ → Cut
with_bytes cut [] = cut
with_bytes cut (byte ∷ bytes) = with_bytes (with_byte cut byte) bytes

-- all parts, where the last one ends
abbrev pub all_parts : Cut → List (List ℕ)
all_parts cut = cut.parts ++ cut.current ∷ []

-- the parts of a text between its signs `+`; one at least
abbrev pub parts_of : List ℕ → List (List ℕ)
parts_of text = all_parts (with_bytes nothing_cut text)

-- whether each of these is the name of an event
abbrev pub are_events : System → List (List ℕ) → Bool
are_events system parts = list_all (λ part. is_some (event_named system part)) parts

-- whether the event of a number has one of these names
abbrev pub has_one_of : System → List (List ℕ) → ℕ → Bool
has_one_of system parts number = list_any (λ part. is_same_text (event_name system number) part) parts

-- the events that have one of these names, in rising order
abbrev pub events_of : System → List (List ℕ) → List ℕ
events_of system parts = filter (has_one_of system parts) (numbers_below (length system.events))

-- The set of events that a text names: that of no event is `none`, and else the names of its events stand with `+` between them, in any order;
-- none where a part is no name of an event.
abbrev pub set_named : System → List ℕ → Option (List ℕ)
set_named system text = cond (is_same_text text (codes "none")) (Some []) (cond (are_events system (parts_of text)) (Some (events_of system (parts_of text))) None)
