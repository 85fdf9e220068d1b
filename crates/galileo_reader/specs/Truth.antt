-- The names of the events of a tree.
use Rattle.std.specs.Prelude.{ℕ, List, [], slice_get, unwrap_or}
use Rattle.std.specs.Option.{option_map}
use Rattle.galileo_reader.specs.declared.tree.NamedTree.{NamedTree}

-- the name of an event by its number
abbrev pub event_name : NamedTree → ℕ → List ℕ
event_name tree n = unwrap_or (option_map (λ event. event.name) (slice_get tree.events n)) []
