-- The events of a component by the first profile, in which each of them is a basic event.
use Rattle.std.specs.Prelude.{List, [], ◌++◌, fold, Option}
use Rattle.component_extension.specs.declared.effective.Effective.{Effective}
use Rattle.error_libraries.specs.Libraries.{Table}
use Rattle.propagation_points.specs.States.{Sort, declared_by, keep_sort}
use Rattle.error_machines.specs.Machines.{Machine}
use Rattle.error_machines.specs.States.{EventAt, clause_events, machine_events}

-- the events with one more at the end
abbrev pub keep_event : Table → List Sort → EventAt → List Sort
keep_event table events event = keep_sort events event.decl.name (declared_by table event.scope event.decl.set)

-- The events, in order: those of its machine, then those of its clauses. Of two of one name the first counts.
abbrev pub events_of : Table → Option Machine → Effective → List Sort
events_of table machine effective = fold (keep_event table) [] (machine_events table machine ++ clause_events table effective)
