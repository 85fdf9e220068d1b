use Rattle.std.proofs.Common.{take}
use Rattle.std.specs.HashMap.{get}
use Rattle.package_index.specs.inner.Tables.{Knows, same_text}
use Rattle.error_libraries.specs.inner.Tables.{has_type_text}
use Rattle.error_libraries.proofs.numbers.type_places.Given as goal

abbrev pub invariant-loop-place : goal.invariant-loop-place
invariant-loop-place l = Knows has_type_text (take l.place l.items) (get same_text l.places)
