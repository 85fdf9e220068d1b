-- Beside specs/Libraries.antt: what no clause of `run` reaches.
use Rattle.std.specs.Prelude.{◌≡◌, ⊤, ◌<◌, List, length}
use Rattle.plain_values.specs.declared.refusal.Code.TheVariants.{TooManyTypes}
use Rattle.plain_values.specs.declared.refusal.Stop.{Stop}
use Rattle.plain_values.specs.declared.refusal.Stop.TheVariants.{Memory, Refused}
use Rattle.plain_values.specs.Refusal.{of_words}
use Rattle.error_libraries.specs.Libraries.{Library, declared_types, greatest_types}

-- ---- the table

-- It is M8, and more types are declared in these libraries; or memory was wanting.
abbrev pub IsOver : List Library → Stop → Type 0
IsOver libraries Memory = ⊤
IsOver libraries (Refused m8) = (greatest_types < length (declared_types libraries)) × (m8 ≡ of_words TooManyTypes)
