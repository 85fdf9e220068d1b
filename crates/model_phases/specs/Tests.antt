-- The group of one refusal.
use Rattle.std.specs.Prelude.{◌≡◌, Option, Some}
use Rattle.plain_values.specs.declared.refusal.Refusal.{Refusal}

-- The refusal is this one, where there is one: the group of one refusal at most.
abbrev pub IsIt : Option Refusal → Refusal → Type 0
IsIt one refusal = one ≡ Some refusal
