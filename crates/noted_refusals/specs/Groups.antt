-- Groups of refusals that are tested one after the other: the first that has any counts.
use Rattle.std.specs.Prelude.{List, [], ◌∷◌}
use Rattle.plain_values.specs.declared.refusal.Refusal.{Refusal}

-- this group, and the next where nothing is refused in it
abbrev pub or_group : List Refusal → List Refusal → List Refusal
or_group [] next = next
or_group (refusal ∷ more) next = refusal ∷ more

-- the first of these groups in which anything is refused
abbrev pub first_group : List (List Refusal) → List Refusal
first_group [] = []
first_group (group ∷ groups) = or_group group (first_group groups)
