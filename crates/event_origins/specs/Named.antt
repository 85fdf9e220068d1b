-- Declarations by their names.
use Rattle.std.specs.Prelude.{ℕ, Bool, List, find, Option, option_map}
use Rattle.plain_values.specs.Name.{is_same_text}
use Rattle.plain_values.specs.declared.spot.Spot.{Spot}

-- A declaration: its name, and where it stands.
pub record Declaration : Type 0 where
  pub name : List ℕ
  pub spot : Spot

-- whether a declaration has the name
abbrev pub has_name : List ℕ → Declaration → Bool
has_name name declaration = is_same_text declaration.name name

-- where the first declaration of a name stands
abbrev pub spot_named : List Declaration → List ℕ → Option Spot
spot_named declarations name = option_map (λ declaration. declaration.spot) (find (has_name name) declarations)
