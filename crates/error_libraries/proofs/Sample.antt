-- A small model for examples: two packages, of which one declares error types.
use Rattle.std.proofs.Common.{ℕ, List, [], ◌∷◌, codes, map, Some, None}
use Rattle.aadl_syntax.specs.declared.core_model.PackageUnit.{PackageUnit}
use Rattle.aadl_syntax.specs.declared.error_model.Term.TheVariants.{NoError, One}
use Rattle.aadl_syntax.specs.declared.error_model.TypeItem.{TypeItem}
use Rattle.aadl_syntax.specs.declared.error_model.TypeKind.{TypeKind}
use Rattle.aadl_syntax.specs.declared.error_model.TypeKind.TheVariants.{Alias, Plain}
use Rattle.aadl_syntax.specs.declared.error_model.TypeSet.{TypeSet}
use Rattle.aadl_syntax.specs.declared.place.Ref.{Ref}
use Rattle.plain_values.specs.declared.spot.Spot.{Spot}
use Rattle.profiles.specs.declared.profile.Profile.TheVariants.{First}
use Rattle.error_libraries.specs.Libraries.{Table, table_of}

-- ---- parts of a text

abbrev pub spot : ℕ → Spot
spot at = record { file = 0; at = at }

abbrev pub name_at : ℕ → List (List ℕ) → Ref
name_at at names = record { names = names; item = None; spot = spot at }

-- a written set of types by their names
abbrev pub set_at : ℕ → List (List ℕ) → TypeSet
set_at at names = record { terms = map (λ name. One (name_at at (name ∷ []))) names; spot = spot at }

-- the set that has no type
abbrev pub no_error_at : ℕ → TypeSet
no_error_at at = record { terms = NoError (spot at) ∷ []; spot = spot at }

-- ---- the types

abbrev pub type_item : List ℕ → TypeKind → TypeItem
type_item name kind = record { name = name; spot = spot 0; kind = kind }

-- serviceerror 0, omission 1 and late 2 below it, badvalue 3, and the alias lost of late
abbrev pub types : List TypeItem
types =
    type_item (codes "serviceerror") (Plain None) ∷ type_item (codes "omission") (Plain (Some (name_at 0 (codes "serviceerror" ∷ []))))
    ∷ type_item (codes "late") (Plain (Some (name_at 0 (codes "omission" ∷ [])))) ∷ type_item (codes "badvalue") (Plain None)
    ∷ type_item (codes "lost") (Alias (name_at 0 (codes "l" ∷ codes "late" ∷ []))) ∷ []

-- a package that declares such items
abbrev pub library_with : List ℕ → List TypeItem → PackageUnit
library_with name items = record {
  name = name ∷ [];
  spot = spot 0;
  aliases = [];
  decls = [];
  library = record { blocks = record { uses = []; extends = []; items = items } ∷ []; machines = [] };
}

abbrev pub library_unit : PackageUnit
library_unit = library_with (codes "l") types

abbrev pub device_unit : PackageUnit
device_unit = record {
  name = codes "d" ∷ [];
  spot = spot 0;
  aliases = [];
  decls = [];
  library = record { blocks = []; machines = [] };
}

abbrev pub packages : List PackageUnit
packages = library_unit ∷ device_unit ∷ []

abbrev pub table : Table
table = table_of First packages
