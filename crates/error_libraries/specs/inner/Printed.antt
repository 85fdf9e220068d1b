-- Beside specs/Printed.antt: what no clause of `run` reaches.
use Rattle.std.specs.Prelude.{◌≡◌, ℕ, List, Some}
use Rattle.std.specs.List.{AllByRecursion}
use Rattle.plain_values.specs.Order.{IsClear}
use Rattle.aadl_syntax.specs.inner.Token.{IsIdentifier}
use Rattle.profiles.specs.declared.profile.Profile.{Profile}
use Rattle.aadl_syntax.specs.declared.core_model.PackageUnit.{PackageUnit}
use Rattle.package_index.specs.Duplicates.{IsDuplicate}
use Rattle.error_libraries.specs.Libraries.{table_of}
use Rattle.error_libraries.specs.Printed.{TypeName, name_of, printed}

-- The parts of a name are identifiers.
pub record AreIdentifiers (parts : TypeName) : Type 0 where
  pub library : AllByRecursion IsIdentifier parts.library
  pub name : IsIdentifier parts.name

-- Types of different numbers print differently, where nothing is declared twice.
abbrev pub PrintApart : Profile → List PackageUnit → Type 0
PrintApart profile packages =
    IsClear (IsDuplicate packages) → (a b : ℕ) (name other : TypeName) → name_of (table_of profile packages) a ≡ Some name → name_of (table_of profile packages) b ≡ Some other → AreIdentifiers name → AreIdentifiers other → printed name ≡ printed other → a ≡ b
