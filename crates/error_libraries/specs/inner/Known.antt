-- What is remembered of searches for names.
use Rattle.std.specs.Prelude.{◌≡◌, ℕ, Bool, ◌&&◌, List, [], nat_eq, Option, Some}
use denote.Ref.{Bor}
use Rattle.aadl_syntax.specs.declared.core_model.PackageUnit.{PackageUnit}
use Rattle.profiles.specs.declared.profile.Profile.TheVariants.{First}
use Rattle.package_index.specs.inner.Tables.{same_text}
use Rattle.error_libraries.specs.declared.known.Found.{Found}
use Rattle.error_libraries.specs.Libraries.{Library, Table}
use Rattle.error_libraries.specs.Search.{search}

-- a search: the number of a library, and the name that is searched for in it
abbrev pub SearchKey : Type 0
SearchKey = ℕ × Bor (List ℕ)

-- whether two searches are the same
abbrev pub same_search : SearchKey → SearchKey → Bool
same_search a b = nat_eq a.0 b.0 && same_text a.1 b.1

-- This is what the search finds, with its first refusal.
pub record IsFound (libraries : List Library) (key : SearchKey) (found : Found) : Type 0 where
  pub looked : (search libraries key.1.now key.0).found ≡ found.looked
  pub first : (search libraries key.1.now key.0).first ≡ found.first

-- What is remembered of searches is what they find.
abbrev pub AreFound : List Library → (SearchKey → Option Found) → Type 0
AreFound libraries known = (key : SearchKey) (found : Found) → known key ≡ Some found → IsFound libraries key found

-- these packages and libraries, and no types, by which no name is looked up, nor by the profile
abbrev pub of_libraries : List PackageUnit → List Library → Table
of_libraries packages libraries = record { profile = First; packages = packages; libraries = libraries; types = [] }
