-- Implementations that are not looked at, since the root is a component type (AADL): a type has no parts.
use Rattle.std.specs.Prelude.{ℕ, cond, List, [], ◌∷◌, ◌++◌, codes, flat_map, slice_get, Option, Some, None}
use Rattle.std.specs.Option.{option_map_or}
use Rattle.aadl_syntax.specs.declared.core_model.Decl.{Decl}
use Rattle.aadl_syntax.specs.declared.core_model.PackageUnit.{PackageUnit}
use Rattle.plain_values.specs.Name.{is_same_text}
use Rattle.package_index.specs.declared.id.ClassifierId.{ClassifierId}
use Rattle.package_index.specs.Lookup.{decl_of}
use Rattle.instantiator.specs.Whole.{Instance, classifier_at}
use Rattle.unread_parts.specs.declared.root.Implementation.{Implementation}

-- the name of an implementation of a package: `p::s.i`
abbrev pub implementation_name : PackageUnit → List ℕ → List ℕ → List ℕ
implementation_name unit name item = flat_map (λ part. part ++ codes "::") unit.name ++ (name ++ (codes "." ++ item))

-- a classifier of a package with this item, if it has one: its name, and where it stands
abbrev pub implementation_with : PackageUnit → Decl → Option (List ℕ) → List Implementation
implementation_with unit decl None = []
implementation_with unit decl (Some item) = record { name = implementation_name unit decl.name item; spot = decl.spot } ∷ []

-- a classifier of a package, if it is an implementation of the type of this name
abbrev pub implementing : PackageUnit → List ℕ → Decl → List Implementation
implementing unit name decl = cond (is_same_text decl.name name) (implementation_with unit decl decl.item) []

-- the implementations of a classifier of a package with this item; an implementation has none
abbrev pub implementations_in : PackageUnit → List ℕ → Option (List ℕ) → List Implementation
implementations_in unit name None = flat_map (implementing unit name) unit.decls
implementations_in unit name (Some item) = []

-- the implementations of a classifier of the package of a number
abbrev pub implementations_of : List PackageUnit → ℕ → Decl → List Implementation
implementations_of packages number decl = option_map_or (λ unit. implementations_in unit decl.name decl.item) (slice_get packages number) []

-- the implementations of a classifier
abbrev pub implementations_at : List PackageUnit → ClassifierId → List Implementation
implementations_at packages id = option_map_or (implementations_of packages id.«package») (decl_of packages id) []

-- The implementations of the root, where it is a component type.
abbrev pub root_implementations : Instance → List Implementation
root_implementations instance = option_map_or (implementations_at instance.packages) (classifier_at instance 0) []
