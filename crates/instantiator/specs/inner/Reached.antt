-- What the names of a path lead to, in words of effective subcomponents alone, and which of two paths comes first.
use Rattle.std.specs.Prelude.{◌≡◌, ℕ, Bool, true, false, cond, nat_lt, IsTrue, List, [], ◌∷◌, find, position, AllPairs, Option, Some, None, option_and_then, option_map}
use Rattle.std.specs.Option.{option_map_or}
use Rattle.plain_values.specs.Name.{is_same_text}
use Rattle.aadl_syntax.specs.declared.core_model.PackageUnit.{PackageUnit}
use Rattle.package_index.specs.declared.id.ClassifierId.{ClassifierId}
use Rattle.package_index.specs.Names.{is_same_name}
use Rattle.instantiator.specs.Components.{Part, components_of, found, parts_of}
use Rattle.instantiator.specs.Effectives.{effective_at}

-- whether a subcomponent has the name
abbrev pub has_name : List ℕ → Part → Bool
has_name name part = is_same_text part.name name

-- the subcomponents of a component of this classifier, if it has one
abbrev pub parts_at : List PackageUnit → Option ClassifierId → List Part
parts_at packages classifier = parts_of packages (effective_at packages classifier)

-- what a name leads to from a component of this classifier: the classifier of the subcomponent of this name, if it has one
abbrev pub part_named : List PackageUnit → Option ClassifierId → List ℕ → Option (Option ClassifierId)
part_named packages classifier name = option_map (λ part. found part.classifier) (find (has_name name) (parts_at packages classifier))

-- What names lead to from a component of this classifier: each is that of an effective subcomponent of what is reached so far.
abbrev pub reached : List PackageUnit → Option ClassifierId → List (List ℕ) → Option (Option ClassifierId)
reached packages classifier [] = Some classifier
reached packages classifier (name ∷ names) = option_and_then (λ next. reached packages next names) (part_named packages classifier name)

-- The components of the root are at the paths that lead to something, and have the classifiers that are reached there.
abbrev pub AreReached : List PackageUnit → ClassifierId → Type 0
AreReached packages root =
    (path : List (List ℕ)) → option_map (λ component. component.classifier) (find (λ component. is_same_name component.path path) (components_of packages root)) ≡ reached packages (Some root) path

-- the place of the subcomponent of a name
abbrev pub part_place : List PackageUnit → Option ClassifierId → List ℕ → Option ℕ
part_place packages classifier name = position (has_name name) (parts_at packages classifier)

-- whether the one place comes before the other
abbrev pub is_earlier : Option ℕ → Option ℕ → Bool
is_earlier None b = false
is_earlier (Some i) None = false
is_earlier (Some i) (Some j) = nat_lt i j

-- Whether the one path comes before the other, from a component of this classifier on: a path stands after its own
-- beginnings, and two others go by the places of the subcomponents at which they first differ.
abbrev pub comes_before : List PackageUnit → Option ClassifierId → List (List ℕ) → List (List ℕ) → Bool
comes_before packages classifier [] [] = false
comes_before packages classifier [] (y ∷ ys) = true
comes_before packages classifier (x ∷ xs) [] = false
comes_before packages classifier (x ∷ xs) (y ∷ ys) =
    cond (is_same_text x y) (option_map_or (λ next. comes_before packages next xs ys) (part_named packages classifier x) false) (is_earlier (part_place packages classifier x) (part_place packages classifier y))

-- The components of the root come in the order of their paths.
abbrev pub AreInOrder : List PackageUnit → ClassifierId → Type 0
AreInOrder packages root = AllPairs (λ a b. IsTrue (comes_before packages (Some root) a.path b.path)) (components_of packages root)
