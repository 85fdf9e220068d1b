-- What a component of an FMEA sheet is, and where what goes wrong in it is felt next.
use Rattle.std.specs.Prelude.{ℕ, ◌==◌, ◌&&◌, ◌||◌, Bool, false, not, List, [], ◌∷◌, ◌++◌, codes, filter, flat_map, length, map, slice_get, Option, None, Some, option_and_then}
use Rattle.std.specs.List.{list_any}
use Rattle.std.specs.Option.{option_map_or}
use Rattle.plain_values.specs.Numbered.{numbers_below}
use Rattle.aadl_syntax.specs.declared.core_model.Category.{Category}
use Rattle.aadl_syntax.specs.declared.core_model.Decl.{Decl}
use Rattle.aadl_syntax.specs.declared.core_model.PackageUnit.{PackageUnit}
use Rattle.package_index.specs.declared.id.ClassifierId.{ClassifierId}
use Rattle.package_index.specs.Lookup.{decl_of}
use Rattle.package_index.specs.Names.{front}
use Rattle.instantiator.specs.declared.path.Component.{Component}
use Rattle.instantiator.specs.Components.{component_below}
use Rattle.instantiator.specs.Whole.{Instance, classifier_at}
use Rattle.propagation_links.specs.declared.link.Link.{Link}
use Rattle.model_facts.specs.Assembly.{Assembly}
use Rattle.sheet_model.specs.declared.part.Part.{Part}

-- ---- what a component is

-- a second word of a category, behind a blank
abbrev pub second_word : Option (List ℕ) → List ℕ
second_word None = []
second_word (Some word) = 32 ∷ word

-- the words of a category with a blank between them, as `device` or `virtual bus`
abbrev pub category_text : Category → List ℕ
category_text category = category.word ++ second_word category.second

-- the declaration of a classifier, if there is one
abbrev pub decl_in : List PackageUnit → Option ClassifierId → Option Decl
decl_in packages classifier = option_and_then (decl_of packages) classifier

-- the words of the category of a classifier; empty where there is none
abbrev pub category_of : List PackageUnit → Option ClassifierId → List ℕ
category_of packages classifier = option_map_or (λ decl. category_text decl.category) (decl_in packages classifier) []

-- the names of a package with `::` between them
abbrev pub joined : List (List ℕ) → List ℕ
joined [] = []
joined (name ∷ names) = name ++ flat_map (λ other. 58 ∷ 58 ∷ other) names

-- the item of an implementation, behind a dot
abbrev pub dotted : Option (List ℕ) → List ℕ
dotted None = []
dotted (Some item) = 46 ∷ item

-- the name of a classifier with its package, as `Flight::Display.basic`
abbrev pub classifier_text : PackageUnit → Decl → List ℕ
classifier_text unit decl = joined unit.name ++ (codes "::" ++ (decl.name ++ dotted decl.item))

-- the same, where both are there
abbrev pub text_in : Option PackageUnit → Option Decl → List ℕ
text_in None decl = []
text_in (Some unit) None = []
text_in (Some unit) (Some decl) = classifier_text unit decl

-- the name of a classifier with its package; empty where there is none
abbrev pub classifier_of : List PackageUnit → Option ClassifierId → List ℕ
classifier_of packages None = []
classifier_of packages (Some id) = text_in (slice_get packages id.«package») (decl_of packages id)

-- ---- where it is felt next

-- the component that has this path without its last name: the one in which that of the path stands; the root stands in none
abbrev pub holder_at : List Component → List (List ℕ) → Option ℕ
holder_at components [] = None
holder_at components (name ∷ names) = component_below components 0 (front (name ∷ names))

-- the component in which that of a number stands
abbrev pub holder_of : Instance → ℕ → Option ℕ
holder_of instance number = option_and_then (λ component. holder_at instance.components component.path) (slice_get instance.components number)

-- whether the one component stands right in the other
abbrev pub stands_in : Instance → ℕ → ℕ → Bool
stands_in instance number other = option_map_or (λ holder. holder == other) (holder_of instance number) false

-- whether a link leads from the one component to the other
abbrev pub leads_to : List Link → ℕ → ℕ → Bool
leads_to links number other = list_any (λ link. (link.from.component == number) && (link.to.component == other)) links

-- Whether what goes wrong in the one component is felt next in the other: that is another component, in which this one stands or to which a
-- link leads from it.
abbrev pub is_next : Instance → List Link → ℕ → ℕ → Bool
is_next instance links number other = not (other == number) && (stands_in instance number other || leads_to links number other)

-- The components in which what goes wrong in that of a number is felt next, rising.
abbrev pub next_of : Instance → List Link → ℕ → List ℕ
next_of instance links number = filter (is_next instance links number) (numbers_below (length instance.components))

-- ---- all components

-- what the component of a number is
abbrev pub part_of : Instance → List Link → ℕ → Part
part_of instance links number = record {
  category = category_of instance.packages (classifier_at instance number);
  classifier = classifier_of instance.packages (classifier_at instance number);
  next = next_of instance links number;
}

-- What each component of a model is, in order.
abbrev pub parts_of : Assembly → List Part
parts_of assembly = map (part_of assembly.instance assembly.links) (numbers_below (length assembly.instance.components))
