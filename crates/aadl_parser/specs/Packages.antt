-- The units of a file: packages and property sets.
use Rattle.std.specs.Prelude.{ℕ, List, [], ◌∷◌, ◌++◌, Option, Some, None, codes}
use Rattle.plain_values.specs.declared.spot.Spot.{Spot}
use Rattle.aadl_syntax.specs.declared.core_model.Alias.{Alias}
use Rattle.aadl_syntax.specs.declared.core_model.PackageUnit.{PackageUnit}
use Rattle.aadl_syntax.specs.declared.core_model.Unit.{Unit as FileUnit}
use Rattle.aadl_syntax.specs.declared.core_model.Unit.TheVariants as file_unit
use Rattle.grammar_rules.specs.Rules.{Rule, gives, chooses, gathers, ◌>>=◌}
use Rattle.grammar_rules.specs.Parts.{parts_after}
use Rattle.grammar_rules.specs.Spans.{until, ends_to_end}
use Rattle.grammar_rules.specs.Tokens.{spot, word, sign, is_word, is_one_of}
use Rattle.aadl_parser.specs.Words.{unit_words, is_name, begins_declaration}
use Rattle.aadl_parser.specs.Names.{core_name, names, with_packages}
use Rattle.aadl_parser.specs.Runs.{past}
use Rattle.aadl_parser.specs.Annexes.{library_annex}
use Rattle.aadl_parser.specs.Aliases.{named_alias, unnamed_alias}
use Rattle.aadl_parser.specs.Classifiers.{classifier, group_type, type_end}

-- aliases, and one more where there is one
abbrev pub with_alias : List Alias → Option Alias → List Alias
with_alias aliases None = aliases
with_alias aliases (Some alias) = aliases ++ alias ∷ []

unfoldable pub named_alias_part : PackageUnit → Rule PackageUnit
named_alias_part whole = do
  alias ← named_alias
  gives (record whole { aliases = with_alias whole.aliases alias })

unfoldable pub unnamed_alias_part : PackageUnit → Rule PackageUnit
unnamed_alias_part whole = do
  alias ← unnamed_alias
  gives (record whole { aliases = with_alias whole.aliases alias })

unfoldable pub classifier_part : PackageUnit → Rule PackageUnit
classifier_part whole = do
  decl ← classifier
  gives (record whole { decls = whole.decls ++ decl ∷ [] })

unfoldable pub annex_part : PackageUnit → Rule PackageUnit
annex_part whole = do
  library ← library_annex whole.library
  gives (record whole { library = library })

unfoldable pub with_part : PackageUnit → Rule PackageUnit
with_part whole = do
  _ ← with_packages
  gives whole

unfoldable pub group_part : PackageUnit → Rule PackageUnit
group_part whole = do
  _ ← group_type
  gives whole

-- "feature" "group" .. | annex ";" | category ..
unfoldable pub other_declaration : PackageUnit → Rule PackageUnit
other_declaration whole = chooses (is_word (codes "feature") ∷ []) (group_part whole)
    (chooses (is_word (codes "annex") ∷ []) (annex_part whole) (classifier_part whole))

-- decl = "with" .. | [ ID ] "renames" .. | "feature" "group" .. | category .. | annex ";", as a part of the package
unfoldable pub declaration : PackageUnit → Rule PackageUnit
declaration whole = chooses (is_name ∷ []) (named_alias_part whole)
    (chooses (is_word (codes "renames") ∷ []) (unnamed_alias_part whole)
    (chooses (is_word (codes "with") ∷ []) (with_part whole) (other_declaration whole)))

-- { decl }
unfoldable pub declarations : PackageUnit → Rule PackageUnit
declarations whole = gathers (begins_declaration ∷ []) declaration whole

-- [ "public" { decl } ], or the same with "private"
unfoldable pub package_part : List ℕ → PackageUnit → Rule PackageUnit
package_part name whole = chooses (is_word name ∷ [])
    (do
      _ ← word name
      declarations whole)
    (gives whole)

-- [ "properties" past ]
unfoldable pub package_properties : Rule (Unit {0})
package_properties = chooses (is_word (codes "properties") ∷ [])
    (do
      _ ← word (codes "properties")
      past)
    (gives tt)

-- "end" names ";"
unfoldable pub package_end : Rule (Unit {0})
package_end = do
  _ ← word (codes "end")
  _ ← names
  sign (codes ";")

-- a package of this name and place without declarations
abbrev pub empty_package : List (List ℕ) → Spot → PackageUnit
empty_package name at = record { name = name; spot = at; aliases = []; decls = []; library = record { blocks = []; machines = [] } }

-- [ "public" { decl } ] [ "private" { decl } ] [ "properties" past ] "end" names ";"
unfoldable pub package_body : PackageUnit → Rule FileUnit
package_body whole = do
  public_part ← package_part (codes "public") whole
  both_parts ← package_part (codes "private") public_part
  _ ← package_properties
  _ ← package_end
  gives (file_unit.Package both_parts)

-- "package" names [ "public" { decl } ] [ "private" { decl } ] [ "properties" past ] "end" names ";"
unfoldable pub package_unit : Rule FileUnit
package_unit = do
  _ ← word (codes "package")
  at ← spot
  name ← names
  package_body (empty_package name at)

-- "property" "set"
unfoldable pub property_set_head : Rule (Unit {0})
property_set_head = do
  _ ← word (codes "property")
  word (codes "set")

-- "property" "set" ID "is" to-end "end" ID ";"
unfoldable pub property_set : Rule FileUnit
property_set = do
  _ ← property_set_head
  at ← spot
  name ← core_name
  _ ← word (codes "is")
  _ ← until ends_to_end
  _ ← type_end
  gives (file_unit.PropertySet name at)

-- unit = "property" "set" .. | "package" ..
unfoldable pub unit : Rule FileUnit
unit = chooses (is_word (codes "property") ∷ []) property_set package_unit

-- file = unit { unit }
unfoldable pub file_units : Rule (List FileUnit)
file_units = do
  first ← unit
  parts_after (first ∷ []) (is_one_of unit_words ∷ []) unit
