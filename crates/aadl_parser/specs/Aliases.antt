-- Other names for packages and classifiers.
use Rattle.std.specs.Prelude.{ℕ, true, false, List, [], ◌∷◌, Option, Some, None, codes}
use Rattle.plain_values.specs.declared.spot.Spot.{Spot}
use Rattle.aadl_syntax.specs.declared.core_model.Alias.{Alias}
use Rattle.grammar_rules.specs.Rules.{Rule, gives, chooses, ◌>>=◌}
use Rattle.grammar_rules.specs.Tokens.{spot, word, sign, is_word}
use Rattle.aadl_parser.specs.Words.{is_name}
use Rattle.aadl_parser.specs.Names.{core_name, names, two_names, last_name, category}

-- "package" names, of the alias of this name and place
unfoldable pub package_alias : List ℕ → Spot → Rule (Option Alias)
package_alias name at = do
  _ ← word (codes "package")
  target ← names
  gives (Some (record { name = name; «package» = true; names = target; spot = at }))

-- "feature" "group" names: an alias of a feature group type has no value
unfoldable pub group_alias : Rule (Option Alias)
group_alias = do
  _ ← word (codes "feature")
  _ ← word (codes "group")
  _ ← names
  gives None

-- category names, of which there are two or more, of the alias of this name and place
unfoldable pub classifier_alias : List ℕ → Spot → Rule (Option Alias)
classifier_alias name at = do
  _ ← category
  target ← two_names
  gives (Some (record { name = name; «package» = false; names = target; spot = at }))

-- what a name renames: "package" names | ( category | "feature" "group" ) names
unfoldable pub alias_of : List ℕ → Spot → Rule (Option Alias)
alias_of name at = chooses (is_word (codes "package") ∷ []) (package_alias name at)
    (chooses (is_word (codes "feature") ∷ []) group_alias (classifier_alias name at))

-- ID "renames" ( "package" | category | "feature" "group" ) names ";"
unfoldable pub named_alias : Rule (Option Alias)
named_alias = do
  at ← spot
  name ← core_name
  _ ← word (codes "renames")
  alias ← alias_of name at
  _ ← sign (codes ";")
  gives alias

-- names "::" "all": it has no value
unfoldable pub renames_all : Rule (Option Alias)
renames_all = do
  _ ← names
  _ ← sign (codes "::")
  _ ← word (codes "all")
  gives None

-- category names, of which there are two or more: the last of them is the name
unfoldable pub last_alias : Rule (Option Alias)
last_alias = do
  _ ← category
  at ← spot
  target ← two_names
  gives (Some (record { name = last_name target; «package» = false; names = target; spot = at }))

-- names "::" "all" | ( category | "feature" "group" ) names
unfoldable pub renamed : Rule (Option Alias)
renamed = chooses (is_name ∷ []) renames_all
    (chooses (is_word (codes "feature") ∷ []) group_alias last_alias)

-- "renames" ( category | "feature" "group" ) names ";" | "renames" names "::" "all" ";"
unfoldable pub unnamed_alias : Rule (Option Alias)
unnamed_alias = do
  _ ← word (codes "renames")
  alias ← renamed
  _ ← sign (codes ";")
  gives alias
