-- Names and references of core text.
use Rattle.std.specs.Prelude.{ℕ, ◌-◌, List, [], ◌∷◌, length, Option, Some, None, codes, get_or}
use Rattle.aadl_syntax.specs.declared.core_model.Category.{Category}
use Rattle.aadl_syntax.specs.declared.place.Ref.{Ref}
use Rattle.grammar_rules.specs.Rules.{Rule, gives, chooses, ◌>>=◌}
use Rattle.grammar_rules.specs.Parts.{parts_after}
use Rattle.grammar_rules.specs.Tokens.{spot, word, sign, identifier, one_of, is_sign, is_one_of}
use Rattle.aadl_parser.specs.Words.{core_words, category_words, grouped_words, group_words, virtual_words, platform_words, is_name}

-- ID
unfoldable pub core_name : Rule (List ℕ)
core_name = identifier core_words

-- "::" ID
unfoldable pub further_name : Rule (List ℕ)
further_name = do
  _ ← sign (codes "::")
  core_name

-- { "::" ID }, each of which is read where both stand, after other names
unfoldable pub names_after : List (List ℕ) → Rule (List (List ℕ))
names_after before = parts_after before (is_sign (codes "::") ∷ is_name ∷ []) further_name

-- names = ID { "::" ID }
unfoldable pub names : Rule (List (List ℕ))
names = do
  first ← core_name
  names_after (first ∷ [])

-- names, of which there are two or more
unfoldable pub two_names : Rule (List (List ℕ))
two_names = do
  first ← core_name
  second ← further_name
  names_after (first ∷ second ∷ [])

-- the last of some names
abbrev pub last_name : List (List ℕ) → List ℕ
last_name its_names = get_or its_names (length its_names - 1) []

-- "." ID
unfoldable pub dotted_name : Rule (List ℕ)
dotted_name = do
  _ ← sign (codes ".")
  core_name

-- [ "." ID ]
unfoldable pub optional_item : Rule (Option (List ℕ))
optional_item = chooses (is_sign (codes ".") ∷ [])
    (do
      name ← dotted_name
      gives (Some name))
    (gives None)

-- ref = names [ "." ID ]
unfoldable pub reference : Rule Ref
reference = do
  at ← spot
  its_names ← names
  item ← optional_item
  gives (record { names = its_names; item = item; spot = at })

-- "," names
unfoldable pub further_names : Rule (List (List ℕ))
further_names = do
  _ ← sign (codes ",")
  names

-- "with" names { "," names } ";"
unfoldable pub with_packages : Rule (Unit {0})
with_packages = do
  _ ← word (codes "with")
  _ ← names
  _ ← parts_after [] (is_sign (codes ",") ∷ []) further_names
  sign (codes ";")

-- [ "group" ]
unfoldable pub optional_group : Rule (Option (List ℕ))
optional_group = chooses (is_one_of group_words ∷ [])
    (do
      second ← one_of group_words
      gives (Some second))
    (gives None)

-- ( "subprogram" | "thread" ) [ "group" ]
unfoldable pub grouped_category : Rule Category
grouped_category = do
  first ← one_of grouped_words
  second ← optional_group
  gives (record { word = first; second = second })

-- "virtual" ( "processor" | "bus" )
unfoldable pub virtual_category : Rule Category
virtual_category = do
  first ← one_of virtual_words
  second ← one_of platform_words
  gives (record { word = first; second = Some second })

-- "abstract" | "data" | "process" | "memory" | "processor" | "bus" | "device" | "system"
unfoldable pub single_category : Rule Category
single_category = do
  first ← one_of category_words
  gives (record { word = first; second = None })

-- category = "abstract" | "data" | "subprogram" [ "group" ] | "thread" [ "group" ] | "process" | "memory" | "processor"
--          | "virtual" ( "processor" | "bus" ) | "bus" | "device" | "system"
unfoldable pub category : Rule Category
category = chooses (is_one_of grouped_words ∷ []) grouped_category
    (chooses (is_one_of virtual_words ∷ []) virtual_category single_category)
