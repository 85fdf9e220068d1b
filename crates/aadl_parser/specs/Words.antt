-- The words of core text, and what begins its parts.
use Rattle.std.specs.Prelude.{ℕ, ◌||◌, List, [], ◌∷◌, codes}
use Rattle.grammar_rules.specs.Rules.{Test, Rule, gives, chooses}
use Rattle.grammar_rules.specs.Tokens.{word, is_word, is_identifier, is_one_of, passing}

-- the words that the grammar of core text quotes: they are reserved there
unfoldable pub core_words : List (List ℕ)
core_words = codes "abstract" ∷ codes "access" ∷ codes "all" ∷ codes "annex" ∷ codes "bus" ∷ codes "calls" ∷ codes "connections" ∷ codes "data" ∷ codes "device" ∷ codes "end" ∷ codes "event" ∷ codes "extends" ∷ codes "feature" ∷ codes "features" ∷ codes "flows" ∷ codes "group" ∷ codes "implementation" ∷ codes "in" ∷ codes "internal" ∷ codes "is" ∷ codes "memory" ∷ codes "modes" ∷ codes "none" ∷ codes "out" ∷ codes "package" ∷ codes "parameter" ∷ codes "port" ∷ codes "private" ∷ codes "process" ∷ codes "processor" ∷ codes "properties" ∷ codes "property" ∷ codes "prototypes" ∷ codes "provides" ∷ codes "public" ∷ codes "refined" ∷ codes "renames" ∷ codes "requires" ∷ codes "set" ∷ codes "subcomponents" ∷ codes "subprogram" ∷ codes "system" ∷ codes "thread" ∷ codes "to" ∷ codes "virtual" ∷ codes "with" ∷ []

-- the first words of the units of a file
unfoldable pub unit_words : List (List ℕ)
unit_words = codes "property" ∷ codes "package" ∷ []

-- the first words of the declarations of a package
unfoldable pub declaration_words : List (List ℕ)
declaration_words = codes "with" ∷ codes "renames" ∷ codes "feature" ∷ codes "annex" ∷ codes "abstract" ∷ codes "data" ∷ codes "subprogram" ∷ codes "thread" ∷ codes "process" ∷ codes "memory" ∷ codes "processor" ∷ codes "virtual" ∷ codes "bus" ∷ codes "device" ∷ codes "system" ∷ []

-- the categories of one word, to which no other belongs
unfoldable pub category_words : List (List ℕ)
category_words = codes "abstract" ∷ codes "data" ∷ codes "process" ∷ codes "memory" ∷ codes "processor" ∷ codes "bus" ∷ codes "device" ∷ codes "system" ∷ []

-- the words behind which a category may have `group`
unfoldable pub grouped_words : List (List ℕ)
grouped_words = codes "subprogram" ∷ codes "thread" ∷ []

-- the word of a category that may follow these
unfoldable pub group_words : List (List ℕ)
group_words = codes "group" ∷ []

-- the first word of a category that has always two
unfoldable pub virtual_words : List (List ℕ)
virtual_words = codes "virtual" ∷ []

-- the words of a category that follow `virtual`
unfoldable pub platform_words : List (List ℕ)
platform_words = codes "processor" ∷ codes "bus" ∷ []

-- the first words of the sections of a classifier
unfoldable pub section_words : List (List ℕ)
section_words = codes "features" ∷ codes "subcomponents" ∷ codes "connections" ∷ codes "prototypes" ∷ codes "flows" ∷ codes "modes" ∷ codes "calls" ∷ codes "properties" ∷ codes "requires" ∷ codes "internal" ∷ codes "processor" ∷ codes "annex" ∷ []

-- the words of sections that are read past
unfoldable pub skipped_words : List (List ℕ)
skipped_words = codes "flows" ∷ codes "modes" ∷ codes "calls" ∷ []

-- the words before `features` of sections that are read past
unfoldable pub inner_words : List (List ℕ)
inner_words = codes "internal" ∷ codes "processor" ∷ []

-- the words that end a section that is read past, where an item can begin
unfoldable pub ending_words : List (List ℕ)
ending_words = codes "prototypes" ∷ codes "features" ∷ codes "subcomponents" ∷ codes "connections" ∷ codes "flows" ∷ codes "modes" ∷ codes "calls" ∷ codes "properties" ∷ codes "requires" ∷ codes "internal" ∷ codes "processor" ∷ codes "annex" ∷ codes "end" ∷ []

-- the words of a direction
unfoldable pub direction_words : List (List ℕ)
direction_words = codes "in" ∷ codes "out" ∷ []

-- the word that may begin an end of a connection in the place of an identifier
unfoldable pub processor_words : List (List ℕ)
processor_words = codes "processor" ∷ []

-- an identifier: a word that is not reserved
unfoldable pub is_name : Test
is_name token = is_identifier core_words token

-- what begins a declaration of a package
unfoldable pub begins_declaration : Test
begins_declaration token = is_name token || is_one_of declaration_words token

-- what begins an end of a connection
unfoldable pub begins_end : Test
begins_end token = is_name token || is_one_of processor_words token

-- one of these words
unfoldable pub any_of : List (List ℕ) → Rule (Unit {0})
any_of words = passing (is_one_of words)

-- this word, where it stands
unfoldable pub optional_word : List ℕ → Rule (Unit {0})
optional_word text = chooses (is_word text ∷ []) (word text) (gives tt)

-- the first of two words, where it stands, and else the second
unfoldable pub either_word : List ℕ → List ℕ → Rule (Unit {0})
either_word one other = chooses (is_word one ∷ []) (word one) (word other)
