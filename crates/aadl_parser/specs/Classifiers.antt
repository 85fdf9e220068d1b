-- Classifiers: component types, implementations and feature group types, with their sections.
use Rattle.std.specs.Prelude.{ℕ, List, [], ◌∷◌, ◌++◌, Option, Some, None, codes}
use Rattle.plain_values.specs.declared.spot.Spot.{Spot}
use Rattle.aadl_syntax.specs.declared.core_model.Category.{Category}
use Rattle.aadl_syntax.specs.declared.core_model.Decl.{Decl}
use Rattle.aadl_parser.specs.declared.names.Classifier.{Classifier}
use Rattle.grammar_rules.specs.Rules.{Rule, gives, chooses, gathers, ◌>>=◌}
use Rattle.grammar_rules.specs.Spans.{until, ends_to_end}
use Rattle.grammar_rules.specs.Tokens.{spot, word, sign, is_word, is_sign, is_one_of}
use Rattle.aadl_parser.specs.Words.{section_words, skipped_words, inner_words, ending_words, any_of}
use Rattle.aadl_parser.specs.Names.{core_name, dotted_name, reference, category}
use Rattle.aadl_parser.specs.Runs.{past, bindings, ends_past}
use Rattle.aadl_parser.specs.Features.{features_after}
use Rattle.aadl_parser.specs.Subcomponents.{subcomponents_after}
use Rattle.aadl_parser.specs.Connections.{connections_after}
use Rattle.aadl_parser.specs.Annexes.{clause_annex}

unfoldable pub features_section : Decl → Rule Decl
features_section decl = do
  features ← features_after decl.features
  gives (record decl { features = features })

unfoldable pub subcomponents_section : Decl → Rule Decl
subcomponents_section decl = do
  subcomponents ← subcomponents_after decl.subcomponents
  gives (record decl { subcomponents = subcomponents })

unfoldable pub connections_section : Decl → Rule Decl
connections_section decl = do
  connections ← connections_after decl.connections
  gives (record decl { connections = connections })

unfoldable pub annex_section : Decl → Rule Decl
annex_section decl = do
  clauses ← clause_annex decl.clauses
  gives (record decl { clauses = clauses })

-- past, where it is exactly `none` and `;`, and else this place too
unfoldable pub prototypes_at : Spot → Rule (Option Spot)
prototypes_at at = chooses (is_word (codes "none") ∷ is_sign (codes ";") ∷ is_one_of ending_words ∷ [])
    (do
      _ ← past
      gives None)
    (do
      _ ← past
      gives (Some at))

-- "prototypes" past, with its place where it is not `none`
unfoldable pub prototypes : Rule (Option Spot)
prototypes = do
  at ← spot
  _ ← word (codes "prototypes")
  prototypes_at at

-- the first of two places
abbrev pub first_place : Option Spot → Option Spot → Option Spot
first_place (Some at) later = Some at
first_place None later = later

unfoldable pub prototypes_section : Decl → Rule Decl
prototypes_section decl = do
  at ← prototypes
  gives (record decl { prototypes = first_place decl.prototypes at })

-- "requires" "modes" past
unfoldable pub required_modes : Rule (Unit {0})
required_modes = do
  _ ← word (codes "requires")
  _ ← word (codes "modes")
  past

-- ( "internal" | "processor" ) "features" past
unfoldable pub inner_features : Rule (Unit {0})
inner_features = do
  _ ← any_of inner_words
  _ ← word (codes "features")
  past

-- ( "flows" | "modes" | "calls" ) past
unfoldable pub skipped : Rule (Unit {0})
skipped = do
  _ ← any_of skipped_words
  past

-- ( "flows" | "modes" | "calls" | "requires" "modes" | "internal" "features" | "processor" "features" ) past
unfoldable pub skipped_part : Rule (Unit {0})
skipped_part = chooses (is_word (codes "requires") ∷ []) required_modes
    (chooses (is_one_of inner_words ∷ []) inner_features skipped)

unfoldable pub skipped_section : Decl → Rule Decl
skipped_section decl = do
  _ ← skipped_part
  gives decl

-- "properties" past, whose tokens are kept
unfoldable pub properties_section : Decl → Rule Decl
properties_section decl = do
  _ ← word (codes "properties")
  tokens ← until ends_past
  gives (record decl { properties = decl.properties ++ tokens ∷ [] })

-- the sections other than those of members
unfoldable pub other_section : Decl → Rule Decl
other_section decl = chooses (is_word (codes "annex") ∷ []) (annex_section decl)
    (chooses (is_word (codes "prototypes") ∷ []) (prototypes_section decl)
    (chooses (is_word (codes "properties") ∷ []) (properties_section decl) (skipped_section decl)))

-- a section of the classifier, by its first word
unfoldable pub section : Decl → Rule Decl
section decl = chooses (is_word (codes "features") ∷ []) (features_section decl)
    (chooses (is_word (codes "subcomponents") ∷ []) (subcomponents_section decl)
    (chooses (is_word (codes "connections") ∷ []) (connections_section decl) (other_section decl)))

-- { section }
unfoldable pub sections : Decl → Rule Decl
sections decl = gathers (is_one_of section_words ∷ []) section decl

-- ext = "extends" ref [ "(" balanced ")" ]
unfoldable pub extension : Rule Classifier
extension = do
  _ ← word (codes "extends")
  its_reference ← reference
  binds ← bindings
  gives (record { reference = Some its_reference; binds = binds })

-- [ ext ]
unfoldable pub optional_extension : Rule Classifier
optional_extension = chooses (is_word (codes "extends") ∷ []) extension (gives (record { reference = None; binds = None }))

-- a classifier of this category, name, item and place, with what it extends, and without sections
abbrev pub bare_decl : Category → List ℕ → Option (List ℕ) → Spot → Classifier → Decl
bare_decl of name item at extended = record { category = of; name = name; item = item; spot = at; extends = extended.reference; binds = extended.binds; prototypes = None; features = []; subcomponents = []; connections = []; clauses = []; properties = [] }

-- [ ext ] { section }, of the classifier of this category, name, item and place
unfoldable pub decl_of : Category → List ℕ → Option (List ℕ) → Spot → Rule Decl
decl_of of name item at = do
  extended ← optional_extension
  sections (bare_decl of name item at extended)

-- "end" ID ";"
unfoldable pub type_end : Rule (Unit {0})
type_end = do
  _ ← word (codes "end")
  _ ← core_name
  sign (codes ";")

-- [ ext ] { section } "end" ID ";", of the component type of this category, name and place
unfoldable pub type_body : Category → List ℕ → Spot → Rule Decl
type_body of name at = do
  decl ← decl_of of name None at
  _ ← type_end
  gives decl

-- ID [ ext ] { section } "end" ID ";", of this category
unfoldable pub component_type : Category → Rule Decl
component_type of = do
  at ← spot
  name ← core_name
  type_body of name at

-- "end" ID "." ID ";"
unfoldable pub implementation_end : Rule (Unit {0})
implementation_end = do
  _ ← word (codes "end")
  _ ← core_name
  _ ← dotted_name
  sign (codes ";")

-- [ ext ] { section } "end" ID "." ID ";", of the implementation of this category, name, item and place
unfoldable pub implementation_body : Category → List ℕ → List ℕ → Spot → Rule Decl
implementation_body of name item at = do
  decl ← decl_of of name (Some item) at
  _ ← implementation_end
  gives decl

-- "implementation" ID "." ID [ ext ] { section } "end" ID "." ID ";", of this category
unfoldable pub implementation : Category → Rule Decl
implementation of = do
  _ ← word (codes "implementation")
  at ← spot
  name ← core_name
  item ← dotted_name
  implementation_body of name item at

-- category ID [ ext ] { section } "end" ID ";" | category "implementation" ID "." ID [ ext ] { section } "end" ID "." ID ";"
unfoldable pub classifier : Rule Decl
classifier = do
  of ← category
  chooses (is_word (codes "implementation") ∷ []) (implementation of) (component_type of)

-- "feature" "group" ID to-end "end" ID ";": a feature group type has no value
unfoldable pub group_type : Rule (Unit {0})
group_type = do
  _ ← word (codes "feature")
  _ ← word (codes "group")
  _ ← core_name
  _ ← until ends_to_end
  type_end
