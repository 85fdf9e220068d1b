-- The grammar of error model text: the library of a package, and the clause of a classifier.
use Rattle.std.specs.Prelude.{[], ◌∷◌, ◌++◌, Some, None, codes}
use Rattle.plain_values.specs.declared.spot.Spot.{Spot}
use Rattle.aadl_syntax.specs.declared.place.Ref.{Ref}
use Rattle.aadl_syntax.specs.declared.error_model.Emv2Library.{Emv2Library}
use Rattle.aadl_syntax.specs.declared.error_model.Emv2Clause.{Emv2Clause}
use Rattle.grammar_rules.specs.Rules.{Rule, gives, chooses, gathers, ◌>>=◌}
use Rattle.grammar_rules.specs.Spans.{until_inside, ends_to_end}
use Rattle.grammar_rules.specs.Tokens.{word, sign, is_word, is_one_of, spot}
use Rattle.emv2_parts.specs.Words.{library_words, clause_words, begins_paths}
use Rattle.emv2_parts.specs.Names.{error_name, names, reference, use_types_after}
use Rattle.emv2_parts.specs.Properties.{properties_after}
use Rattle.emv2_parts.specs.Types.{types_block}
use Rattle.emv2_parser.specs.Machines.{machine}
use Rattle.emv2_parser.specs.Propagations.{clause_propagations}
use Rattle.emv2_parser.specs.Behavior.{clause_component, clause_composites, clause_connection, clause_paths}

-- "mappings" | "transformations"
unfoldable pub mapping_word : Rule (Unit {0})
mapping_word = chooses (is_word (codes "mappings") ∷ []) (word (codes "mappings")) (word (codes "transformations"))

-- "end" ( "mappings" | "transformations" ) ";"
unfoldable pub mapping_end : Rule (Unit {0})
mapping_end = do
  _ ← word (codes "end")
  _ ← mapping_word
  sign (codes ";")

-- "type" ( "mappings" | "transformations" ) ID to-end "end" ( "mappings" | "transformations" ) ";"
unfoldable pub type_mapping : Rule (Unit {0})
type_mapping = do
  _ ← word (codes "type")
  _ ← mapping_word
  _ ← error_name
  _ ← until_inside ends_to_end
  mapping_end

unfoldable pub library_types : Emv2Library → Rule Emv2Library
library_types library = do
  block ← types_block
  gives (record library { blocks = library.blocks ++ block ∷ [] })

unfoldable pub library_machine : Emv2Library → Rule Emv2Library
library_machine library = do
  its_machine ← machine
  gives (record library { machines = library.machines ++ its_machine ∷ [] })

unfoldable pub library_mapping : Emv2Library → Rule Emv2Library
library_mapping library = do
  _ ← type_mapping
  gives library

-- a block of types, a machine, or type mappings, which mean nothing here, as a part of the library
unfoldable pub library_block : Emv2Library → Rule Emv2Library
library_block library = chooses (is_word (codes "error") ∷ is_word (codes "types") ∷ []) (library_types library)
    (chooses (is_word (codes "error") ∷ []) (library_machine library) (library_mapping library))

-- library = { "error" "types" .. | "error" "behavior" .. | "type" .. }: the library, with further blocks after those that were
-- read before
unfoldable pub library_after : Emv2Library → Rule Emv2Library
library_after library = gathers (is_one_of library_words ∷ []) library_block library

unfoldable pub clause_uses : Emv2Clause → Rule Emv2Clause
clause_uses clause = do
  uses ← use_types_after clause.uses
  gives (record clause { uses = uses })

-- "use" "behavior" names ";"
unfoldable pub used_machine : Rule Ref
used_machine = do
  _ ← word (codes "use")
  _ ← word (codes "behavior")
  its_machine ← reference
  _ ← sign (codes ";")
  gives its_machine

-- a machine that is used: the last one counts
unfoldable pub clause_machine : Emv2Clause → Rule Emv2Clause
clause_machine clause = do
  its_machine ← used_machine
  gives (record clause { machine = Some its_machine })

-- "type" "equivalence" | "mappings"
unfoldable pub mapping_kind : Rule (Unit {0})
mapping_kind = chooses (is_word (codes "type") ∷ [])
    (do
      _ ← word (codes "type")
      word (codes "equivalence"))
    (word (codes "mappings"))

-- "use" "type" "equivalence" names ";" | "use" "mappings" names ";": the place of the word `use`
unfoldable pub used_mapping : Rule Spot
used_mapping = do
  at ← spot
  _ ← word (codes "use")
  _ ← mapping_kind
  _ ← names
  _ ← sign (codes ";")
  gives at

unfoldable pub clause_mapping : Emv2Clause → Rule Emv2Clause
clause_mapping clause = do
  at ← used_mapping
  gives (record clause { mappings = clause.mappings ++ at ∷ [] })

-- the parts of a clause that begin with `use`
unfoldable pub clause_use : Emv2Clause → Rule Emv2Clause
clause_use clause = chooses (is_word (codes "use") ∷ is_word (codes "types") ∷ []) (clause_uses clause)
    (chooses (is_word (codes "use") ∷ is_word (codes "behavior") ∷ []) (clause_machine clause) (clause_mapping clause))

unfoldable pub clause_properties : Emv2Clause → Rule Emv2Clause
clause_properties clause = do
  associations ← properties_after clause.associations
  gives (record clause { associations = associations })

-- the parts of a clause on connections, paths and properties
unfoldable pub clause_other : Emv2Clause → Rule Emv2Clause
clause_other clause = chooses (is_word (codes "connection") ∷ []) (clause_connection clause)
    (chooses (begins_paths ∷ []) (clause_paths clause) (clause_properties clause))

-- the parts of a clause on the behavior of a component, and those on connections, paths and properties
unfoldable pub clause_behavior : Emv2Clause → Rule Emv2Clause
clause_behavior clause = chooses (is_word (codes "component") ∷ []) (clause_component clause)
    (chooses (is_word (codes "composite") ∷ []) (clause_composites clause) (clause_other clause))

-- a part of the clause, by its first word
unfoldable pub clause_part : Emv2Clause → Rule Emv2Clause
clause_part clause = chooses (is_word (codes "use") ∷ []) (clause_use clause)
    (chooses (is_word (codes "error") ∷ []) (clause_propagations clause) (clause_behavior clause))

-- a clause at this place without parts
abbrev pub empty_clause : Spot → Emv2Clause
empty_clause at = record { spot = at; uses = []; machine = None; mappings = []; points = []; flows = []; events = []; transitions = []; outgoing = []; composites = []; connection_errors = []; user_points = []; user_paths = []; associations = [] }

-- { "use" .. | "error" .. | .. }
unfoldable pub clause_parts : Emv2Clause → Rule Emv2Clause
clause_parts clause = gathers (is_one_of clause_words ∷ []) clause_part clause

-- clause = { "use" .. | "error" .. | "component" .. | "composite" .. | "connection" .. | "propagation" .. | "properties" .. },
-- inside of the text of a file
unfoldable pub clause_inside : Rule Emv2Clause
clause_inside = do
  at ← spot
  clause_parts (empty_clause at)
