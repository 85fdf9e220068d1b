-- The words of error model text, and its numbers.
use Rattle.std.specs.Prelude.{ℕ, ◌+◌, ◌-◌, ◌*◌, ◌&&◌, ◌||◌, nat_le, if◌then◌else◌, List, [], ◌∷◌, length, Some, None, codes}
use Rattle.std.specs.List.{fold, list_all}
use Rattle.aadl_syntax.specs.declared.token.TokenKind.TheVariants.{Number}
use Rattle.aadl_syntax.specs.Form.{is_digit}
use Rattle.grammar_rules.specs.Rules.{Test, Rule, takes}
use Rattle.grammar_rules.specs.Tokens.{same_kind, is_word, is_sign, is_identifier, is_one_of}

-- the words that the grammar of error model text quotes: they are reserved there
unfoldable pub error_words : List (List ℕ)
error_words = codes "access" ∷ codes "all" ∷ codes "and" ∷ codes "applies" ∷ codes "behavior" ∷ codes "binding" ∷ codes "bindings" ∷ codes "component" ∷ codes "composite" ∷ codes "connection" ∷ codes "detections" ∷ codes "end" ∷ codes "equivalence" ∷ codes "error" ∷ codes "event" ∷ codes "events" ∷ codes "extends" ∷ codes "flows" ∷ codes "in" ∷ codes "initial" ∷ codes "mappings" ∷ codes "memory" ∷ codes "mode" ∷ codes "noerror" ∷ codes "not" ∷ codes "or" ∷ codes "orless" ∷ codes "ormore" ∷ codes "others" ∷ codes "out" ∷ codes "path" ∷ codes "paths" ∷ codes "point" ∷ codes "processor" ∷ codes "propagation" ∷ codes "propagations" ∷ codes "properties" ∷ codes "recover" ∷ codes "renames" ∷ codes "repair" ∷ codes "same" ∷ codes "set" ∷ codes "sink" ∷ codes "source" ∷ codes "state" ∷ codes "states" ∷ codes "to" ∷ codes "transformations" ∷ codes "transitions" ∷ codes "type" ∷ codes "types" ∷ codes "use" ∷ codes "when" ∷ codes "with" ∷ []

-- the words that name a point: bindings and accesses of a component, and what it is bound to
unfoldable pub point_words : List (List ℕ)
point_words = codes "processor" ∷ codes "memory" ∷ codes "connection" ∷ codes "binding" ∷ codes "bindings" ∷ codes "access" ∷ []

-- the first words of the blocks of a library
unfoldable pub library_words : List (List ℕ)
library_words = codes "error" ∷ codes "type" ∷ []

-- the first words of the blocks of a machine
unfoldable pub machine_words : List (List ℕ)
machine_words = codes "use" ∷ codes "events" ∷ codes "states" ∷ codes "transitions" ∷ codes "properties" ∷ []

-- the first words of the parts of a clause
unfoldable pub clause_words : List (List ℕ)
clause_words = codes "use" ∷ codes "error" ∷ codes "component" ∷ codes "composite" ∷ codes "connection" ∷ codes "propagation" ∷ codes "properties" ∷ []

-- the first words of the blocks of a component's error behavior
unfoldable pub component_words : List (List ℕ)
component_words = codes "use" ∷ codes "events" ∷ codes "transitions" ∷ codes "propagations" ∷ codes "detections" ∷ codes "mode" ∷ []

-- an identifier: a word that is not reserved
unfoldable pub is_name : Test
is_name token = is_identifier error_words token

-- what begins a point: an identifier or a point word
unfoldable pub begins_point : Test
begins_point token = is_name token || is_one_of point_words token

-- what begins a transition or an outgoing condition: `all`, or the identifier of a label or of a state
unfoldable pub begins_source : Test
begins_source token = is_word (codes "all") token || is_name token

-- what begins a composite state: its label, or the bracket of its condition
unfoldable pub begins_composite : Test
begins_composite token = is_name token || is_sign (codes "[") token

-- what begins a block of transitions
unfoldable pub begins_transitions : Test
begins_transitions token = is_word (codes "transitions") token

-- what begins a block of outgoing conditions
unfoldable pub begins_propagations : Test
begins_propagations token = is_word (codes "propagations") token

-- what begins a block of the user's points and paths
unfoldable pub begins_paths : Test
begins_paths token = is_word (codes "propagation") token

-- the number that digits write
abbrev pub decimal : List ℕ → ℕ
decimal digits = fold (λ number digit. 10 * number + (digit - 48)) 0 digits

-- a count: one to nine decimal digits and nothing else
unfoldable pub is_count : Test
is_count token = same_kind token.kind Number && nat_le 1 (length token.text) && nat_le (length token.text) 9 && list_all is_digit token.text

-- takes a count, and gives its number
unfoldable pub count : Rule ℕ
count = takes (λ token. if is_count token then Some (decimal token.text) else None)
