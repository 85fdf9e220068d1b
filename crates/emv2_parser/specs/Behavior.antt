-- The error behavior of a component, of its parts together and of its connections, and the user's propagation paths.
use Rattle.std.specs.Prelude.{ℕ, List, [], ◌∷◌, ◌++◌, Option, Some, None, codes}
use Rattle.plain_values.specs.declared.spot.Spot.{Spot}
use Rattle.aadl_syntax.specs.declared.place.End.{End}
use Rattle.aadl_syntax.specs.declared.error_model.Condition.{Condition}
use Rattle.aadl_syntax.specs.declared.error_model.Outgoing.{Outgoing}
use Rattle.aadl_syntax.specs.declared.error_model.Composite.{Composite}
use Rattle.aadl_syntax.specs.declared.error_model.Emv2Clause.{Emv2Clause}
use Rattle.aadl_syntax.specs.declared.error_model.UserPoint.{UserPoint}
use Rattle.aadl_syntax.specs.declared.error_model.UserPath.{UserPath}
use Rattle.grammar_rules.specs.Rules.{Rule, gives, chooses, gathers, ◌>>=◌}
use Rattle.grammar_rules.specs.Parts.{parts_after}
use Rattle.grammar_rules.specs.Spans.{until_inside, ends_to_end, tail_end_inside}
use Rattle.grammar_rules.specs.Tokens.{word, sign, one_of, is_word, is_sign, is_one_of, spot}
use Rattle.emv2_parser.specs.declared.behavior.OutgoingEffect.{OutgoingEffect}
use Rattle.emv2_parser.specs.declared.behavior.CompositeRule.{CompositeRule}
use Rattle.emv2_parser.specs.declared.behavior.PathEnds.{PathEnds}
use Rattle.emv2_parts.specs.Words.{is_name, point_words, begins_source, begins_composite, begins_transitions, begins_propagations, component_words}
use Rattle.emv2_parts.specs.Names.{error_name, point_word, dotted_names, flow_end, state_reference, label, block_end, condition_open, condition_close}
use Rattle.emv2_parts.specs.Conditions.{whole_condition}
use Rattle.emv2_parser.specs.Machines.{source, use_transformations, events_after, transitions_after}

-- cond, where one must stand
unfoldable pub some_condition : Rule (Option Condition)
some_condition = do
  condition ← whole_condition
  gives (Some condition)

-- [ cond ], before the bracket that closes it
unfoldable pub optional_condition : Rule (Option Condition)
optional_condition = chooses (is_sign (codes "]") ∷ []) (gives None) some_condition

-- "-" "[" [ cond ] "]" "->"
unfoldable pub outgoing_condition : Rule (Option Condition)
outgoing_condition = do
  _ ← condition_open
  condition ← optional_condition
  _ ← condition_close
  gives condition

-- "-" "[" [ cond ] "]" "->" point [ tset ] tail ";"
unfoldable pub outgoing_effect : Rule OutgoingEffect
outgoing_effect = do
  condition ← outgoing_condition
  its_end ← flow_end
  _ ← tail_end_inside
  gives (record { condition = condition; point = its_end.point; set = its_end.set })

-- outg = [ ID ":" ] source "-" "[" [ cond ] "]" "->" point [ tset ] tail ";"
unfoldable pub outgoing : Rule Outgoing
outgoing = do
  at ← spot
  name ← label
  its_source ← source
  effect ← outgoing_effect
  gives (record { name = name; spot = at; source = its_source; condition = effect.condition; point = effect.point; set = effect.set })

unfoldable pub component_transforms : Emv2Clause → Rule Emv2Clause
component_transforms clause = do
  at ← use_transformations
  gives (record clause { mappings = clause.mappings ++ at ∷ [] })

unfoldable pub component_events : Emv2Clause → Rule Emv2Clause
component_events clause = do
  events ← events_after clause.events
  gives (record clause { events = events })

unfoldable pub component_transitions : Emv2Clause → Rule Emv2Clause
component_transitions clause = do
  transitions ← transitions_after clause.transitions
  gives (record clause { transitions = transitions })

-- { outg }, after other conditions
unfoldable pub further_outgoing : List Outgoing → Rule (List Outgoing)
further_outgoing conditions = parts_after conditions (begins_source ∷ []) outgoing

-- "propagations" { outg }, after other conditions
unfoldable pub outgoing_after : List Outgoing → Rule (List Outgoing)
outgoing_after conditions = do
  _ ← word (codes "propagations")
  further_outgoing conditions

unfoldable pub component_outgoing : Emv2Clause → Rule Emv2Clause
component_outgoing clause = do
  conditions ← outgoing_after clause.outgoing
  gives (record clause { outgoing = conditions })

-- "detections" to-end
unfoldable pub detections : Emv2Clause → Rule Emv2Clause
detections clause = do
  _ ← word (codes "detections")
  _ ← until_inside ends_to_end
  gives clause

-- "mode" "mappings" to-end
unfoldable pub mode_mappings : Emv2Clause → Rule Emv2Clause
mode_mappings clause = do
  _ ← word (codes "mode")
  _ ← word (codes "mappings")
  _ ← until_inside ends_to_end
  gives clause

-- the blocks of outgoing conditions, of detections and of mode mappings
unfoldable pub component_other : Emv2Clause → Rule Emv2Clause
component_other clause = chooses (begins_propagations ∷ []) (component_outgoing clause)
    (chooses (is_word (codes "detections") ∷ []) (detections clause) (mode_mappings clause))

-- cblock = "use" "transformations" names ";" | "events" { event } | "transitions" { trans } | "propagations" { outg }
--        | "detections" to-end | "mode" "mappings" to-end, as a part of the clause
unfoldable pub component_block : Emv2Clause → Rule Emv2Clause
component_block clause = chooses (is_word (codes "use") ∷ []) (component_transforms clause)
    (chooses (is_word (codes "events") ∷ []) (component_events clause)
    (chooses (begins_transitions ∷ []) (component_transitions clause) (component_other clause)))

-- { cblock }
unfoldable pub component_blocks : Emv2Clause → Rule Emv2Clause
component_blocks clause = gathers (is_one_of component_words ∷ []) component_block clause

-- "component" "error" "behavior"
unfoldable pub component_head : Rule (Unit {0})
component_head = do
  _ ← word (codes "component")
  _ ← word (codes "error")
  word (codes "behavior")

-- "component" "error" "behavior" { cblock } "end" "component" ";", as a part of the clause
unfoldable pub clause_component : Emv2Clause → Rule Emv2Clause
clause_component clause = do
  _ ← component_head
  whole ← component_blocks clause
  _ ← block_end (codes "component")
  gives whole

-- cond | "others"
unfoldable pub others_or_condition : Rule (Option Condition)
others_or_condition = chooses (is_word (codes "others") ∷ [])
    (do
      _ ← word (codes "others")
      gives None)
    some_condition

-- "[" ( cond | "others" ) "]" "->"
unfoldable pub composite_condition : Rule (Option Condition)
composite_condition = do
  _ ← sign (codes "[")
  condition ← others_or_condition
  _ ← condition_close
  gives condition

-- "[" ( cond | "others" ) "]" "->" ID [ tset ] ";"
unfoldable pub composite_rule : Rule CompositeRule
composite_rule = do
  condition ← composite_condition
  target ← state_reference
  _ ← sign (codes ";")
  gives (record { condition = condition; target = target })

-- comp = [ ID ":" ] "[" ( cond | "others" ) "]" "->" ID [ tset ] ";"
unfoldable pub composite : Rule Composite
composite = do
  at ← spot
  name ← label
  what ← composite_rule
  gives (record { name = name; spot = at; condition = what.condition; target = what.target })

-- [ "states" ]
unfoldable pub states_word : Rule (Unit {0})
states_word = chooses (is_word (codes "states") ∷ []) (word (codes "states")) (gives tt)

-- "composite" "error" "behavior" [ "states" ]
unfoldable pub composite_head : Rule (Unit {0})
composite_head = do
  _ ← word (codes "composite")
  _ ← word (codes "error")
  _ ← word (codes "behavior")
  states_word

-- "composite" "error" "behavior" [ "states" ] { comp } "end" "composite" ";", as a part of the clause
unfoldable pub clause_composites : Emv2Clause → Rule Emv2Clause
clause_composites clause = do
  _ ← composite_head
  composites ← parts_after clause.composites (begins_composite ∷ []) composite
  _ ← block_end (codes "composite")
  gives (record clause { composites = composites })

-- "connection" "error" to-end "end" "connection" ";": the place of the first word
unfoldable pub connection_errors : Rule Spot
connection_errors = do
  at ← spot
  _ ← word (codes "connection")
  _ ← word (codes "error")
  _ ← until_inside ends_to_end
  _ ← block_end (codes "connection")
  gives at

unfoldable pub clause_connection : Emv2Clause → Rule Emv2Clause
clause_connection clause = do
  at ← connection_errors
  gives (record clause { connection_errors = clause.connection_errors ++ at ∷ [] })

-- [ "." bword ], which is read where both stand, after names
unfoldable pub last_word : List (List ℕ) → Rule (List (List ℕ))
last_word its_names = chooses (is_sign (codes ".") ∷ is_one_of point_words ∷ [])
    (do
      _ ← sign (codes ".")
      name ← one_of point_words
      gives (its_names ++ name ∷ []))
    (gives its_names)

-- ID { "." ID } [ "." bword ]
unfoldable pub end_names : Rule (List (List ℕ))
end_names = do
  its_names ← dotted_names
  last_word its_names

-- pend = bword | ID { "." ID } [ "." bword ]
unfoldable pub path_end : Rule End
path_end = do
  at ← spot
  its_names ← chooses (is_one_of point_words ∷ []) point_word end_names
  gives (record { names = its_names; spot = at })

-- "propagation" "point" ";", of the point of this name and place
unfoldable pub user_point : List ℕ → Spot → Rule UserPoint
user_point name at = do
  _ ← word (codes "propagation")
  _ ← word (codes "point")
  _ ← sign (codes ";")
  gives (record { name = name; spot = at })

-- pend "->" pend ";"
unfoldable pub path_ends : Rule PathEnds
path_ends = do
  from ← path_end
  _ ← sign (codes "->")
  to ← path_end
  _ ← sign (codes ";")
  gives (record { from = from; to = to })

-- pend "->" pend ";", of the path of this name and place
unfoldable pub user_path : List ℕ → Spot → Rule UserPath
user_path name at = do
  both ← path_ends
  gives (record { name = name; spot = at; from = both.from; to = both.to })

unfoldable pub clause_user_point : Emv2Clause → List ℕ → Spot → Rule Emv2Clause
clause_user_point clause name at = do
  its_point ← user_point name at
  gives (record clause { user_points = clause.user_points ++ its_point ∷ [] })

unfoldable pub clause_user_path : Emv2Clause → List ℕ → Spot → Rule Emv2Clause
clause_user_path clause name at = do
  path ← user_path name at
  gives (record clause { user_paths = clause.user_paths ++ path ∷ [] })

-- upath = ID ":" "propagation" "point" ";" | ID ":" pend "->" pend ";", as a part of the clause
unfoldable pub user_item : Emv2Clause → Rule Emv2Clause
user_item clause = do
  at ← spot
  name ← error_name
  _ ← sign (codes ":")
  chooses (is_word (codes "propagation") ∷ []) (clause_user_point clause name at) (clause_user_path clause name at)

-- { upath }
unfoldable pub user_items : Emv2Clause → Rule Emv2Clause
user_items clause = gathers (is_name ∷ []) user_item clause

-- "propagation" "paths"
unfoldable pub paths_head : Rule (Unit {0})
paths_head = do
  _ ← word (codes "propagation")
  word (codes "paths")

-- "propagation" "paths" { upath } "end" "paths" ";", as a part of the clause
unfoldable pub clause_paths : Emv2Clause → Rule Emv2Clause
clause_paths clause = do
  _ ← paths_head
  whole ← user_items clause
  _ ← block_end (codes "paths")
  gives whole
