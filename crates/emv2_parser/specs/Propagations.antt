-- Error propagations of points, and error flows.
use Rattle.std.specs.Prelude.{Bool, true, false, List, [], ◌∷◌, Option, Some, None, codes}
use Rattle.aadl_syntax.specs.declared.token.TokenKind.TheVariants.{Text}
use Rattle.plain_values.specs.declared.spot.Spot.{Spot}
use Rattle.aadl_syntax.specs.declared.error_model.StateRef.{StateRef}
use Rattle.aadl_syntax.specs.declared.error_model.PointItem.{PointItem}
use Rattle.aadl_syntax.specs.declared.error_model.Flow.{Flow}
use Rattle.aadl_syntax.specs.declared.error_model.FlowKind.{FlowKind}
use Rattle.aadl_syntax.specs.declared.error_model.FlowKind.TheVariants as kind
use Rattle.aadl_syntax.specs.declared.error_model.Emv2Clause.{Emv2Clause}
use Rattle.emv2_parser.specs.declared.propagations.PropagationWords.{PropagationWords}
use Rattle.emv2_parser.specs.declared.propagations.PathTarget.{PathTarget}
use Rattle.grammar_rules.specs.Rules.{Rule, gives, chooses, ◌>>=◌}
use Rattle.grammar_rules.specs.Parts.{parts_after}
use Rattle.grammar_rules.specs.Tokens as token
use Rattle.grammar_rules.specs.Tokens.{word, sign, is_kind, is_word, is_sign, spot}
use Rattle.emv2_parts.specs.Words.{is_name, begins_point}
use Rattle.grammar_rules.specs.Spans.{tail_end_inside}
use Rattle.emv2_parts.specs.Names.{error_name, names, point, type_set, flow_end, state_reference, block_end}

-- [ "not" ]
unfoldable pub negation : Rule Bool
negation = chooses (is_word (codes "not") ∷ [])
    (do
      _ ← word (codes "not")
      gives true)
    (gives false)

-- "in" | "out": whether it is outward
unfoldable pub outward : Rule Bool
outward = chooses (is_word (codes "in") ∷ [])
    (do
      _ ← word (codes "in")
      gives false)
    (do
      _ ← word (codes "out")
      gives true)

-- ( "in" | "out" ) "propagation": whether it is outward
unfoldable pub direction : Rule Bool
direction = do
  is_outward ← outward
  _ ← word (codes "propagation")
  gives is_outward

-- [ "not" ] ( "in" | "out" ) "propagation" tset tail ";"
unfoldable pub propagation_words : Rule PropagationWords
propagation_words = do
  negative ← negation
  is_outward ← direction
  set ← type_set
  _ ← tail_end_inside
  gives (record { negative = negative; outward = is_outward; set = set })

-- pitem = point ":" [ "not" ] ( "in" | "out" ) "propagation" tset tail ";"
unfoldable pub point_item : Rule PointItem
point_item = do
  its_point ← point
  _ ← sign (codes ":")
  what ← propagation_words
  gives (record { point = its_point; negative = what.negative; outward = what.outward; set = what.set })

-- ID [ tset ] | tset | Text: the state, where it is one
unfoldable pub when_part : Rule (Option StateRef)
when_part = chooses (is_sign (codes "{") ∷ [])
    (do
      _ ← type_set
      gives None)
    (chooses (is_kind Text ∷ [])
    (do
      _ ← token.kind Text
      gives None)
    (do
      its_state ← state_reference
      gives (Some its_state)))

-- [ "when" ( ID [ tset ] | tset | Text ) ]
unfoldable pub source_state : Rule (Option StateRef)
source_state = chooses (is_word (codes "when") ∷ [])
    (do
      _ ← word (codes "when")
      when_part)
    (gives None)

-- "source" point [ tset ] [ "when" ( ID [ tset ] | tset | Text ) ]
unfoldable pub source_flow : Rule FlowKind
source_flow = do
  _ ← word (codes "source")
  its_end ← flow_end
  its_state ← source_state
  gives (kind.Source its_end.point its_end.set its_state)

-- "sink" point [ tset ]
unfoldable pub sink_flow : Rule FlowKind
sink_flow = do
  _ ← word (codes "sink")
  its_end ← flow_end
  gives (kind.Sink its_end.point its_end.set)

-- [ "use" "mappings" names ]: the place of the word `use`
unfoldable pub flow_mappings : Rule (Option Spot)
flow_mappings = chooses (is_word (codes "use") ∷ [])
    (do
      at ← spot
      _ ← word (codes "use")
      _ ← word (codes "mappings")
      _ ← names
      gives (Some at))
    (gives None)

-- "->" point [ tset ] [ "use" "mappings" names ]
unfoldable pub path_target : Rule PathTarget
path_target = do
  _ ← sign (codes "->")
  to ← flow_end
  mappings ← flow_mappings
  gives (record { to = to; mappings = mappings })

-- "path" point [ tset ] "->" point [ tset ] [ "use" "mappings" names ]
unfoldable pub path_flow : Rule FlowKind
path_flow = do
  _ ← word (codes "path")
  from ← flow_end
  target ← path_target
  gives (kind.Path from.point from.set target.to.point target.to.set target.mappings)

-- a source, a sink or a path
unfoldable pub flow_kind : Rule FlowKind
flow_kind = chooses (is_word (codes "source") ∷ []) source_flow
    (chooses (is_word (codes "sink") ∷ []) sink_flow path_flow)

-- "error", a source, a sink or a path, and tail ";"
unfoldable pub flow_words : Rule FlowKind
flow_words = do
  _ ← word (codes "error")
  its_kind ← flow_kind
  _ ← tail_end_inside
  gives its_kind

-- flow = ID ":" "error" "source" point [ tset ] [ "when" ( ID [ tset ] | tset | Text ) ] tail ";"
--      | ID ":" "error" "sink" point [ tset ] tail ";"
--      | ID ":" "error" "path" point [ tset ] "->" point [ tset ] [ "use" "mappings" names ] tail ";"
unfoldable pub flow : Rule Flow
flow = do
  at ← spot
  name ← error_name
  _ ← sign (codes ":")
  its_kind ← flow_words
  gives (record { name = name; spot = at; kind = its_kind })

-- [ "flows" { flow } ], after other flows
unfoldable pub flows_after : List Flow → Rule (List Flow)
flows_after flows = chooses (is_word (codes "flows") ∷ [])
    (do
      _ ← word (codes "flows")
      parts_after flows (is_name ∷ []) flow)
    (gives flows)

-- { pitem }, after other points
unfoldable pub points_after : List PointItem → Rule (List PointItem)
points_after points = parts_after points (begins_point ∷ []) point_item

-- "error" "propagations"
unfoldable pub propagations_head : Rule (Unit {0})
propagations_head = do
  _ ← word (codes "error")
  word (codes "propagations")

-- "error" "propagations" { pitem } [ "flows" { flow } ] "end" "propagations" ";", as a part of the clause
unfoldable pub clause_propagations : Emv2Clause → Rule Emv2Clause
clause_propagations clause = do
  _ ← propagations_head
  points ← points_after clause.points
  flows ← flows_after clause.flows
  _ ← block_end (codes "propagations")
  gives (record clause { points = points; flows = flows })
