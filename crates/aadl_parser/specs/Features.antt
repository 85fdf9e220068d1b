-- Features of component types.
use Rattle.std.specs.Prelude.{Bool, true, false, List, [], ◌∷◌, codes}
use Rattle.aadl_syntax.specs.declared.core_model.Feature.{Feature}
use Rattle.aadl_syntax.specs.declared.core_model.FeatureKind.{FeatureKind}
use Rattle.aadl_syntax.specs.declared.core_model.FeatureKind.TheVariants.{Inward, Outward, Both, Access, Group}
use Rattle.grammar_rules.specs.Rules.{Rule, gives, chooses, ◌>>=◌}
use Rattle.grammar_rules.specs.Parts.{parts_after}
use Rattle.grammar_rules.specs.Tokens.{spot, word, sign, is_word, is_one_of}
use Rattle.aadl_parser.specs.Words.{is_name, direction_words, optional_word, either_word}
use Rattle.aadl_parser.specs.Names.{core_name}
use Rattle.aadl_parser.specs.Runs.{array_tail}

-- [ "refined" "to" ]: whether it stands there
unfoldable pub refinement : Rule Bool
refinement = chooses (is_word (codes "refined") ∷ [])
    (do
      _ ← word (codes "refined")
      _ ← word (codes "to")
      gives true)
    (gives false)

-- "in" [ "out" ]
unfoldable pub inward : Rule FeatureKind
inward = do
  _ ← word (codes "in")
  chooses (is_word (codes "out") ∷ [])
      (do
        _ ← word (codes "out")
        gives Both)
      (gives Inward)

-- dir = "in" [ "out" ] | "out"
unfoldable pub direction : Rule FeatureKind
direction = chooses (is_word (codes "in") ∷ []) inward
    (do
      _ ← word (codes "out")
      gives Outward)

-- "event" [ "data" ] "port"
unfoldable pub event_port : Rule (Unit {0})
event_port = do
  _ ← word (codes "event")
  _ ← optional_word (codes "data")
  word (codes "port")

-- "data" "port" | "event" [ "data" ] "port" | "parameter"
unfoldable pub port : Rule (Unit {0})
port = chooses (is_word (codes "data") ∷ [])
    (do
      _ ← word (codes "data")
      word (codes "port"))
    (chooses (is_word (codes "event") ∷ []) event_port (word (codes "parameter")))

-- "feature" [ "group" ], of a feature of this direction
unfoldable pub plain_feature : FeatureKind → Rule FeatureKind
plain_feature direction = do
  _ ← word (codes "feature")
  chooses (is_word (codes "group") ∷ [])
      (do
        _ ← word (codes "group")
        gives Group)
      (gives direction)

-- dir ( "data" "port" | "event" [ "data" ] "port" | "parameter" | "feature" [ "group" ] )
unfoldable pub directed : Rule FeatureKind
directed = do
  its_direction ← direction
  chooses (is_word (codes "feature") ∷ []) (plain_feature its_direction)
      (do
        _ ← port
        gives its_direction)

-- acc = "bus" | "virtual" "bus" | "data" | "subprogram" [ "group" ]
unfoldable pub accessed : Rule (Unit {0})
accessed = chooses (is_word (codes "virtual") ∷ [])
    (do
      _ ← word (codes "virtual")
      word (codes "bus"))
    (chooses (is_word (codes "subprogram") ∷ [])
    (do
      _ ← word (codes "subprogram")
      optional_word (codes "group"))
    (either_word (codes "bus") (codes "data")))

-- ( "provides" | "requires" ) acc "access"
unfoldable pub access : Rule FeatureKind
access = do
  _ ← either_word (codes "provides") (codes "requires")
  _ ← accessed
  _ ← word (codes "access")
  gives Access

-- fkind = dir ( "data" "port" | "event" [ "data" ] "port" | "parameter" ) | [ dir ] "feature" [ "group" ]
--       | ( "provides" | "requires" ) acc "access": a feature without direction goes both ways
unfoldable pub feature_kind : Rule FeatureKind
feature_kind = chooses (is_one_of direction_words ∷ []) directed
    (chooses (is_word (codes "feature") ∷ []) (plain_feature Both) access)

-- feature = ID ":" [ "refined" "to" ] fkind tail ";"
unfoldable pub feature : Rule Feature
feature = do
  at ← spot
  name ← core_name
  _ ← sign (codes ":")
  refined ← refinement
  its_kind ← feature_kind
  array ← array_tail
  gives (record { name = name; spot = at; refined = refined; kind = its_kind; array = array })

-- "features" ( "none" ";" | { feature } ), after other features
unfoldable pub features_after : List Feature → Rule (List Feature)
features_after features = do
  _ ← word (codes "features")
  chooses (is_word (codes "none") ∷ [])
      (do
        _ ← word (codes "none")
        _ ← sign (codes ";")
        gives features)
      (parts_after features (is_name ∷ []) feature)
