-- Connections of implementations.
use Rattle.std.specs.Prelude.{ℕ, Bool, true, false, List, [], ◌∷◌, Option, Some, None, codes}
use Rattle.plain_values.specs.declared.spot.Spot.{Spot}
use Rattle.aadl_syntax.specs.declared.place.End.{End}
use Rattle.aadl_syntax.specs.declared.core_model.Connection.{Connection}
use Rattle.aadl_syntax.specs.declared.core_model.ConnectionKind.{ConnectionKind}
use Rattle.aadl_syntax.specs.declared.core_model.ConnectionKind.TheVariants.{Plain, Access, Group}
use Rattle.aadl_syntax.specs.declared.core_model.Ends.{Ends}
use Rattle.grammar_rules.specs.Rules.{Rule, gives, chooses, ◌>>=◌}
use Rattle.grammar_rules.specs.Parts.{parts_after}
use Rattle.grammar_rules.specs.Tokens.{spot, word, sign, one_of, is_word, is_sign, is_one_of}
use Rattle.aadl_parser.specs.Words.{is_name, begins_end, processor_words}
use Rattle.aadl_parser.specs.Names.{core_name, dotted_name}
use Rattle.aadl_parser.specs.Runs.{kept_tail}
use Rattle.aadl_parser.specs.Features.{refinement, accessed}

-- "feature" [ "group" ]
unfoldable pub feature_connection : Rule ConnectionKind
feature_connection = do
  _ ← word (codes "feature")
  chooses (is_word (codes "group") ∷ [])
      (do
        _ ← word (codes "group")
        gives Group)
      (gives Plain)

-- [ acc ]
unfoldable pub optional_accessed : Rule (Unit {0})
optional_accessed = chooses (is_word (codes "access") ∷ []) (gives tt) accessed

-- [ acc ] "access"
unfoldable pub access_connection : Rule ConnectionKind
access_connection = do
  _ ← optional_accessed
  _ ← word (codes "access")
  gives Access

-- ckind = "port" | "parameter" | "feature" [ "group" ] | [ acc ] "access"
unfoldable pub connection_kind : Rule ConnectionKind
connection_kind = chooses (is_word (codes "feature") ∷ []) feature_connection
    (chooses (is_word (codes "port") ∷ [])
    (do
      _ ← word (codes "port")
      gives Plain)
    (chooses (is_word (codes "parameter") ∷ [])
    (do
      _ ← word (codes "parameter")
      gives Plain)
    access_connection))

-- ID | "processor"
unfoldable pub end_name : Rule (List ℕ)
end_name = chooses (is_one_of processor_words ∷ []) (one_of processor_words) core_name

-- end = ( ID | "processor" ) { "." ID }, where a name after a dot is read where both stand
unfoldable pub connection_end : Rule End
connection_end = do
  at ← spot
  first ← end_name
  its_names ← parts_after (first ∷ []) (is_sign (codes ".") ∷ is_name ∷ []) dotted_name
  gives (record { names = its_names; spot = at })

-- "->" | "<->": whether it goes both ways
unfoldable pub arrow : Rule Bool
arrow = chooses (is_sign (codes "<->") ∷ [])
    (do
      _ ← sign (codes "<->")
      gives true)
    (do
      _ ← sign (codes "->")
      gives false)

-- end ("->" | "<->") end
unfoldable pub two_ends : Rule (Option Ends)
two_ends = do
  from ← connection_end
  both ← arrow
  to ← connection_end
  gives (Some (record { from = from; to = to; both = both }))

-- [ end ("->" | "<->") end ]: they may be left out where `refined to` stands
unfoldable pub ends_of : Bool → Rule (Option Ends)
ends_of true = chooses (begins_end ∷ []) two_ends (gives None)
ends_of false = two_ends

-- ckind [ end ("->" | "<->") end ] tail ";", of the connection of this name and place
unfoldable pub connection_of : List ℕ → Spot → Bool → Rule Connection
connection_of name at refined = do
  its_kind ← connection_kind
  its_ends ← ends_of refined
  tail ← kept_tail
  gives (record { name = name; spot = at; refined = refined; kind = its_kind; ends = its_ends; tail = tail })

-- conn = ID ":" [ "refined" "to" ] ckind [ end ("->" | "<->") end ] tail ";"
unfoldable pub connection : Rule Connection
connection = do
  at ← spot
  name ← core_name
  _ ← sign (codes ":")
  refined ← refinement
  connection_of name at refined

-- "connections" ( "none" ";" | { conn } ), after other connections
unfoldable pub connections_after : List Connection → Rule (List Connection)
connections_after connections = do
  _ ← word (codes "connections")
  chooses (is_word (codes "none") ∷ [])
      (do
        _ ← word (codes "none")
        _ ← sign (codes ";")
        gives connections)
      (parts_after connections (is_name ∷ []) connection)
