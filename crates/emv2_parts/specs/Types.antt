-- Blocks of error types.
use Rattle.std.specs.Prelude.{List, [], ◌∷◌, Option, Some, None, codes}
use Rattle.aadl_syntax.specs.declared.place.Ref.{Ref}
use Rattle.aadl_syntax.specs.declared.error_model.TypesBlock.{TypesBlock}
use Rattle.aadl_syntax.specs.declared.error_model.TypeItem.{TypeItem}
use Rattle.aadl_syntax.specs.declared.error_model.TypeKind.{TypeKind}
use Rattle.aadl_syntax.specs.declared.error_model.TypeKind.TheVariants as kind
use Rattle.aadl_syntax.specs.declared.error_model.Association.{Association}
use Rattle.grammar_rules.specs.Rules.{Rule, gives, chooses, gathers, ◌>>=◌}
use Rattle.grammar_rules.specs.Parts.{parts_after}
use Rattle.grammar_rules.specs.Spans.{until_inside, ends_tail}
use Rattle.grammar_rules.specs.Tokens.{word, sign, is_word, is_sign}
use Rattle.emv2_parts.specs.Words.{is_name}
use Rattle.grammar_rules.specs.Tokens.{spot}
use Rattle.emv2_parts.specs.Names.{error_name, reference, references_after, use_types_after, type_set, block_end}
use Rattle.emv2_parts.specs.Properties.{properties_after}

-- ":" "type" "set" tset tail
unfoldable pub set_kind : Rule TypeKind
set_kind = do
  _ ← sign (codes ":")
  _ ← word (codes "type")
  _ ← word (codes "set")
  set ← type_set
  _ ← until_inside ends_tail
  gives (kind.Set set)

-- [ "extends" names ]
unfoldable pub extended_type : Rule (Option Ref)
extended_type = chooses (is_word (codes "extends") ∷ [])
    (do
      _ ← word (codes "extends")
      extended ← reference
      gives (Some extended))
    (gives None)

-- ":" "type" [ "extends" names ] tail
unfoldable pub plain_kind : Rule TypeKind
plain_kind = do
  _ ← sign (codes ":")
  _ ← word (codes "type")
  extended ← extended_type
  _ ← until_inside ends_tail
  gives (kind.Plain extended)

-- [ "set" ] names
unfoldable pub renamed : Rule TypeKind
renamed = chooses (is_word (codes "set") ∷ [])
    (do
      _ ← word (codes "set")
      target ← reference
      gives (kind.SetAlias target))
    (do
      target ← reference
      gives (kind.Alias target))

-- "renames" "type" [ "set" ] names
unfoldable pub alias_kind : Rule TypeKind
alias_kind = do
  _ ← word (codes "renames")
  _ ← word (codes "type")
  renamed

-- what follows the name of an item: with `:`, `type` and `set` it is a set alone
unfoldable pub type_kind : Rule TypeKind
type_kind = chooses (is_sign (codes ":") ∷ is_word (codes "type") ∷ is_word (codes "set") ∷ []) set_kind
    (chooses (is_sign (codes ":") ∷ []) plain_kind alias_kind)

-- titem = ID ":" "type" [ "extends" names ] tail ";" | ID ":" "type" "set" tset tail ";" | ID "renames" "type" [ "set" ] names ";"
unfoldable pub type_item : Rule TypeItem
type_item = do
  at ← spot
  name ← error_name
  its_kind ← type_kind
  _ ← sign (codes ";")
  gives (record { name = name; spot = at; kind = its_kind })

-- [ "extends" libs "with" ]
unfoldable pub types_extends : Rule (List Ref)
types_extends = chooses (is_word (codes "extends") ∷ [])
    (do
      _ ← word (codes "extends")
      refs ← references_after []
      _ ← word (codes "with")
      gives refs)
    (gives [])

-- [ "properties" { assoc } ]
unfoldable pub types_properties : Rule (List Association)
types_properties = chooses (is_word (codes "properties") ∷ []) (properties_after []) (gives [])

-- { "use" "types" libs ";" }
unfoldable pub used_types : Rule (List Ref)
used_types = gathers (is_word (codes "use") ∷ []) use_types_after []

-- { "use" "types" libs ";" } [ "extends" libs "with" ] { titem } [ "properties" { assoc } ]
unfoldable pub types_body : Rule TypesBlock
types_body = do
  uses ← used_types
  extends ← types_extends
  items ← parts_after [] (is_name ∷ []) type_item
  _ ← types_properties
  gives (record { uses = uses; extends = extends; items = items })

-- "error" "types" .. "end" "types" ";"
unfoldable pub types_block : Rule TypesBlock
types_block = do
  _ ← word (codes "error")
  _ ← word (codes "types")
  block ← types_body
  _ ← block_end (codes "types")
  gives block
