-- Names, references, points and type sets of error model text, and what ends an item.
use Rattle.std.specs.Prelude.{ℕ, List, [], ◌∷◌, ◌++◌, Option, Some, None, codes}
use Rattle.plain_values.specs.declared.spot.Spot.{Spot}
use Rattle.aadl_syntax.specs.declared.place.Ref.{Ref}
use Rattle.aadl_syntax.specs.declared.error_model.TypeSet.{TypeSet}
use Rattle.aadl_syntax.specs.declared.error_model.Term.{Term}
use Rattle.aadl_syntax.specs.declared.error_model.Term.TheVariants as term
use Rattle.aadl_syntax.specs.declared.error_model.PointRef.{PointRef}
use Rattle.aadl_syntax.specs.declared.error_model.StateRef.{StateRef}
use Rattle.grammar_rules.specs.Rules.{Rule, gives, chooses, ◌>>=◌}
use Rattle.grammar_rules.specs.Parts.{parts_after}
use Rattle.grammar_rules.specs.Tokens.{spot, word, sign, identifier, one_of, is_word, is_sign, is_one_of}
use Rattle.emv2_parts.specs.declared.naming.FlowEnd.{FlowEnd}
use Rattle.emv2_parts.specs.Words.{error_words, point_words, is_name}

-- ID
unfoldable pub error_name : Rule (List ℕ)
error_name = identifier error_words

-- "::" ID
unfoldable pub further_name : Rule (List ℕ)
further_name = do
  _ ← sign (codes "::")
  error_name

-- names = ID { "::" ID }
unfoldable pub names : Rule (List (List ℕ))
names = do
  first ← error_name
  parts_after (first ∷ []) (is_sign (codes "::") ∷ is_name ∷ []) further_name

-- names, as a reference to what they name
unfoldable pub reference : Rule Ref
reference = do
  at ← spot
  its_names ← names
  gives (record { names = its_names; item = None; spot = at })

-- "," names
unfoldable pub further_reference : Rule Ref
further_reference = do
  _ ← sign (codes ",")
  reference

-- libs = names { "," names }, after other references
unfoldable pub references_after : List Ref → Rule (List Ref)
references_after refs = do
  first ← reference
  parts_after (refs ++ first ∷ []) (is_sign (codes ",") ∷ []) further_reference

-- "use" "types" libs ";", after the libraries that are used before
unfoldable pub use_types_after : List Ref → Rule (List Ref)
use_types_after uses = do
  _ ← word (codes "use")
  _ ← word (codes "types")
  all_uses ← references_after uses
  _ ← sign (codes ";")
  gives all_uses

-- "end", this word and ";"
unfoldable pub block_end : List ℕ → Rule (Unit {0})
block_end name = do
  _ ← word (codes "end")
  _ ← word name
  sign (codes ";")

-- "-" "["
unfoldable pub condition_open : Rule (Unit {0})
condition_open = do
  _ ← sign (codes "-")
  sign (codes "[")

-- "]" "->"
unfoldable pub condition_close : Rule (Unit {0})
condition_close = do
  _ ← sign (codes "]")
  sign (codes "->")

-- "." ID
unfoldable pub dotted_name : Rule (List ℕ)
dotted_name = do
  _ ← sign (codes ".")
  error_name

-- ID { "." ID }
unfoldable pub dotted_names : Rule (List (List ℕ))
dotted_names = do
  first ← error_name
  parts_after (first ∷ []) (is_sign (codes ".") ∷ is_name ∷ []) dotted_name

-- bword, as a list of one name
unfoldable pub point_word : Rule (List (List ℕ))
point_word = do
  name ← one_of point_words
  gives (name ∷ [])

-- point = ID { "." ID } | bword
unfoldable pub point : Rule PointRef
point = do
  at ← spot
  its_names ← chooses (is_one_of point_words ∷ []) point_word dotted_names
  gives (record { names = its_names; spot = at })

-- "*" names
unfoldable pub factor : Rule (List (List ℕ))
factor = do
  _ ← sign (codes "*")
  names

-- names { "*" names }, which begins at this place
unfoldable pub product : Spot → Rule Term
product at = do
  first ← names
  chooses (is_sign (codes "*") ∷ [])
      (do
        _ ← parts_after [] (is_sign (codes "*") ∷ []) factor
        gives (term.Product at))
      (gives (term.One (record { names = first; item = None; spot = at })))

-- term = "noerror" | names { "*" names }
unfoldable pub set_term : Rule Term
set_term = do
  at ← spot
  chooses (is_word (codes "noerror") ∷ [])
      (do
        _ ← word (codes "noerror")
        gives (term.NoError at))
      (product at)

-- "," term
unfoldable pub further_term : Rule Term
further_term = do
  _ ← sign (codes ",")
  set_term

-- tset = "{" term { "," term } "}"
unfoldable pub type_set : Rule TypeSet
type_set = do
  at ← spot
  _ ← sign (codes "{")
  first ← set_term
  terms ← parts_after (first ∷ []) (is_sign (codes ",") ∷ []) further_term
  _ ← sign (codes "}")
  gives (record { terms = terms; spot = at })

-- [ tset ]
unfoldable pub optional_set : Rule (Option TypeSet)
optional_set = chooses (is_sign (codes "{") ∷ [])
    (do
      set ← type_set
      gives (Some set))
    (gives None)

-- point [ tset ]
unfoldable pub flow_end : Rule FlowEnd
flow_end = do
  its_point ← point
  set ← optional_set
  gives (record { point = its_point; set = set })

-- ID [ tset ], a state
unfoldable pub state_reference : Rule StateRef
state_reference = do
  at ← spot
  name ← error_name
  set ← optional_set
  gives (record { name = name; spot = at; set = set })

-- [ ID ":" ], which is read where both stand
unfoldable pub label : Rule (Option (List ℕ))
label = chooses (is_name ∷ is_sign (codes ":") ∷ [])
    (do
      name ← error_name
      _ ← sign (codes ":")
      gives (Some name))
    (gives None)
