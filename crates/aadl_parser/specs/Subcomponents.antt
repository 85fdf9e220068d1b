-- Subcomponents of implementations.
use Rattle.std.specs.Prelude.{ℕ, Bool, List, [], ◌∷◌, Some, None, codes}
use Rattle.plain_values.specs.declared.spot.Spot.{Spot}
use Rattle.aadl_syntax.specs.declared.core_model.Subcomponent.{Subcomponent}
use Rattle.aadl_parser.specs.declared.names.Classifier.{Classifier}
use Rattle.grammar_rules.specs.Rules.{Rule, gives, chooses, ◌>>=◌}
use Rattle.grammar_rules.specs.Parts.{parts_after}
use Rattle.grammar_rules.specs.Spans.{until}
use Rattle.grammar_rules.specs.Tokens.{spot, word, sign, is_word}
use Rattle.aadl_parser.specs.Words.{is_name}
use Rattle.aadl_parser.specs.Names.{core_name, reference, category}
use Rattle.aadl_parser.specs.Runs.{ends_front, tail_rest, bindings_place}
use Rattle.aadl_parser.specs.Features.{refinement}

-- [ ref ], and the place of a `(` right after it: bindings of prototypes, which belong to the tail
unfoldable pub optional_classifier : Rule Classifier
optional_classifier = chooses (is_name ∷ [])
    (do
      its_reference ← reference
      binds ← bindings_place
      gives (record { reference = Some its_reference; binds = binds }))
    (gives (record { reference = None; binds = None }))

-- category [ ref ] tail ";", of the subcomponent of this name and place
unfoldable pub subcomponent_of : List ℕ → Spot → Bool → Rule Subcomponent
subcomponent_of name at refined = do
  _ ← category
  classifier ← optional_classifier
  tail ← until ends_front
  array ← tail_rest
  gives (record { name = name; spot = at; refined = refined; classifier = classifier.reference; array = array; binds = classifier.binds; tail = tail })

-- subcomp = ID ":" [ "refined" "to" ] category [ ref ] tail ";"
unfoldable pub subcomponent : Rule Subcomponent
subcomponent = do
  at ← spot
  name ← core_name
  _ ← sign (codes ":")
  refined ← refinement
  subcomponent_of name at refined

-- "subcomponents" ( "none" ";" | { subcomp } ), after other subcomponents
unfoldable pub subcomponents_after : List Subcomponent → Rule (List Subcomponent)
subcomponents_after subcomponents = do
  _ ← word (codes "subcomponents")
  chooses (is_word (codes "none") ∷ [])
      (do
        _ ← word (codes "none")
        _ ← sign (codes ";")
        gives subcomponents)
      (parts_after subcomponents (is_name ∷ []) subcomponent)
