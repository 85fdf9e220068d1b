-- Bindings of components, connections and functions (AADL: the properties Actual_Processor_Binding, Actual_Memory_Binding,
-- Actual_Connection_Binding and Actual_Function_Binding).
use Rattle.std.specs.Prelude.{ℕ, suc, Bool, true, false, List, [], ◌∷◌, codes, flat_map, length, map, Option, None, Some, option_map, option_to_list}
use Rattle.aadl_syntax.specs.declared.core_model.Binding.{Binding}
use Rattle.aadl_syntax.specs.declared.core_model.BindingKind.{BindingKind}
use Rattle.aadl_syntax.specs.declared.core_model.BindingKind.TheVariants.{Connection, Function, Memory, Processor}
use Rattle.aadl_syntax.specs.declared.token.Token.{Token}
use Rattle.grammar_rules.specs.Parts.{parts_after}
use Rattle.grammar_rules.specs.Rules.{Rule, chooses, ends, gives, ◌>>=◌}
use Rattle.grammar_rules.specs.Running.{Outcome, read, dead, run}
use Rattle.grammar_rules.specs.Spans.{tail_end}
use Rattle.grammar_rules.specs.Tokens.{identifier, is_sign, is_word, sign, spot, word}
use Rattle.bindings.specs.Pieces.{behind_brace, section_pieces}

-- ---- paths of components

-- "." ID
unfoldable pub dotted_name : Rule (List ℕ)
dotted_name = do
  _ ← sign (codes ".")
  identifier []

-- path = ID { "." ID }, where any word is an ID
unfoldable pub path : Rule (List (List ℕ))
path = do
  first ← identifier []
  parts_after (first ∷ []) (is_sign (codes ".") ∷ []) dotted_name

-- "," path
unfoldable pub further_path : Rule (List (List ℕ))
further_path = do
  _ ← sign (codes ",")
  path

-- path { "," path }
unfoldable pub targets : Rule (List (List (List ℕ)))
targets = do
  first ← path
  parts_after (first ∷ []) (is_sign (codes ",") ∷ []) further_path

-- ---- references

-- reference = "reference" "(" path ")"
unfoldable pub reference : Rule (List (List ℕ))
reference = do
  _ ← word (codes "reference")
  _ ← sign (codes "(")
  names ← path
  _ ← sign (codes ")")
  gives names

-- "," reference
unfoldable pub further_reference : Rule (List (List ℕ))
further_reference = do
  _ ← sign (codes ",")
  reference

-- "(" reference { "," reference } ")"
unfoldable pub reference_list : Rule (List (List (List ℕ)))
reference_list = do
  _ ← sign (codes "(")
  first ← reference
  all ← parts_after (first ∷ []) (is_sign (codes ",") ∷ []) further_reference
  _ ← sign (codes ")")
  gives all

-- reference | "(" reference { "," reference } ")"
unfoldable pub references : Rule (List (List (List ℕ)))
references = chooses (is_sign (codes "(") ∷ []) reference_list
    (do
      one ← reference
      gives (one ∷ []))

-- ---- bindings

-- ( "actual_connection_binding" | "actual_function_binding" )
unfoldable pub abstract_word : Rule BindingKind
abstract_word = chooses (is_word (codes "actual_connection_binding") ∷ [])
    (do
      _ ← word (codes "actual_connection_binding")
      gives Connection)
    (do
      _ ← word (codes "actual_function_binding")
      gives Function)

-- ( "actual_processor_binding" | abstract-word )
unfoldable pub other_word : Rule BindingKind
other_word = chooses (is_word (codes "actual_processor_binding") ∷ [])
    (do
      _ ← word (codes "actual_processor_binding")
      gives Processor)
    abstract_word

-- ( "actual_memory_binding" | other-word ): the property, and so the kind of the binding
unfoldable pub binding_word : Rule BindingKind
binding_word = chooses (is_word (codes "actual_memory_binding") ∷ [])
    (do
      _ ← word (codes "actual_memory_binding")
      gives Memory)
    other_word

-- [ "deployment_properties" "::" ] and that word
unfoldable pub binding_name : Rule BindingKind
binding_name = chooses (is_word (codes "deployment_properties") ∷ [])
    (do
      _ ← word (codes "deployment_properties")
      _ ← sign (codes "::")
      binding_word)
    binding_word

-- [ "in" tail ] ";"
unfoldable pub binding_end : Rule (Unit {0})
binding_end = chooses (is_word (codes "in") ∷ [])
    (do
      _ ← word (codes "in")
      tail_end)
    (sign (codes ";"))

-- "applies" "to" targets
unfoldable pub applied_targets : Rule (List (List (List ℕ)))
applied_targets = do
  _ ← word (codes "applies")
  _ ← word (codes "to")
  targets

-- [ applied-targets ]: where they are left out, the empty path is the target
unfoldable pub perhaps_targets : Rule (List (List (List ℕ)))
perhaps_targets = chooses (is_word (codes "applies") ∷ []) applied_targets (gives ([] ∷ []))

-- the targets of a binding, which may be left out in braces alone
unfoldable pub binding_targets : Bool → Rule (List (List (List ℕ)))
binding_targets true = perhaps_targets
binding_targets false = applied_targets

-- binding-name "=>" references binding-targets [ "in" tail ] ";", and nothing behind it
unfoldable pub binding : Bool → Rule Binding
binding braced = do
  its_spot ← spot
  kind ← binding_name
  _ ← sign (codes "=>")
  its_references ← references
  its_targets ← binding_targets braced
  _ ← binding_end
  _ ← ends
  gives (record { kind = kind; spot = its_spot; references = its_references; targets = its_targets })

-- the binding of a reading, if there is one
abbrev pub binding_read : Outcome Binding → Option Binding
binding_read (read its rest unseen) = Some its
binding_read (dead unseen) = None

-- The binding as which a piece of a section of a file, or of what stands in braces there, reads, if it reads so.
abbrev pub piece_binding : ℕ → Bool → List Token → Option Binding
piece_binding file braced tokens = binding_read (run file (binding braced) tokens (suc (length tokens)))

-- The bindings that a `properties` section of a classifier in a file states, in their order; its other pieces say nothing.
abbrev pub bindings_in : ℕ → List Token → List Binding
bindings_in file tokens = flat_map (λ piece. option_to_list (piece_binding file false piece)) (section_pieces tokens)

-- ---- braces

-- a binding as it is stated around the member of this name, behind which it stands: its targets are in that, or that itself
abbrev pub around : List ℕ → Binding → Binding
around name binding = record { kind = binding.kind; spot = binding.spot; references = binding.references; targets = map (λ target. name ∷ target) binding.targets }

-- the binding of a piece that stands in braces behind the member of this name in a file, if it reads as one
abbrev pub braced_binding : ℕ → List ℕ → List Token → Option Binding
braced_binding file name piece = option_map (around name) (piece_binding file true piece)

-- The bindings that stand in braces among the tokens behind a subcomponent or a connection of this name in a file, in their order, as bindings of
-- the classifier that declares it; the other pieces there say nothing.
abbrev pub braced_bindings : ℕ → List ℕ → List Token → List Binding
braced_bindings file name tokens = flat_map (λ piece. option_to_list (braced_binding file name piece)) (section_pieces (behind_brace tokens))
