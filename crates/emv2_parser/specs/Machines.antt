-- Error behavior state machines: events, states and transitions.
use Rattle.std.specs.Prelude.{Bool, true, false, List, [], ◌∷◌, ◌++◌, Option, Some, None, codes}
use Rattle.aadl_syntax.specs.declared.token.TokenKind.TheVariants.{Number}
use Rattle.plain_values.specs.declared.spot.Spot.{Spot}
use Rattle.aadl_syntax.specs.declared.error_model.EventDecl.{EventDecl}
use Rattle.aadl_syntax.specs.declared.error_model.EventKind.{EventKind}
use Rattle.aadl_syntax.specs.declared.error_model.EventKind.TheVariants.{Error, Recover, Repair}
use Rattle.aadl_syntax.specs.declared.error_model.StateDecl.{StateDecl}
use Rattle.aadl_syntax.specs.declared.error_model.StateRef.{StateRef}
use Rattle.aadl_syntax.specs.declared.error_model.Source.{Source}
use Rattle.aadl_syntax.specs.declared.error_model.Condition.{Condition}
use Rattle.aadl_syntax.specs.declared.error_model.Transition.{Transition}
use Rattle.aadl_syntax.specs.declared.error_model.MachineDecl.{MachineDecl}
use Rattle.grammar_rules.specs.Rules.{Rule, gives, chooses, gathers, ◌>>=◌}
use Rattle.grammar_rules.specs.Parts.{parts_after}
use Rattle.grammar_rules.specs.Tokens.{kind, word, sign, is_kind, is_word, is_sign, is_one_of, spot}
use Rattle.emv2_parser.specs.declared.machines.EventWords.{EventWords}
use Rattle.emv2_parser.specs.declared.machines.StateKind.{StateKind}
use Rattle.emv2_parser.specs.declared.machines.TransitionEffect.{TransitionEffect}
use Rattle.emv2_parts.specs.Words.{is_name, begins_source, machine_words}
use Rattle.grammar_rules.specs.Spans.{tail_end_inside}
use Rattle.emv2_parts.specs.Names.{error_name, names, use_types_after, optional_set, state_reference, label, block_end, condition_open, condition_close}
use Rattle.emv2_parts.specs.Properties.{properties_after}
use Rattle.emv2_parts.specs.Conditions.{whole_condition}

-- "error" "event" [ tset ] tail ";"
unfoldable pub error_event : Rule EventWords
error_event = do
  _ ← word (codes "error")
  _ ← word (codes "event")
  set ← optional_set
  _ ← tail_end_inside
  gives (record { kind = Error; set = set })

-- "recover" | "repair"
unfoldable pub recovery_kind : Rule EventKind
recovery_kind = chooses (is_word (codes "recover") ∷ [])
    (do
      _ ← word (codes "recover")
      gives Recover)
    (do
      _ ← word (codes "repair")
      gives Repair)

-- ( "recover" | "repair" ) "event" tail ";"
unfoldable pub recovery_event : Rule EventWords
recovery_event = do
  its_kind ← recovery_kind
  _ ← word (codes "event")
  _ ← tail_end_inside
  gives (record { kind = its_kind; set = None })

-- "error" "event" [ tset ] tail ";" | ( "recover" | "repair" ) "event" tail ";"
unfoldable pub event_words : Rule EventWords
event_words = chooses (is_word (codes "error") ∷ []) error_event recovery_event

-- event = ID ":" "error" "event" [ tset ] tail ";" | ID ":" ( "recover" | "repair" ) "event" tail ";"
unfoldable pub event : Rule EventDecl
event = do
  at ← spot
  name ← error_name
  _ ← sign (codes ":")
  what ← event_words
  gives (record { name = name; spot = at; kind = what.kind; set = what.set })

-- "events" { event }, after other events
unfoldable pub events_after : List EventDecl → Rule (List EventDecl)
events_after events = do
  _ ← word (codes "events")
  parts_after events (is_name ∷ []) event

-- [ "initial" ]
unfoldable pub initial : Rule Bool
initial = chooses (is_word (codes "initial") ∷ [])
    (do
      _ ← word (codes "initial")
      gives true)
    (gives false)

-- [ "initial" ] "state" [ tset ] ";"
unfoldable pub state_kind : Rule StateKind
state_kind = do
  is_initial ← initial
  _ ← word (codes "state")
  set ← optional_set
  _ ← sign (codes ";")
  gives (record { initial = is_initial; set = set })

-- state = ID ":" [ "initial" ] "state" [ tset ] ";"
unfoldable pub state : Rule StateDecl
state = do
  at ← spot
  name ← error_name
  _ ← sign (codes ":")
  what ← state_kind
  gives (record { name = name; spot = at; initial = what.initial; set = what.set })

-- "states" { state }, after other states
unfoldable pub states_after : List StateDecl → Rule (List StateDecl)
states_after states = do
  _ ← word (codes "states")
  parts_after states (is_name ∷ []) state

-- source = "all" | ID [ tset ]
unfoldable pub source : Rule Source
source = do
  at ← spot
  chooses (is_word (codes "all") ∷ [])
      (do
        _ ← word (codes "all")
        gives (record { state = None; spot = at }))
      (do
        its_state ← state_reference
        gives (record { state = Some its_state; spot = at }))

-- goal = "same" "state" | ID [ tset ], after other targets; the same state is none
unfoldable pub target_state_after : List StateRef → Rule (List StateRef)
target_state_after targets = chooses (is_word (codes "same") ∷ [])
    (do
      _ ← word (codes "same")
      _ ← word (codes "state")
      gives targets)
    (do
      its_state ← state_reference
      gives (targets ++ its_state ∷ []))

-- chance = Number | names | "others"
unfoldable pub chance : Rule (Unit {0})
chance = chooses (is_kind Number ∷ []) (kind Number)
    (chooses (is_word (codes "others") ∷ []) (word (codes "others"))
    (do
      _ ← names
      gives tt))

-- goal "with" chance, after other targets
unfoldable pub branch_after : List StateRef → Rule (List StateRef)
branch_after targets = do
  more ← target_state_after targets
  _ ← word (codes "with")
  _ ← chance
  gives more

-- "," goal "with" chance
unfoldable pub further_branch : List StateRef → Rule (List StateRef)
further_branch targets = do
  _ ← sign (codes ",")
  branch_after targets

-- { "," goal "with" chance }, after other targets
unfoldable pub further_branches : List StateRef → Rule (List StateRef)
further_branches targets = gathers (is_sign (codes ",") ∷ []) further_branch targets

-- "(" goal "with" chance { "," goal "with" chance } ")"
unfoldable pub branches : Rule (List StateRef)
branches = do
  _ ← sign (codes "(")
  first ← branch_after []
  targets ← further_branches first
  _ ← sign (codes ")")
  gives targets

-- target = goal | "(" goal "with" chance { "," goal "with" chance } ")"
unfoldable pub transition_targets : Rule (List StateRef)
transition_targets = chooses (is_sign (codes "(") ∷ []) branches (target_state_after [])

-- "-" "[" cond "]" "->"
unfoldable pub transition_condition : Rule Condition
transition_condition = do
  _ ← condition_open
  condition ← whole_condition
  _ ← condition_close
  gives condition

-- "-" "[" cond "]" "->" target ";"
unfoldable pub transition_effect : Rule TransitionEffect
transition_effect = do
  condition ← transition_condition
  targets ← transition_targets
  _ ← sign (codes ";")
  gives (record { condition = condition; targets = targets })

-- trans = [ ID ":" ] source "-" "[" cond "]" "->" target ";"
unfoldable pub transition : Rule Transition
transition = do
  at ← spot
  name ← label
  its_source ← source
  effect ← transition_effect
  gives (record { name = name; spot = at; source = its_source; condition = effect.condition; targets = effect.targets })

-- "transitions" { trans }, after other transitions
unfoldable pub transitions_after : List Transition → Rule (List Transition)
transitions_after transitions = do
  _ ← word (codes "transitions")
  parts_after transitions (begins_source ∷ []) transition

-- "use" "transformations" names ";": the place of the word `use`
unfoldable pub use_transformations : Rule Spot
use_transformations = do
  at ← spot
  _ ← word (codes "use")
  _ ← word (codes "transformations")
  _ ← names
  _ ← sign (codes ";")
  gives at

-- the first of some places
abbrev pub first_place : Option Spot → Spot → Option Spot
first_place None at = Some at
first_place (Some earlier) at = Some earlier

unfoldable pub machine_uses : MachineDecl → Rule MachineDecl
machine_uses machine = do
  uses ← use_types_after machine.uses
  gives (record machine { uses = uses })

unfoldable pub machine_transforms : MachineDecl → Rule MachineDecl
machine_transforms machine = do
  at ← use_transformations
  gives (record machine { transforms = first_place machine.transforms at })

unfoldable pub machine_events : MachineDecl → Rule MachineDecl
machine_events machine = do
  events ← events_after machine.events
  gives (record machine { events = events })

unfoldable pub machine_states : MachineDecl → Rule MachineDecl
machine_states machine = do
  states ← states_after machine.states
  gives (record machine { states = states })

unfoldable pub machine_transitions : MachineDecl → Rule MachineDecl
machine_transitions machine = do
  transitions ← transitions_after machine.transitions
  gives (record machine { transitions = transitions })

unfoldable pub machine_properties : MachineDecl → Rule MachineDecl
machine_properties machine = do
  associations ← properties_after machine.associations
  gives (record machine { associations = associations })

-- the blocks that begin with `use`
unfoldable pub machine_use : MachineDecl → Rule MachineDecl
machine_use machine = chooses (is_word (codes "use") ∷ is_word (codes "types") ∷ []) (machine_uses machine) (machine_transforms machine)

-- the blocks of states, of transitions and of properties
unfoldable pub machine_other : MachineDecl → Rule MachineDecl
machine_other machine = chooses (is_word (codes "states") ∷ []) (machine_states machine)
    (chooses (is_word (codes "transitions") ∷ []) (machine_transitions machine) (machine_properties machine))

-- mblock = "use" "types" libs ";" | "use" "transformations" names ";" | "events" { event } | "states" { state }
--        | "transitions" { trans } | "properties" { assoc }, as a part of the machine
unfoldable pub machine_block : MachineDecl → Rule MachineDecl
machine_block machine = chooses (is_word (codes "use") ∷ []) (machine_use machine)
    (chooses (is_word (codes "events") ∷ []) (machine_events machine) (machine_other machine))

-- { mblock }
unfoldable pub machine_blocks : MachineDecl → Rule MachineDecl
machine_blocks machine = gathers (is_one_of machine_words ∷ []) machine_block machine

-- [ "extends" names ]: the place of the word `extends`
unfoldable pub machine_extends : Rule (Option Spot)
machine_extends = chooses (is_word (codes "extends") ∷ [])
    (do
      at ← spot
      _ ← word (codes "extends")
      _ ← names
      gives (Some at))
    (gives None)

-- ID [ "extends" names ], as a machine without blocks
unfoldable pub machine_head : Rule MachineDecl
machine_head = do
  at ← spot
  name ← error_name
  extends ← machine_extends
  gives (record { name = name; spot = at; extends = extends; uses = []; transforms = None; events = []; states = []; transitions = []; associations = [] })

-- "error" "behavior" ID [ "extends" names ] { mblock } "end" "behavior" ";"
unfoldable pub machine : Rule MachineDecl
machine = do
  _ ← word (codes "error")
  _ ← word (codes "behavior")
  head ← machine_head
  whole ← machine_blocks head
  _ ← block_end (codes "behavior")
  gives whole
