-- What tables of names know.
use Rattle.std.specs.Prelude.{ℕ, ◌+◌, ◌≡◌, Bool, true, not, List, [], ◌∷◌, ◌++◌, Option}
use Rattle.std.specs.List.{list_any}
use Rattle.indexmap.specs.IndexMap.{get}
use denote.Ref.{Bor}
use Rattle.plain_values.specs.Name.{is_same_text}
use Rattle.round_gates.specs.declared.tree.Input.{Input}
use Rattle.galileo_reader.specs.declared.nodes.Naming.{Naming}
use Rattle.galileo_reader.specs.declared.statement.Statement.{Statement}
use Rattle.galileo_reader.specs.declared.statement.Statement.TheVariants.{Gate, Event}
use Rattle.galileo_reader.specs.Nodes.{is_second, is_top, node_of}

-- whether two names are the same
abbrev pub same_key : Bor (List ℕ) → Bor (List ℕ) → Bool
same_key a b = is_same_text a.now b.now

-- the table has the node of each name that lines name, and of no other
abbrev pub KnowsNodes : List Statement → (Bor (List ℕ) → Option Input) → Type 0
KnowsNodes lines table = (name : Bor (List ℕ)) → table name ≡ node_of lines name.now

-- how many lines are those of gates
abbrev pub gate_count : List Statement → ℕ
gate_count [] = 0
gate_count (Gate name kind count ins ∷ lines) = gate_count lines + 1
gate_count (_ ∷ lines) = gate_count lines

-- how many lines are those of events
abbrev pub event_count : List Statement → ℕ
event_count [] = 0
event_count (Event name rate ∷ lines) = event_count lines + 1
event_count (_ ∷ lines) = event_count lines

-- what is known of lines: the node of each name, how many gates and events there are, and whether there is a top
pub record Knows (lines : List Statement) (naming : Naming) : Type 0 where
  pub nodes : KnowsNodes lines (get same_key naming.table)
  pub gates : naming.gates ≡ gate_count lines
  pub events : naming.events ≡ event_count lines
  pub top : naming.has_top ≡ list_any is_top lines

-- A line is added behind others that are known. The answer is whether it tells of something new; where it does, it is known too.
abbrev pub AddsLine : Statement → Bool → Naming → Naming → Type 0
AddsLine line is_new old new = (earlier : List Statement) → Knows earlier old → (is_new ≡ not (is_second earlier line)) × (is_new ≡ true → Knows (earlier ++ line ∷ []) new)
