-- Beside specs/TreeText.antt: what no clause of `run` reaches.
use Rattle.std.specs.Prelude.{◌≡◌, ℕ, Bool, true, false, List, ◌++◌, drop, map, length, All, Contains}
use Rattle.std.specs.List.{flat_map}
use Rattle.aadl_syntax.specs.Form.{IsNumber}
use Rattle.fault_system.specs.Systems.{System}
use Rattle.property_reader.specs.declared.rate.Rate.{Rate}
use Rattle.round_gates.specs.declared.tree.Gate.{Gate}
use Rattle.round_gates.specs.declared.tree.Tree.{Tree}
use Rattle.galileo_writer.specs.Galileo.{IsPlainName, line_text, top_text}
use Rattle.galileo_writer.specs.TreeText.{event_line, gate_line, name_at}

-- ---- what is asked of the names and of the rates

-- names of facts and of events that may stand between quotes, where no event has the name of a gate: none of them holds `@`
pub record HasTextNames (system : System) : Type 0 where
  pub facts : All (λ fact. IsPlainName fact.name) system.facts
  pub events : All (λ event. IsPlainName event.name) system.events
  pub no_at : All (λ event. Contains event.name 64 → ⊥) system.events

-- one rate for each event, which is a number
pub record AreRates (system : System) (rates : List Rate) : Type 0 where
  pub each : length rates ≡ length system.events
  pub numbers : All (λ rate. IsNumber rate.text) rates

-- ---- what is left of a text

-- the lines of the gates from a position on
abbrev pub gate_lines : System → List Gate → ℕ → List ℕ
gate_lines system gates at = flat_map line_text (map (gate_line system gates) (drop at gates))

-- the lines of some events, from a position on
abbrev pub event_lines : System → List Rate → List ℕ → ℕ → List ℕ
event_lines system rates events at = flat_map line_text (map (event_line system rates) (drop at events))

-- what is left of the text of a tree, where the line of the top was made or not, and the lines of so many gates and of so many events
abbrev pub text_left : System → Tree → List Rate → Bool → ℕ → ℕ → List ℕ
text_left system tree rates false gates events =
    top_text (name_at system tree.gates tree.top) ++ (gate_lines system tree.gates gates ++ event_lines system rates tree.events events)
text_left system tree rates true gates events = gate_lines system tree.gates gates ++ event_lines system rates tree.events events
