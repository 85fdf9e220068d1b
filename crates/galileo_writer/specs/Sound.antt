-- What a Galileo text is to be like, so that it can be read: each name has one line.
use Rattle.std.specs.Prelude.{ℕ, List, map, Contains}
use Rattle.std.specs.List.{AllByRecursion}
use Rattle.fault_system.specs.Systems.{NamesDiffer}
use Rattle.galileo_writer.specs.Galileo.{Line, GateLine, EventLine, Galileo}
use Rattle.galileo_writer.specs.Truth.{name_of}

-- a name has a line
abbrev pub HasLine : List Line → List ℕ → Type 0
HasLine lines name = Contains (map name_of lines) name

-- each input of a gate has a line, and none is named twice
abbrev pub HasInputLines : List Line → Line → Type 0
HasInputLines lines (GateLine name kind inputs) = AllByRecursion (HasLine lines) inputs × NamesDiffer inputs
HasInputLines lines (EventLine name rate) = Unit {0}

-- No two lines have one name, the top has a line, each input of a gate has one, and no gate names an input twice.
pub record IsSound (text : Galileo) : Type 0 where
  pub one_line : NamesDiffer (map name_of text.lines)
  pub top : HasLine text.lines text.top
  pub inputs : AllByRecursion (HasInputLines text.lines) text.lines
