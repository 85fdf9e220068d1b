-- When a Galileo text is true for a set of basic events.
use Rattle.std.specs.Prelude.{ℕ, ◌≡◌, Bool, true, List, map}
use Rattle.std.specs.List.{AllByRecursion}
use Rattle.round_gates.specs.Truths.{kind_true}
use Rattle.galileo_writer.specs.Galileo.{Line, GateLine, EventLine, Galileo, IsTextOf}

-- a set of names, as the test whether a name is in it
abbrev pub NameSet : Type 0
NameSet = List ℕ → Bool

-- the name of which a line tells
abbrev pub name_of : Line → List ℕ
name_of (GateLine name kind inputs) = name
name_of (EventLine name rate) = name

-- A line is true: that of a basic event where it is among the given ones; that of an `and` gate where all its inputs are in the
-- set of names, of an `or` gate where one is, and of one that counts where at least so many of its inputs are.
abbrev pub line_true : NameSet → NameSet → Line → Bool
line_true given set (GateLine name kind inputs) = kind_true kind (map set inputs)
line_true given set (EventLine name rate) = given name

-- the set has the name of each line that is true
abbrev pub IsClosedText : List Line → NameSet → NameSet → Type 0
IsClosedText lines given set = AllByRecursion (λ line. line_true given set line ≡ true → set (name_of line) ≡ true) lines

-- the top is in the least set of names that has the name of each line that is true: in each set that has them
abbrev pub Tells : Galileo → NameSet → Type 0
Tells text given = (set : NameSet) → IsClosedText text.lines given set → set text.top ≡ true

-- Bytes are a text that is true for a set of names of basic events.
pub record TextTrue (bytes : List ℕ) (given : NameSet) : Type 0 where
  pub text : Galileo
  pub is_text : IsTextOf bytes text
  pub tells : Tells text given
