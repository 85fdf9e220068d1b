-- Galileo texts of static fault trees: a top, gates and basic events by their names, and the bytes that they are written as.
use Rattle.std.specs.Prelude.{ℕ, ◌≡◌, ◌≢◌, ◌<◌, ◌^◌, List, [], ◌++◌, length, codes, decimal, Contains}
use Rattle.std.specs.List.{AllByRecursion, flat_map}
use Rattle.aadl_syntax.specs.Form.{IsNumber}
use Rattle.property_reader.specs.declared.rate.Rate.{Rate}
use Rattle.property_reader.specs.Rates.{rate_word}
use Rattle.round_gates.specs.declared.node.GateKind.{GateKind}
use Rattle.round_gates.specs.declared.node.GateKind.TheVariants.{And, Or, AtLeast}

-- a line: a gate by its name, its kind and the names of its inputs, or a basic event by its name and its rate
pub data Line : Type 0 where
  GateLine : List ℕ → GateKind → List (List ℕ) → Line
  EventLine : List ℕ → Rate → Line

-- a text: the name of its top, and its lines
pub record Galileo : Type 0 where
  pub top : List ℕ
  pub lines : List Line

-- ---- the bytes

-- a name stands between two quotes
abbrev pub quoted : List ℕ → List ℕ
quoted name = codes "\"" ++ (name ++ codes "\"")

-- the word of a gate's kind: `and`, `or`, or how many of how many inputs
abbrev pub kind_text : GateKind → ℕ → List ℕ
kind_text And count = codes "and"
kind_text Or count = codes "or"
kind_text (AtLeast k) count = decimal k ++ (codes "of" ++ decimal count)

-- the names of inputs, a blank before each
abbrev pub inputs_text : List (List ℕ) → List ℕ
inputs_text inputs = flat_map (λ input. codes " " ++ quoted input) inputs

-- a line: a name, what is said of it, a semicolon and a line feed
abbrev pub line_text : Line → List ℕ
line_text (GateLine name kind inputs) = quoted name ++ (codes " " ++ (kind_text kind (length inputs) ++ (inputs_text inputs ++ codes ";\n")))
line_text (EventLine name rate) = quoted name ++ (codes " " ++ (rate_word rate.kind ++ (rate.text ++ codes ";\n")))

-- the first line, which names the top
abbrev pub top_text : List ℕ → List ℕ
top_text name = codes "toplevel " ++ (quoted name ++ codes ";\n")

-- a text: the line of its top, and its lines
abbrev pub galileo_text : Galileo → List ℕ
galileo_text text = top_text text.top ++ flat_map line_text text.lines

-- ---- which text some bytes are

-- a name that may stand between quotes: it has a byte, and holds neither a quote nor a line feed
pub record IsPlainName (name : List ℕ) : Type 0 where
  pub some : name ≢ []
  pub no_quote : Contains name 34 → ⊥
  pub no_line_feed : Contains name 10 → ⊥

-- the numbers of a kind are of 32 bits
abbrev pub IsKind : GateKind → Type 0
IsKind And = Unit {0}
IsKind Or = Unit {0}
IsKind (AtLeast k) = k < 2 ^ 32

-- a line whose names may stand between quotes, and whose rate is a number
abbrev pub IsPlainLine : Line → Type 0
IsPlainLine (GateLine name kind inputs) = IsPlainName name × IsKind kind × AllByRecursion IsPlainName inputs
IsPlainLine (EventLine name rate) = IsPlainName name × IsNumber rate.text

-- These bytes are this text.
pub record IsTextOf (bytes : List ℕ) (text : Galileo) : Type 0 where
  pub top : IsPlainName text.top
  pub lines : AllByRecursion IsPlainLine text.lines
  pub bytes_are : bytes ≡ galileo_text text
