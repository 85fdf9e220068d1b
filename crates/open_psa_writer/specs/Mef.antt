-- Texts of the Open-PSA Model Exchange Format: the gates of a fault tree and its basic events, and the bytes that they are written as.
use Rattle.std.specs.Prelude.{ℕ, ◌/◌, ◌%◌, ◌≡◌, ◌<◌, ◌^◌, false, nat_le, ◌&&◌, ◌==◌, if◌then◌else◌, List, [], ◌∷◌, ◌++◌, length, codes, decimal, Contains}
use Rattle.std.specs.Fmt.{digit_glyph}
use Rattle.std.specs.List.{AllByRecursion, flat_map}
use Rattle.property_reader.specs.declared.rate.RateKind.{RateKind}
use Rattle.property_reader.specs.declared.rate.RateKind.TheVariants.{Prob, Lambda}
use Rattle.round_gates.specs.declared.node.GateKind.{GateKind}
use Rattle.round_gates.specs.declared.node.GateKind.TheVariants.{And, Or, AtLeast}

-- a number: its figures, or a number times a base and a digit more, both of which are figures
pub data Number : Type 0 where
  Figures : List ℕ → Number
  Digit : Number → List ℕ → List ℕ → Number

-- The name of a gate: a number; or, of an auxiliary gate, the number of the gate that counts which it is a part of, how many inputs
-- it asks for, and of how many of the last inputs of that gate.
pub data GateName : Type 0 where
  Own : ℕ → GateName
  Part : ℕ → ℕ → ℕ → GateName

-- an input of a gate: the basic event of a number, or the gate of a name
pub data MefInput : Type 0 where
  EventInput : ℕ → MefInput
  GateInput : GateName → MefInput

-- what makes a gate true: a kind over inputs, or a choice: both of two inputs, or a third one
pub data MefFormula : Type 0 where
  Over : GateKind → List MefInput → MefFormula
  Choice : MefInput → MefInput → MefInput → MefFormula

-- a gate: its name, its label, which an auxiliary gate has not, and what makes it true
pub record MefGate : Type 0 where
  pub name : GateName
  pub label : List ℕ
  pub formula : MefFormula

-- a basic event: its number, its name, and its probability or its failure rate
pub record MefEvent : Type 0 where
  pub number : ℕ
  pub name : List ℕ
  pub kind : RateKind
  pub value : Number

-- a text: the top gate, the other gates, and the basic events
pub record Mef : Type 0 where
  pub top : MefGate
  pub others : List MefGate
  pub events : List MefEvent

-- ---- the bytes of names

-- a backslash, `x` and two hexadecimal digits
abbrev pub hex_text : ℕ → List ℕ
hex_text byte = codes "\\x" ++ (digit_glyph false (byte / 16) ∷ digit_glyph false (byte % 16) ∷ [])

-- A byte of a name: `&`, `<` and `>` as XML has them, a backslash twice, other printable bytes of ASCII as they are, and all others by
-- their hexadecimal digits.
abbrev pub byte_text : ℕ → List ℕ
byte_text byte =
    if byte == 38 then codes "&amp;"
    else if byte == 60 then codes "&lt;"
    else if byte == 62 then codes "&gt;"
    else if byte == 92 then codes "\\\\"
    else if nat_le 32 byte && nat_le byte 126 then byte ∷ []
    else hex_text byte

-- the element that tells a name
abbrev pub label_text : List ℕ → List ℕ
label_text name = codes "<label>" ++ (flat_map byte_text name ++ codes "</label>\n")

-- ---- the bytes of gates

-- a name behind its `g`: a number, or three with `_` between them
abbrev pub name_text : GateName → List ℕ
name_text (Own number) = decimal number
name_text (Part number needed among) = decimal number ++ (codes "_" ++ (decimal needed ++ (codes "_" ++ decimal among)))

-- an input: the basic event of a number, or the gate of a name
abbrev pub input_text : MefInput → List ℕ
input_text (EventInput number) = codes "<basic-event name=\"e" ++ (decimal number ++ codes "\"/>\n")
input_text (GateInput name) = codes "<gate name=\"g" ++ (name_text name ++ codes "\"/>\n")

-- what begins a gate of a kind
abbrev pub open_text : GateKind → List ℕ
open_text And = codes "<and>\n"
open_text Or = codes "<or>\n"
open_text (AtLeast k) = codes "<atleast min=\"" ++ (decimal k ++ codes "\">\n")

-- what ends it
abbrev pub close_text : GateKind → List ℕ
close_text And = codes "</and>\n"
close_text Or = codes "</or>\n"
close_text (AtLeast k) = codes "</atleast>\n"

-- what makes a gate true: its only input, its kind over its inputs, or `or` over `and` of two inputs and a third one
abbrev pub formula_text : MefFormula → List ℕ
formula_text (Over kind ins) = if length ins == 1 then flat_map input_text ins else open_text kind ++ (flat_map input_text ins ++ close_text kind)
formula_text (Choice first second third) =
    codes "<or>\n<and>\n" ++ (input_text first ++ (input_text second ++ (codes "</and>\n" ++ (input_text third ++ codes "</or>\n"))))

-- the label of a gate of a name; an auxiliary gate has none
abbrev pub title_text : GateName → List ℕ → List ℕ
title_text (Own number) label = label_text label
title_text (Part number needed among) label = []

-- the definition of a gate
abbrev pub gate_text : MefGate → List ℕ
gate_text gate =
    codes "<define-gate name=\"g" ++ (name_text gate.name ++ (codes "\">\n"
    ++ (title_text gate.name gate.label ++ (formula_text gate.formula ++ codes "</define-gate>\n"))))

-- ---- the bytes of basic events

-- a number by its figures
abbrev pub figures_text : List ℕ → List ℕ
figures_text figures = codes "<float value=\"" ++ (figures ++ codes "\"/>\n")

-- a number: its figures, or a sum of a product and a digit
abbrev pub number_text : Number → List ℕ
number_text (Figures figures) = figures_text figures
number_text (Digit before base digit) =
    codes "<add>\n<mul>\n" ++ (number_text before ++ (figures_text base ++ (codes "</mul>\n" ++ (figures_text digit ++ codes "</add>\n"))))

-- a probability, or that of a failure within the time of the mission at a failure rate
abbrev pub rate_text : RateKind → Number → List ℕ
rate_text Prob value = number_text value
rate_text Lambda value = codes "<exponential>\n" ++ (number_text value ++ codes "<system-mission-time/>\n</exponential>\n")

-- the definition of a basic event
abbrev pub event_text : MefEvent → List ℕ
event_text event =
    codes "<define-basic-event name=\"e" ++ (decimal event.number ++ (codes "\">\n"
    ++ (label_text event.name ++ (rate_text event.kind event.value ++ codes "</define-basic-event>\n"))))

-- ---- the bytes of a text

-- what stands before the gates
abbrev pub head_text : List ℕ
head_text = codes "<?xml version=\"1.0\"?>\n<opsa-mef>\n<define-fault-tree name=\"tree\">\n"

-- what stands between the gates and the basic events
abbrev pub middle_text : List ℕ
middle_text = codes "</define-fault-tree>\n<model-data>\n"

-- what stands behind the basic events
abbrev pub end_text : List ℕ
end_text = codes "</model-data>\n</opsa-mef>\n"

-- a text: its top gate, its other gates, and its basic events
abbrev pub mef_bytes : Mef → List ℕ
mef_bytes mef = head_text ++ (gate_text mef.top ++ (flat_map gate_text mef.others ++ (middle_text ++ (flat_map event_text mef.events ++ end_text))))

-- ---- which text some bytes are

-- a number of 64 bits
abbrev pub IsWord : ℕ → Type 0
IsWord n = n < 2 ^ 64

-- a name has such numbers
abbrev pub IsPlainName : GateName → Type 0
IsPlainName (Own number) = IsWord number
IsPlainName (Part number needed among) = IsWord number × IsWord needed × IsWord among

-- an input has such numbers
abbrev pub IsPlainInput : MefInput → Type 0
IsPlainInput (EventInput number) = IsWord number
IsPlainInput (GateInput name) = IsPlainName name

-- a gate that counts asks for such a number
abbrev pub IsPlainKind : GateKind → Type 0
IsPlainKind And = Unit {0}
IsPlainKind Or = Unit {0}
IsPlainKind (AtLeast k) = IsWord k

-- one input stands under `or`
abbrev pub IsPlainFormula : MefFormula → Type 0
IsPlainFormula (Over kind ins) = IsPlainKind kind × AllByRecursion IsPlainInput ins × (length ins ≡ 1 → kind ≡ Or)
IsPlainFormula (Choice first second third) = IsPlainInput first × IsPlainInput second × IsPlainInput third

-- an auxiliary gate has no label
abbrev pub IsPlainLabel : GateName → List ℕ → Type 0
IsPlainLabel (Own number) label = Unit {0}
IsPlainLabel (Part number needed among) label = label ≡ []

-- a gate that may be written
pub record IsPlainGate (gate : MefGate) : Type 0 where
  pub name : IsPlainName gate.name
  pub label : IsPlainLabel gate.name gate.label
  pub formula : IsPlainFormula gate.formula

-- no figures hold a quote
abbrev pub IsPlainNumber : Number → Type 0
IsPlainNumber (Figures figures) = Contains figures 34 → ⊥
IsPlainNumber (Digit before base digit) = IsPlainNumber before × (Contains base 34 → ⊥) × (Contains digit 34 → ⊥)

-- a basic event whose number and whose value may be written
pub record IsPlainEvent (event : MefEvent) : Type 0 where
  pub number : IsWord event.number
  pub value : IsPlainNumber event.value

-- These bytes are this text.
pub record IsMefOf (bytes : List ℕ) (mef : Mef) : Type 0 where
  pub top : IsPlainGate mef.top
  pub others : AllByRecursion IsPlainGate mef.others
  pub events : AllByRecursion IsPlainEvent mef.events
  pub bytes_are : bytes ≡ mef_bytes mef
