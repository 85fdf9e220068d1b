-- Small examples of the definitions, each proved by computing it.
use Rattle.std.proofs.Common.{ℕ, ◌≡◌, ◌&&◌, not, false, true, cond, [], ◌∷◌, codes, Some, refl, ap}
use Rattle.std.specs.Fmt.{digits}
use Rattle.csv.specs.Writing.{escaped, fields_text, is_blank}
use Rattle.fault_system.specs.Truth.{member}
use Rattle.fault_system.specs.Systems.{System, round}
use Rattle.fault_system.specs.Rounds.{no_event, only}
use Rattle.fault_system.specs.declared.formula.Formula.TheVariants.{Event, Or}
use Rattle.fault_system.proofs.TruthLaws.{truth-Event}
use Rattle.property_reader.specs.declared.rate.RateKind.TheVariants.{Lambda, Prob}
use Rattle.event_origins.specs.declared.origin.EventOrigin.{EventOrigin}
use Rattle.event_origins.specs.declared.origin.OriginKind.TheVariants.{Error}
use Rattle.model_phases.specs.declared.flat.FlatModel.{FlatModel}
use Rattle.fmea_rows.specs.Rows.{is_reached}
use Rattle.sheet_model.specs.declared.model.SheetModel.{SheetModel}
use Rattle.fmea_sheet.specs.Cells.{reached_by}
use Rattle.fmea_sheet.specs.Text.{fields_with, header, line_text, place_of}

header_line : line_text header ≡ codes "component,category,classifier,event,rate_kind,rate_value,local_effect,next_effect,end_effect,place\n"
unfolding fields_text escaped is_blank
header_line = refl

-- ---- a system of a root, a part a of it, and a part b to which a link leads from a

abbrev small : System
small = record {
  facts = record { name = codes "root/state:lost"; owner = 0; formula = Event 0 } ∷ record { name = codes "root.a/state:bad"; owner = 1; formula = Event 0 }
      ∷ record { name = codes "root.b/in:power"; owner = 2; formula = Event 0 } ∷ record { name = codes "root.b/state:off"; owner = 2; formula = Or [] } ∷ [];
  events = record { name = codes "root.a/fault"; owner = 1; key = [] } ∷ record { name = codes "root.b/fault"; owner = 2; key = [] } ∷ [];
}

abbrev flat : FlatModel
flat = record {
  components = 3;
  system = small;
  effects = 0 ∷ 1 ∷ 2 ∷ 3 ∷ [];
  rates = record { kind = Lambda; text = codes "1.0e-5" } ∷ record { kind = Prob; text = codes "1" } ∷ [];
}

abbrev origin : ℕ → EventOrigin
origin at = record { kind = Error; spot = Some (record { file = 0; at = at }) }

-- the model gives a rate to the first event alone
abbrev sample : SheetModel
sample = record {
  events = record { flat = flat; origins = origin 12 ∷ origin 3 ∷ [] };
  rated = true ∷ false ∷ [];
  parts = record { category = codes "system"; classifier = codes "p::s.i"; next = [] } ∷ record { category = codes "device"; classifier = codes "p::d"; next = 0 ∷ 2 ∷ [] }
      ∷ record { category = []; classifier = []; next = 0 ∷ [] } ∷ [];
}

-- an event that makes three facts hold: one in its own part, two where it is felt next, of which one is of the root
three_cells : fields_with sample 0 (0 ∷ 1 ∷ 2 ∷ []) (codes "f:2:3")
    ≡ codes "root.a" ∷ codes "device" ∷ codes "p::d" ∷ codes "root.a/fault" ∷ codes "lambda" ∷ codes "1.0e-5" ∷ codes "root.a/state:bad"
    ∷ codes "root/state:lost root.b/in:power" ∷ codes "root/state:lost" ∷ codes "f:2:3" ∷ []
three_cells = refl

-- an event without a rate that reaches nothing, of a part without a classifier
empty_cells : fields_with sample 1 [] []
    ≡ codes "root.b" ∷ [] ∷ [] ∷ codes "root.b/fault" ∷ codes "none" ∷ [] ∷ [] ∷ [] ∷ codes "none alone" ∷ [] ∷ []
empty_cells = refl

-- its line
empty_line : line_text (fields_with sample 1 [] []) ≡ codes "root.b,,,root.b/fault,none,,,,none alone,\n"
unfolding fields_text escaped is_blank
empty_line = refl

-- a file whose name has a comma stands in quotes
quoted_place : line_text (codes "root" ∷ codes "a,b.aadl:1:1" ∷ []) ≡ codes "root,\"a,b.aadl:1:1\"\n"
unfolding fields_text escaped is_blank
quoted_place = refl

-- where it is declared
first_place : place_of (codes "f" ∷ []) (codes "package p\n  e : error;" ∷ []) sample.events.origins 0 ≡ codes "f:2:3"
unfolding digits
first_place = refl

-- a file that is not there has no place
no_place : place_of [] [] sample.events.origins 0 ≡ []
no_place = refl

-- ---- what an event reaches alone, in a system of one fact and one event

abbrev one_cause : System
one_cause = record {
  facts = record { name = codes "root/state:bad"; owner = 0; formula = Event 0 } ∷ [];
  events = record { name = codes "root/e"; owner = 0; key = [] } ∷ [];
}

abbrev one_flat : FlatModel
one_flat = record { components = 1; system = one_cause; effects = 0 ∷ []; rates = [] }

-- the fact holds under the event, and not without it
reached_alone : is_reached one_cause 0 0 ≡ true
reached_alone =
    let alone = truth-Event (only 0) (member (round one_cause (only 0) 0)) 0 in
    let without = truth-Event no_event (member (round one_cause no_event 0)) 0 in
    λ i. alone i && not (without i)

one_reached : reached_by one_flat 0 ≡ 0 ∷ []
one_reached = ap (λ is. cond is (0 ∷ []) []) reached_alone
