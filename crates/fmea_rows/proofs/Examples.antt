-- Small cases of the definitions, worked.
use Rattle.std.proofs.Common.{ℕ, zero, suc, ◌≡◌, ◌<◌, ◌∙◌, false, [], ◌∷◌, codes, refl, sym, arith}
use Rattle.std.specs.Fmt.{digits}
use Rattle.std.proofs.lemmas.Bool.{false≢true}
use Rattle.fault_system.specs.Truth.{NumberSet, member, truth}
use Rattle.fault_system.specs.Systems.{System, IsClosed, round}
use Rattle.fault_system.specs.Rounds.{no_event, only}
use Rattle.fault_system.specs.declared.formula.Formula.TheVariants.{Event}
use Rattle.fault_system.proofs.TruthLaws.{truth-Event}
use Rattle.property_reader.specs.declared.rate.Rate.{Rate}
use Rattle.property_reader.specs.declared.rate.RateKind.TheVariants.{Lambda}
use Rattle.fmea_rows.specs.inner.Rows.{IsRow}
use Rattle.fmea_rows.specs.Text.{component_of, header, line_text, table_text}

-- ---- texts

header_line : line_text header ≡ codes "component,event,rate,effect,round\n"
header_line = refl

component_part : component_of (codes "root.a.b/in:p{lib::t}") ≡ codes "root.a.b"
component_part = refl

-- ---- a system of one event, and one fact that it brings about

abbrev one_cause : System
one_cause = record {
  facts = record { name = codes "root/state:bad"; owner = 0; formula = Event 0 } ∷ [];
  events = record { name = codes "root/e"; owner = 0; key = [] } ∷ [];
}

abbrev a_rate : Rate
a_rate = record { kind = Lambda; text = codes "1.0e-5" }

-- its table has one line behind the header
one_table : table_text one_cause (a_rate ∷ []) (record { event = 0; effect = 0; round = 1 } ∷ [])
    ≡ codes "component,event,rate,effect,round\nroot,root/e,lambda=1.0e-5,root/state:bad,1\n"
unfolding digits
one_table = refl

under : (events facts : NumberSet) → truth events facts (Event 0) ≡ events 0
under events facts = truth-Event events facts 0

-- without an event the empty set of facts is closed
none_closed : IsClosed one_cause no_event (λ _. false)
none_closed zero e = sym (under no_event (λ _. false)) ∙ e
none_closed (suc n) e = e

-- the event alone brings the fact about in the first round, and without it the fact does not hold
one_row : IsRow one_cause (0 ∷ []) (record { event = 0; effect = 0; round = 1 })
one_row = record {
  event_in = omega arith;
  effect_in = (0, omega arith, refl);
  alone = λ facts closed. closed 0 (under (only 0) facts);
  needed = λ holds. false≢true (holds (λ _. false) none_closed);
  first = record {
    there = under (only 0) (member (round one_cause (only 0) 0));
    first = λ q h. before q h;
  };
} where
  before : (q : ℕ) → q < 1 → member (round one_cause (only 0) q) 0 ≡ false
  before zero h = refl
  before (suc q) h = absurd (omega arith)
