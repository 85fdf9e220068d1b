-- Texts of small trees, worked.
use Rattle.std.proofs.Common.{ℕ, ◌≡◌, List, [], ◌∷◌, ◌++◌, codes, map, refl}
use Rattle.std.specs.Fmt.{digits}
use Rattle.std.specs.List.{flat_map}
use Rattle.fault_system.specs.Systems.{System}
use Rattle.fault_system.specs.declared.formula.Formula.TheVariants.{True}
use Rattle.property_reader.specs.Rates.{conservative_rate}
use Rattle.property_reader.specs.declared.rate.Rate.{Rate}
use Rattle.property_reader.specs.declared.rate.RateKind.TheVariants.{Lambda}
use Rattle.round_gates.specs.declared.node.GateKind.{GateKind}
use Rattle.round_gates.specs.declared.node.GateKind.TheVariants.{Or, AtLeast}
use Rattle.round_gates.specs.declared.tree.Gate.{Gate}
use Rattle.round_gates.specs.declared.tree.Input.{Input}
use Rattle.round_gates.specs.declared.tree.Input.TheVariants as inputs
use Rattle.round_gates.specs.declared.tree.Tree.{Tree}
use Rattle.open_psa_writer.specs.Mef.{Figures, Digit, byte_text}
use Rattle.open_psa_writer.specs.Numbers.{number_of}
use Rattle.open_psa_writer.specs.TreeMef.{mef_text}

-- ---- numbers

underscores : number_of (codes "1_0.5_0e-0_3") ≡ Figures (codes "10.50e-03")
underscores = refl

sixteen : number_of (codes "1_6#F_a#") ≡ Digit (Digit (Figures (codes "0")) (codes "16") (codes "15")) (codes "16") (codes "10")
unfolding digits
sixteen = refl

-- ---- names

every_form : flat_map byte_text (codes "a & <b> \\ \n") ≡ codes "a &amp; &lt;b&gt; \\\\ \\x0a"
every_form = refl

-- ---- trees

-- facts and events of these names; a text does not look at formulas
abbrev named : List (List ℕ) → List (List ℕ) → System
named facts events =
    record {
      facts = map (λ name. record { name = name; owner = 0; formula = True }) facts;
      events = map (λ name. record { name = name; owner = 0; key = [] }) events;
    }

abbrev gate : ℕ → ℕ → ℕ → GateKind → List Input → Gate
gate fact stage place kind ins = record { fact = fact; stage = stage; place = place; kind = kind; inputs = ins }

abbrev machine : System
machine = named (codes "root/state:ok" ∷ codes "root/state:bad" ∷ []) (codes "root/e1" ∷ codes "root/e2" ∷ codes "root/e3" ∷ [])

-- two of e1, e2 and a gate for e3, where the top is the second gate
abbrev counted : Tree
counted =
    record {
      top = 1;
      gates = gate 1 1 0 Or (inputs.Event 2 ∷ []) ∷ gate 1 1 3 (AtLeast 2) (inputs.Event 0 ∷ inputs.Event 1 ∷ inputs.Gate 0 ∷ []) ∷ [];
      events = 0 ∷ 1 ∷ 2 ∷ [];
    }

abbrev rates : List Rate
rates = conservative_rate ∷ record { kind = Lambda; text = codes "1_0.0e-5" } ∷ []

-- it is written by auxiliary gates, since one of its inputs is a gate
counted_text : mef_text machine counted rates
    ≡ codes "<?xml version=\"1.0\"?>\n<opsa-mef>\n<define-fault-tree name=\"tree\">\n"
    ++ codes "<define-gate name=\"g1\">\n<label>root/state:bad@1.3</label>\n<gate name=\"g1_2_3\"/>\n</define-gate>\n"
    ++ codes "<define-gate name=\"g1_1_1\">\n<gate name=\"g2\"/>\n</define-gate>\n"
    ++ codes "<define-gate name=\"g1_1_2\">\n<or>\n<basic-event name=\"e2\"/>\n<gate name=\"g1_1_1\"/>\n</or>\n</define-gate>\n"
    ++ codes "<define-gate name=\"g1_2_2\">\n<and>\n<basic-event name=\"e2\"/>\n<gate name=\"g1_1_1\"/>\n</and>\n</define-gate>\n"
    ++ codes "<define-gate name=\"g1_2_3\">\n<or>\n<and>\n<basic-event name=\"e1\"/>\n<gate name=\"g1_1_2\"/>\n</and>\n<gate name=\"g1_2_2\"/>\n</or>\n</define-gate>\n"
    ++ codes "<define-gate name=\"g2\">\n<label>root/state:bad@1.0</label>\n<basic-event name=\"e3\"/>\n</define-gate>\n"
    ++ codes "</define-fault-tree>\n<model-data>\n<define-basic-event name=\"e1\">\n<label>root/e1</label>\n<float value=\"1\"/>\n</define-basic-event>\n"
    ++ codes "<define-basic-event name=\"e2\">\n<label>root/e2</label>\n<exponential>\n<float value=\"10.0e-5\"/>\n<system-mission-time/>\n</exponential>\n</define-basic-event>\n"
    ++ codes "<define-basic-event name=\"e3\">\n<label>root/e3</label>\n<float value=\"1\"/>\n</define-basic-event>\n</model-data>\n</opsa-mef>\n"
unfolding digits
counted_text = refl

-- two of three events
abbrev counted_events : Tree
counted_events =
    record {
      top = 0;
      gates = gate 1 1 0 (AtLeast 2) (inputs.Event 0 ∷ inputs.Event 1 ∷ inputs.Event 2 ∷ []) ∷ [];
      events = [];
    }

-- they stand as they are
counted_events_text : mef_text machine counted_events []
    ≡ codes "<?xml version=\"1.0\"?>\n<opsa-mef>\n<define-fault-tree name=\"tree\">\n"
    ++ codes "<define-gate name=\"g1\">\n<label>root/state:bad@1.0</label>\n<atleast min=\"2\">\n<basic-event name=\"e1\"/>\n<basic-event name=\"e2\"/>\n<basic-event name=\"e3\"/>\n</atleast>\n</define-gate>\n"
    ++ codes "</define-fault-tree>\n<model-data>\n</model-data>\n</opsa-mef>\n"
unfolding digits
counted_events_text = refl
