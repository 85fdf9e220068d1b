-- Texts of small trees, worked.
use Rattle.std.proofs.Common.{ℕ, ◌≡◌, List, [], ◌∷◌, codes, map, replicate, refl}
use Rattle.std.proofs.lemmas.Bool.{false≢true}
use Rattle.std.specs.Fmt.{digits}
use Rattle.plain_values.specs.Name.{is_same_text}
use Rattle.fault_system.specs.Systems.{System}
use Rattle.fault_system.specs.declared.formula.Formula.TheVariants.{True}
use Rattle.property_reader.specs.Rates.{conservative_rate}
use Rattle.property_reader.specs.declared.rate.Rate.{Rate}
use Rattle.property_reader.specs.declared.rate.RateKind.TheVariants.{Lambda}
use Rattle.round_gates.specs.declared.node.GateKind.{GateKind}
use Rattle.round_gates.specs.declared.node.GateKind.TheVariants.{And, Or, AtLeast}
use Rattle.round_gates.specs.declared.tree.Gate.{Gate}
use Rattle.round_gates.specs.declared.tree.Input.{Input}
use Rattle.round_gates.specs.declared.tree.Input.TheVariants as inputs
use Rattle.round_gates.specs.declared.tree.Tree.{Tree}
use Rattle.galileo_writer.specs.Truth.{NameSet, Tells}
use Rattle.galileo_writer.specs.TreeText.{tree_galileo, tree_text}
use Rattle.galileo_writer.proofs.TreeNames.{or-true}

-- facts and events of these names; a text does not look at formulas
abbrev named : List (List ℕ) → List (List ℕ) → System
named facts events =
    record {
      facts = map (λ name. record { name = name; owner = 0; formula = True }) facts;
      events = map (λ name. record { name = name; owner = 0; key = [] }) events;
    }

abbrev gate : ℕ → ℕ → ℕ → GateKind → List Input → Gate
gate fact stage place kind ins = record { fact = fact; stage = stage; place = place; kind = kind; inputs = ins }

abbrev machine : System
machine = named (codes "root/state:ok" ∷ codes "root/state:bad" ∷ []) (codes "root/e1" ∷ codes "root/e2" ∷ codes "root/e3" ∷ [])

abbrev mark : List Rate
mark = replicate 4 conservative_rate

-- e1, or e1 and e2
abbrev either : Tree
either =
    record {
      top = 0;
      gates = gate 1 1 0 Or (inputs.Event 0 ∷ inputs.Gate 1 ∷ []) ∷ gate 1 1 6 And (inputs.Event 0 ∷ inputs.Event 1 ∷ []) ∷ [];
      events = 0 ∷ 1 ∷ [];
    }

either_text : tree_text machine either mark ≡ codes "toplevel \"root/state:bad@1.0\";\n\"root/state:bad@1.0\" or \"root/e1\" \"root/state:bad@1.6\";\n\"root/state:bad@1.6\" and \"root/e1\" \"root/e2\";\n\"root/e1\" prob=1;\n\"root/e2\" prob=1;\n"
unfolding digits
either_text = refl

-- two of e1, e2 and e3
abbrev two_of_three : Tree
two_of_three =
    record {
      top = 0;
      gates = gate 1 1 3 (AtLeast 2) (inputs.Event 0 ∷ inputs.Event 1 ∷ inputs.Event 2 ∷ []) ∷ [];
      events = 0 ∷ 1 ∷ 2 ∷ [];
    }

two_of_three_text : tree_text machine two_of_three mark ≡ codes "toplevel \"root/state:bad@1.3\";\n\"root/state:bad@1.3\" 2of3 \"root/e1\" \"root/e2\" \"root/e3\";\n\"root/e1\" prob=1;\n\"root/e2\" prob=1;\n\"root/e3\" prob=1;\n"
unfolding digits
two_of_three_text = refl

-- two of e1, e1 and e2: the second e1 is a gate of its own
abbrev repeated : Tree
repeated =
    record {
      top = 0;
      gates = gate 1 1 3 (AtLeast 2) (inputs.Event 0 ∷ inputs.Gate 1 ∷ inputs.Event 1 ∷ []) ∷ gate 1 1 5 Or (inputs.Event 0 ∷ []) ∷ [];
      events = 0 ∷ 1 ∷ [];
    }

repeated_text : tree_text machine repeated mark ≡ codes "toplevel \"root/state:bad@1.3\";\n\"root/state:bad@1.3\" 2of3 \"root/e1\" \"root/state:bad@1.5\" \"root/e2\";\n\"root/state:bad@1.5\" or \"root/e1\";\n\"root/e1\" prob=1;\n\"root/e2\" prob=1;\n"
unfolding digits
repeated_text = refl

-- two machines that feed each other, both of which the root needs: stages of ten digits and more, a failure rate
abbrev loop : System
loop = named (codes "root/state:bad" ∷ codes "root.a/state:bad" ∷ codes "root.b/state:bad" ∷ []) (codes "root.a/e" ∷ codes "root.b/e" ∷ [])

abbrev fed : Tree
fed =
    record {
      top = 0;
      gates = gate 0 1 1 And (inputs.Gate 1 ∷ inputs.Gate 2 ∷ []) ∷ gate 1 6 3 Or (inputs.Event 0 ∷ inputs.Event 1 ∷ []) ∷ gate 2 16 130 Or (inputs.Event 1 ∷ inputs.Event 0 ∷ []) ∷ [];
      events = 0 ∷ 1 ∷ [];
    }

fed_text : tree_text loop fed (conservative_rate ∷ record { kind = Lambda; text = codes "1.0e-5" } ∷ []) ≡ codes "toplevel \"root/state:bad@1.1\";\n\"root/state:bad@1.1\" and \"root.a/state:bad@6.3\" \"root.b/state:bad@16.130\";\n\"root.a/state:bad@6.3\" or \"root.a/e\" \"root.b/e\";\n\"root.b/state:bad@16.130\" or \"root.b/e\" \"root.a/e\";\n\"root.a/e\" prob=1;\n\"root.b/e\" lambda=1.0e-5;\n"
unfolding digits
fed_text = refl

-- ---- truth

-- the one event of this name
abbrev only : List ℕ → NameSet
only name other = is_same_text name other

-- e1 alone makes the first of these texts true
either_true : Tells (tree_galileo machine either mark) (only (codes "root/e1"))
unfolding digits
either_true = λ set closed. closed.0 (or-true _ _ (closed.1.1.0 refl))

-- e2 alone does not
either_false : Tells (tree_galileo machine either mark) (only (codes "root/e2")) → ⊥
unfolding digits
either_false = λ tells. false≢true (tells (only (codes "root/e2")) ((λ e. e), ((λ e. e), ((λ e. e), ((λ e. e), tt)))))
