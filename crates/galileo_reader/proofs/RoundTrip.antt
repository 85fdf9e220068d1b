-- The text of a well-made tree reads as the tree.
use Rattle.std.proofs.Common.{false, ◌≤◌, List, length}
use Rattle.fault_system.specs.Systems.{IsSystem, System}
use Rattle.galileo_writer.specs.TreeText.{tree_text}
use Rattle.galileo_writer.specs.inner.TreeText.{AreRates, HasTextNames}
use Rattle.galileo_writer.proofs.Soundness.{text-sound}
use Rattle.galileo_writer.proofs.TreeNames.{event-within, gate-at-name, good, in-tree}
use Rattle.property_reader.specs.declared.rate.Rate.{Rate}
use Rattle.round_gates.specs.declared.tree.Tree.{Tree}
use Rattle.round_gates.specs.inner.Targets.{IsWellMade}
use Rattle.galileo_reader.specs.Trees.{IsRead}
use Rattle.galileo_reader.specs.inner.Written.{named_tree}
use Rattle.galileo_reader.proofs.WrittenTrees.{round-trip}

pub text-read : (system : System) (tree : Tree) (rates : List Rate) → IsSystem system → HasTextNames system → AreRates system rates → IsWellMade system tree → length (tree_text system tree rates) ≤ 4194304 → IsRead false (tree_text system tree rates) (named_tree system tree rates)
text-read system tree rates is_system names are_rates made few =
    round-trip system names tree made rates are_rates (record {
      good = good system is_system names tree made;
      gate_at_name = gate-at-name system is_system names tree made;
      in_tree = in-tree system is_system names tree made;
      event_within = event-within system is_system names tree made;
      sound = text-sound system is_system names tree made rates;
    }) few
