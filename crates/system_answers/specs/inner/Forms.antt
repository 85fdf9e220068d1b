-- Beside specs/Trees.antt: when a tree is true, and the texts of trees as the code has them.
use Rattle.std.specs.Prelude.{ℕ, List, ◌↔◌}
use Rattle.fault_system.specs.Truth.{NumberSet}
use Rattle.fault_system.specs.Systems.{System, Holds}
use Rattle.round_gates.specs.declared.tree.Tree.{Tree}
use Rattle.round_gates.specs.inner.Trees.{TreeHolds}
use Rattle.property_reader.specs.declared.rate.Rate.{Rate}
use Rattle.galileo_writer.specs.inner.TreeText.{AreRates, HasTextNames}
use Rattle.system_answers.specs.declared.form.TreeFormat.{TreeFormat}
use Rattle.system_answers.specs.declared.form.TreeFormat.TheVariants.{Galileo, Mef, Dot}
use Rattle.system_answers.specs.declared.form.TreeText.{TreeText}
use Rattle.system_answers.specs.declared.form.TreeText.TheVariants as text

-- What a text in a format asks of names and rates: Galileo text of both, and a picture of none.
abbrev pub IsWritable : TreeFormat → System → List Rate → Type 0
IsWritable Galileo system rates = HasTextNames system × AreRates system rates
IsWritable Mef system rates = AreRates system rates
IsWritable Dot system rates = Unit {0}

-- A tree is true for a set of events exactly where a target holds under it.
abbrev pub IsTrueFor : System → ℕ → Tree → Type 0
IsTrueFor system target tree = (events : NumberSet) → TreeHolds tree events ↔ Holds system events target

-- the bytes of the text of a tree
abbrev pub tree_bytes : TreeText → List ℕ
tree_bytes (text.Galileo lines) = lines
tree_bytes (text.Mef lines) = lines
tree_bytes (text.Dot lines) = lines
