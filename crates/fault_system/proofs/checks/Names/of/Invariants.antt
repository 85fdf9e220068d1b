use Rattle.std.proofs.Common.{ℕ, ◌≡◌, ◌<◌, ◌≢◌, List, map, take, slice_index_or}
use Rattle.fault_system.proofs.NameTables.{shown}
use Rattle.fault_system.proofs.checks.Names.of.Given as goal

abbrev pub invariant-loop-i : goal.invariant-loop-i
invariant-loop-i g l = record {
  named : shown l.set.keys ≡ map g.T.Named.name_of (take l.i l.items);
  differ : (a b : ℕ) (d : List ℕ) → a < b → b < l.i → slice_index_or (map g.T.Named.name_of l.items) a d ≢ slice_index_or (map g.T.Named.name_of l.items) b d;
}
