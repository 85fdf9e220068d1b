use Rattle.std.proofs.Common.{◌≡◌, ◌≤◌, ℕ, List, take}
use Rattle.fta_run.specs.inner.Held.{AreFronts}
use Rattle.fta_run.proofs.input.read_files.Given as goal

abbrev pub invariant-loop-number : goal.invariant-loop-number
invariant-loop-number g l =
    record {
      fronts : AreFronts (g.F.Files.contents l.fn.files) (take l.number l.names) l.texts;
      kept : (other : List ℕ) → g.F.Files.contents l.files other ≡ g.F.Files.contents l.fn.files other;
      grows : (other : List ℕ) → g.F.Files.faults l.fn.files other ≤ g.F.Files.faults l.files other;
    }
