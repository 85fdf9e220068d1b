use Rattle.std.proofs.Common.{ℕ, ◌≡◌, [], length}
use Rattle.std.specs.Prelude.{slice_index_or}
use Rattle.sheet_model.proofs.gathered.empty_lists.Given as goal

abbrev pub invariant-loop : goal.invariant-loop
invariant-loop l = record { size : length l.lists.items ≡ l.counter; empty : (k : ℕ) → slice_index_or l.lists.items k [] ≡ [] }
