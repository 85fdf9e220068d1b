use Rattle.std.proofs.Common.{ℕ, ◌<◌, slice_index_or}
use Rattle.family_renaming.proofs.by_listing.place_in.Given as goal

abbrev pub invariant-loop-place : goal.invariant-loop-place
invariant-loop-place l = (k : ℕ) → k < l.place → slice_index_or l.set k 0 < l.number
