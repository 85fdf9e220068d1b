use Rattle.std.proofs.Common.{◌≡◌, ◌<◌, ℕ, slice_get, Some}
use Rattle.family_renaming.proofs.permuting.undoes.Given as goal

abbrev pub invariant-loop-place : goal.invariant-loop-place
invariant-loop-place l = (k number : ℕ) → k < l.place → slice_get l.there k ≡ Some number → slice_get l.back number ≡ Some k
