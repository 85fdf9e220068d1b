use Rattle.std.proofs.Common.{ℕ, ◌≡◌, ◌<◌, ◌≤◌, length, slice_index_or}
use Rattle.dot_writer.specs.declared.usages.Usage.TheVariants.{Unused}
use Rattle.dot_writer.specs.TreePicture.{usage_of, users}
use Rattle.dot_writer.proofs.usages.note_gates.Given as goal

abbrev pub invariant-loop-position : goal.invariant-loop-position
invariant-loop-position l =
    (length l.usages ≡ length l.gates) × (l.position ≤ length l.gates)
    × ((n : ℕ) → n < length l.gates → slice_index_or l.usages n Unused ≡ usage_of (users l.gates l.position n))
