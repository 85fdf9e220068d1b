use Rattle.std.proofs.Common.{ℕ, ◌≡◌, ◌<◌, length, take, slice_index_or}
use Rattle.round_gates.specs.Trees.{has_gate}
use Rattle.dot_writer.specs.declared.usages.Usage.TheVariants.{Unused}
use Rattle.dot_writer.specs.inner.DotText.{noted}
use Rattle.dot_writer.proofs.usages.note_inputs.Given as goal

abbrev pub invariant-loop-input : goal.invariant-loop-input
invariant-loop-input l =
    (length l.usages ≡ length l.fn.usages)
    × ((n : ℕ) → n < length l.fn.usages → slice_index_or l.usages n Unused ≡ noted l.position (has_gate (take l.input-index l.inputs) n) (slice_index_or l.fn.usages n Unused))
