use Rattle.std.proofs.Common.{◌≡◌, ◌<◌, ℕ, [], length, take, slice_index_or}
use Rattle.round_gates.specs.inner.Unrolled.{members_of}
use Rattle.round_gates.proofs.unrolling.add_members.Given as goal

abbrev pub invariant-loop-fact : goal.invariant-loop-fact
invariant-loop-fact l = (block : ℕ) → block < length l.fn.lists → block < 4294967295 → slice_index_or l.lists block [] ≡ members_of l.blocks block (take l.fact-index l.facts)
