use Rattle.std.proofs.Common.{ℕ, ◌≡◌, ◌<◌, length, slice_index_or, take}
use Rattle.dependency_blocks.specs.Blocks.{size_of}
use Rattle.dependency_blocks.proofs.block_table.count_all.Given as goal

abbrev pub invariant-loop-number : goal.invariant-loop-number
invariant-loop-number l = record {
  long : length l.sizes ≡ length l.numbers;
  counts : (block : ℕ) → block < length l.numbers → slice_index_or l.sizes block 0 ≡ size_of (take l.number-index l.numbers) block;
}
