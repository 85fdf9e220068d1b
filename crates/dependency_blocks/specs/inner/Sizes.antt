-- The sizes of blocks.
use Rattle.std.specs.Prelude.{ℕ, ◌<◌, ◌≡◌, List, length, slice_index_or}
use Rattle.dependency_blocks.specs.Blocks.{number_of, size_of}

-- a table has the size of each block
abbrev pub HaveSizes : List ℕ → List ℕ → Type 0
HaveSizes numbers sizes = (block : ℕ) → block < 4294967295 → slice_index_or sizes block 0 ≡ size_of numbers block

-- each number of a block is below the number of facts
abbrev pub AreSmall : List ℕ → Type 0
AreSmall numbers = (fact : ℕ) → number_of numbers fact < 4294967295 → number_of numbers fact < length numbers
