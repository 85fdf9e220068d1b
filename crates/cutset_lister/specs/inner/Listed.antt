-- The sets of a family, size by size.
use Rattle.std.specs.Prelude.{ℕ, zero, suc, [], ◌++◌}
use Rattle.zdd_store.specs.inner.Family.{Family}
use Rattle.zdd_store.specs.inner.Answers.{sets_of}

-- the sets of a family that have fewer numbers than so many, those of fewer numbers first, and else in the family's order
unfoldable pub listed : ℕ → Family → Family
listed zero family = []
listed (suc size) family = listed size family ++ sets_of size family
