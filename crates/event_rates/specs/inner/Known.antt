-- What a set of names knows.
use Rattle.std.specs.Prelude.{◌≡◌, ℕ, Bool, List}
use Rattle.package_index.specs.declared.words.Words.{Words}
use Rattle.package_index.specs.inner.Names.{names_of}
use Rattle.event_rates.specs.Unused.{is_one_of}

-- The set has exactly the names that are among these.
abbrev pub KnowsNames : List (List (List ℕ)) → (Words → Bool) → Type 0
KnowsNames names has = (words : Words) → has words ≡ is_one_of names (names_of words)
