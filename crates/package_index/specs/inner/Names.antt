-- Beside specs/Names.antt: what no clause of `run` reaches.
use Rattle.std.specs.Prelude.{ℕ, List}
use Rattle.package_index.specs.declared.words.Words.{Words}
use Rattle.package_index.specs.declared.words.Words.TheVariants.{Identifiers, Names}

-- the names that stand there, in order
abbrev pub names_of : Words → List (List ℕ)
names_of (Identifiers identifiers) = identifiers.now
names_of (Names names) = names.now
