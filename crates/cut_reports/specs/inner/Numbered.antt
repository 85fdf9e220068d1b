-- Texts that have a line for some of the events.
use Rattle.std.specs.Prelude.{ℕ, ◌+◌, List, [], ◌∷◌, ◌++◌}

-- what is written of each of these names, which have the numbers from this one on
abbrev pub numbered_text : (ℕ → List ℕ → List ℕ) → ℕ → List (List ℕ) → List ℕ
numbered_text line number [] = []
numbered_text line number (name ∷ names) = line number name ++ numbered_text line (number + 1) names
