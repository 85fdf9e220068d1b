-- The texts of the commands that are no page and no tree.
use Rattle.std.specs.Prelude.{ℕ, List, [], ◌∷◌, ◌++◌, codes, decimal}

-- a number's line: its name, a blank, it and a line feed
abbrev pub number_line : List ℕ → ℕ → List ℕ
number_line name number = name ++ (32 ∷ []) ++ decimal number ++ (10 ∷ [])

-- the lines of the numbers of components, facts and events
abbrev pub numbers_text : ℕ → ℕ → ℕ → List ℕ
numbers_text components facts events =
    number_line (codes "components") components ++ number_line (codes "facts") facts ++ number_line (codes "events") events
