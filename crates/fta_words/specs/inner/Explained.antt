-- The words of a call that is to be explained.
use Rattle.std.specs.Prelude.{ℕ, Bool, false, not, ◌||◌, if◌then◌else◌, List, [], ◌∷◌, codes}
use Rattle.plain_values.specs.Name.{folded, is_same_text}
use Rattle.fta_words.specs.Table.{all_codes, is_among}

-- whether words are the name of a code alone, or ask for help
abbrev pub is_no_call : List (List ℕ) → Bool
is_no_call [] = false
is_no_call (word ∷ []) = is_among all_codes (folded word) || is_same_text word (codes "--help")
is_no_call (word ∷ next ∷ words) = false

-- the words of a call that is to be explained: those behind `explain`, where they are more than the name of a code; of all other words none
abbrev pub explained_call : List (List ℕ) → List (List ℕ)
explained_call [] = []
explained_call (name ∷ call) = if not (is_same_text name (codes "explain")) || is_no_call call then [] else call
