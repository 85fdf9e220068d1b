-- The numbers of keys by name, with one key more.
use Rattle.std.proofs.Common.{◌≡◌, ◌<◌, ◌+◌, ℕ, cond, List, [], ◌∷◌, ◌++◌, length, take, get_or, Option, sym, ◌∙◌}
use Rattle.package_index.proofs.Loops.{numbered-more}
use Rattle.package_index.specs.declared.words.Words.{Words}
use Rattle.package_index.specs.inner.Names.{names_of}
use Rattle.package_index.specs.inner.Tables.{same_words}
use Rattle.hazard_records.specs.Meaning.{number_of}
use Rattle.hazard_records.specs.inner.Tables.{KnowsNumbers, row_at}

pub knows-more : (keys : List (List (List ℕ))) (i : ℕ) (key : List (List ℕ)) (words : Words) → i < length keys → key ≡ get_or keys i key → names_of words ≡ key
    → (old new : Words → Option (List ℕ)) → KnowsNumbers (take i keys) old
    → ((other : Words) → row_at (new other) ≡ row_at (old other) ++ cond (same_words words other) (i ∷ []) []) → KnowsNumbers (take (i + 1) keys) new
knows-more keys i key words within is named old new knows adds = λ other.
    let name = names_of other in
    adds other ∙ (λ j. knows other j ++ number_of name i (named j)) ∙ sym (numbered-more (number_of name) keys i key within is)
