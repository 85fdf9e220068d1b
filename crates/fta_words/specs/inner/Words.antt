-- Beside specs/Words.antt: what no clause of `run` reaches.
use Rattle.std.specs.Prelude.{◌≡◌, ◌<◌, ℕ, List, ◌++◌, length}
use Rattle.std.specs.List.{AllByRecursion}
use Rattle.aadl_syntax.specs.Form.{IsWord}
use Rattle.fta_words.specs.Words.{with_colons}
use Rattle.fta_words.specs.declared.files.FileWords.{FileWords}

-- ---- plain words

-- A text is one or more identifiers with `::` between them.
pub record AreJoined (text : List ℕ) (names : List (List ℕ)) : Type 0 where
  pub text_is : text ≡ with_colons names
  pub some_name : 0 < length names
  pub identifiers : AllByRecursion IsWord names

-- ---- words that name files

-- all of them
abbrev pub all_names : FileWords → List (List ℕ)
all_names files = files.before.now ++ files.behind.now
