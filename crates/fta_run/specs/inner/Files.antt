-- Beside specs/Files.antt: what no clause of `run` reaches.
use Rattle.std.specs.Prelude.{◌≡◌, ℕ, ◌<◌, ◌≤◌, List, ◌∷◌, length, sum_by, Option, IfSome}
use Rattle.fta_run.specs.Words.{Kind, Request}
use Rattle.fta_run.specs.Files.{most_files, most_bytes, most_text, MayContain}

-- A file may contain a text and stand before these files: with it they are not too many, and all together not too long.
pub record StandsBefore (contents : List ℕ → Option (List ℕ)) (files : List (List ℕ)) (file text : List ℕ) : Type 0 where
  pub contained : IfSome (contents file) (λ whole. text ≡ whole)
  pub few : length files < most_files
  pub short : length text ≤ most_bytes
  pub little : (texts : List (List ℕ)) → MayContain contents files texts → sum_by length (text ∷ texts) ≤ most_text

-- the same request of another command, and of other files
abbrev pub ask : Kind → List (List ℕ) → Request → Request
ask kind files asked = record { kind = kind; root = asked.root; target = asked.target; number = asked.number; of = asked.of; files = files; options = asked.options }
